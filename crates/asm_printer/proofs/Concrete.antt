-- Items without symbolic registers: they need no names, and read none that is unset.
use Rattle.std.proofs.Common.{◌≡◌, ℕ, zero, suc, ◌<◌, Bool, true, false, cond, not, ◌&&◌, ◌||◌, List, [], ◌∷◌, ◌++◌, length, map, None, Some, slice_get, refl, sym, ap, ◌∙◌, subst, arith}
use Rattle.std.specs.List.{list_all, list_any}
use Rattle.std.proofs.lemmas.Bool.{and_parts, and_from}
use Rattle.sl_model.specs.declared.register.Reg.{Reg}
use Rattle.sl_model.specs.declared.instruction.Instr.{Instr}
use Rattle.sl_model.specs.Source.{operands, outputs, item_at}
use Rattle.sl_isa.specs.Language.{Language, IsLanguage, IsConcrete, IsNamed, IsSpelled, is_concrete, unmarked, AreSpelled}
use Rattle.sl_isa.specs.Symbols.{Pair, is_named, is_pair_of}
use Rattle.asm_reader.specs.Regions.{AreNamed}
use Rattle.asm_reader.specs.Unset.{is_unset, first_unset}

-- what is named of all items is named of those behind the first
pub named-rest : (pairs : List Pair) (i : Instr) (items all : List Instr) → all ≡ i ∷ items → AreNamed pairs all → AreNamed pairs items
named-rest pairs i items all is named = λ p within.
    subst (λ l. (k : ℕ) → k < length l → IsNamed pairs (item_at l k)) is named (suc p) (omega arith)

-- ---- without names

-- a register that no pairs name is the machine's
plain-named : (r : Reg) → is_named [] r ≡ true → is_concrete r ≡ true
plain-named r named = of r.symbolic named
  where
    of : (symbolic : Bool) → cond symbolic false true ≡ true → not symbolic ≡ true
    of true e = absurd cc
    of false e = refl

all-plain : (regs : List Reg) → list_all (is_named []) regs ≡ true → list_all is_concrete regs ≡ true
all-plain [] named = refl
all-plain (r ∷ regs) named =
    let parts = and_parts (is_named [] r) (list_all (is_named []) regs) named in
    and_from (is_concrete r) (list_all is_concrete regs) (plain-named r parts.0) (all-plain regs parts.1)

-- what words spell without names has registers of the machine alone
pub spelled-plain : (language : Language) (i : Instr) → IsLanguage language → IsSpelled language [] i → IsConcrete (unmarked i)
spelled-plain language i lawful is =
    let named : IsNamed [] (unmarked i) = (lawful.read [] is.words (unmarked i) is.known is.read).named in
    record {
      operands_concrete = all-plain (operands (unmarked i)) named.operands_named;
      outputs_concrete = all-plain (outputs (unmarked i)) named.outputs_named;
    }

-- registers of the machine are named by any pairs
concrete-named : (pairs : List Pair) (r : Reg) → is_concrete r ≡ true → is_named pairs r ≡ true
concrete-named pairs r concrete = of r.symbolic concrete
  where
    of : (symbolic : Bool) → not symbolic ≡ true → cond symbolic (is_pair_of r.bank (slice_get pairs r.number)) true ≡ true
    of true e = absurd cc
    of false e = refl

all-named : (pairs : List Pair) (regs : List Reg) → list_all is_concrete regs ≡ true → list_all (is_named pairs) regs ≡ true
all-named pairs [] concrete = refl
all-named pairs (r ∷ regs) concrete =
    let parts = and_parts (is_concrete r) (list_all is_concrete regs) concrete in
    and_from (is_named pairs r) (list_all (is_named pairs) regs) (concrete-named pairs r parts.0) (all-named pairs regs parts.1)

-- so what words spell without names is named by any pairs
pub spelled-named : (language : Language) (pairs : List Pair) (items : List Instr) → IsLanguage language → AreSpelled language [] items → AreNamed pairs items
spelled-named language pairs [] lawful all p within = absurd (omega arith)
spelled-named language pairs (i ∷ items) lawful all zero within =
    let plain : IsConcrete (unmarked i) = spelled-plain language i lawful all.0 in
    record {
      operands_named = all-named pairs (operands i) plain.operands_concrete;
      outputs_named = all-named pairs (outputs i) plain.outputs_concrete;
    }
spelled-named language pairs (i ∷ items) lawful all (suc p) within = spelled-named language pairs items lawful all.1 p (omega (arith, within))

-- and it is printed alike with any names, its line, tag and marks aside
pub spelled-printed : (language : Language) (pairs : List Pair) (i : Instr) → IsLanguage language → IsSpelled language [] i → language.printed pairs i ≡ language.printed [] (unmarked i)
spelled-printed language pairs i lawful is = sym (lawful.unmarked_printed pairs i) ∙ lawful.plain_printed pairs (unmarked i) (spelled-plain language i lawful is)

-- ---- what they read

-- Are all operands of an item the machine's?
abbrev pub reads_concrete : Instr → Bool
reads_concrete i = list_all is_concrete (operands i)

pub all-read : (language : Language) (items : List Instr) → IsLanguage language → AreSpelled language [] items → list_all reads_concrete (map unmarked items) ≡ true
all-read language [] lawful all = refl
all-read language (i ∷ items) lawful all =
    and_from (reads_concrete (unmarked i)) (list_all reads_concrete (map unmarked items)) (spelled-plain language i lawful all.0).operands_concrete (all-read language items lawful all.1)

-- whether operands are the machine's doesn't depend on what lines say
pub read-unmarked : (items : List Instr) → list_all reads_concrete (map unmarked items) ≡ list_all reads_concrete items
read-unmarked [] = refl
read-unmarked (i ∷ items) = ap (λ b. reads_concrete i && b) (read-unmarked items)

-- a register of the machine is never unset
plain-set : (symbolic other : Bool) → not symbolic ≡ true → cond symbolic other false ≡ false
plain-set true other e = absurd cc
plain-set false other e = refl

none-read : (above : List Instr) (regs : List Reg) → list_all is_concrete regs ≡ true → list_any (is_unset above) regs ≡ false
none-read above [] all = refl
none-read above (r ∷ regs) all =
    let parts = and_parts (is_concrete r) (list_all is_concrete regs) all in
    ap (λ b. b || list_any (is_unset above) regs) (plain-set r.symbolic _ parts.0) ∙ none-read above regs parts.1

pub none-unset : (above items : List Instr) → list_all reads_concrete items ≡ true → first_unset above items ≡ None
unfolding first_unset
none-unset above [] all = refl
none-unset above (i ∷ items) all =
    let parts = and_parts (reads_concrete i) (list_all reads_concrete items) all in
    ap (λ b. cond b (Some i.line) (first_unset (above ++ i ∷ []) items)) (none-read above (operands i) parts.0) ∙ none-unset (above ++ i ∷ []) items parts.1
