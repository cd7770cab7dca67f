-- What holds of the items of a region stays true where one more is read, and where the last one is marked.
use Rattle.std.proofs.Common.{◌≡◌, ℕ, zero, suc, ◌<◌, List, [], ◌∷◌, ◌++◌, length, length-append, refl, subst, ◌∙◌, arith}
use Rattle.sl_model.specs.declared.instruction.Instr.{Instr}
use Rattle.sl_model.specs.Source.{item_at}
use Rattle.sl_model.specs.Isa.{Isa}
use Rattle.sl_model.specs.Lawful.{IsValid, AreValid}
use Rattle.sl_isa.specs.Language.{Language, IsLanguage, IsNamed, IsSpelled, unmarked, AreSpelled}
use Rattle.sl_isa.specs.Symbols.{Pair}
use Rattle.sl_isa.proofs.ForCallers.{have_pairs-longer}
use Rattle.asm_reader.specs.Regions.{AreNamed}

-- an item that no other one stands behind, and one before it
item-before : (items : List Instr) (i : Instr) (p : ℕ) → p < length items → item_at (items ++ i ∷ []) p ≡ item_at items p
item-before [] i p within = absurd (omega arith)
item-before (x ∷ items) i zero within = refl
item-before (x ∷ items) i (suc p) within = item-before items i p (omega arith)

item-last : (items : List Instr) (i : Instr) → item_at (items ++ i ∷ []) (length items) ≡ i
item-last [] i = refl
item-last (x ∷ items) i = item-last items i

-- one more item that words spell
pub are_spelled-push : (language : Language) (pairs : List Pair) (items : List Instr) (i : Instr) → AreSpelled language pairs items → IsSpelled language pairs i → AreSpelled language pairs (items ++ i ∷ [])
are_spelled-push language pairs [] i all is = (is, tt)
are_spelled-push language pairs (x ∷ items) i all is = (all.0, are_spelled-push language pairs items i all.1 is)

-- with more names they are spelled by the same words
pub are_spelled-more : (language : Language) (pairs more : List Pair) (items : List Instr) → IsLanguage language → AreSpelled language pairs items → AreSpelled language (pairs ++ more) items
are_spelled-more language pairs more [] lawful all = tt
are_spelled-more language pairs more (i ∷ items) lawful all = (
  record {
    words = all.0.words;
    known = have_pairs-longer (language.pairs_in all.0.words) pairs more all.0.known;
    read = lawful.more pairs more all.0.words all.0.known ∙ all.0.read;
  },
  are_spelled-more language pairs more items lawful all.1,
)

-- and their registers are named
pub are_named : (language : Language) (pairs : List Pair) (items : List Instr) → IsLanguage language → AreSpelled language pairs items → AreNamed pairs items
are_named language pairs [] lawful all p within = absurd (omega arith)
are_named language pairs (i ∷ items) lawful all zero within =
    let named : IsNamed pairs (unmarked i) = (lawful.read pairs all.0.words (unmarked i) all.0.known all.0.read).named in
    record { operands_named = named.operands_named; outputs_named = named.outputs_named }
are_named language pairs (i ∷ items) lawful all (suc p) within = are_named language pairs items lawful all.1 p (omega arith)

-- ---- the last item, changed

-- the items before the last one, and it
pub are_valid-parts : (isa : Isa) (items : List Instr) (i : Instr) → AreValid isa (items ++ i ∷ []) → AreValid isa items × IsValid isa i
are_valid-parts isa items i all = (
  λ p within.
      let inner : p < length (items ++ i ∷ []) = omega (arith, length-append items (i ∷ [])) in
      subst (IsValid isa) (item-before items i p within) (all p inner),
  let inner : length items < length (items ++ i ∷ []) = omega (arith, length-append items (i ∷ [])) in
      subst (IsValid isa) (item-last items i) (all (length items) inner),
)

pub are_spelled-parts : (language : Language) (pairs : List Pair) (items : List Instr) (i : Instr) → AreSpelled language pairs (items ++ i ∷ []) → AreSpelled language pairs items × IsSpelled language pairs i
are_spelled-parts language pairs [] i all = (tt, all.0)
are_spelled-parts language pairs (x ∷ items) i all =
    let rest = are_spelled-parts language pairs items i all.1 in
    ((all.0, rest.0), rest.1)
