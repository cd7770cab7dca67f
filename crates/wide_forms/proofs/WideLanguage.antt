-- The language of a table each of whose instructions has `.w` or not has all laws of a language where the table's has them.
use Rattle.std.proofs.Common.{◌≡◌, ◌∙◌, ap, subst, refl, ℕ, Bool, true, false, List, [], ◌∷◌, ◌++◌, slice_index}
use Rattle.std.specs.Prelude.{slice_get, Option, Some, None, Result, Ok, Err}
use Rattle.std.specs.List.{list_all}
use Rattle.std.proofs.lemmas.Bool.{and_parts, and_from}
use Rattle.sl_model.specs.declared.text.Comments.{Comments}
use Rattle.sl_model.specs.declared.text.Comments.TheVariants.{Slash}
use Rattle.sl_model.specs.declared.register.Reg.{Reg}
use Rattle.sl_model.specs.declared.instruction.ArchName.{ArchName}
use Rattle.sl_model.specs.declared.instruction.Instr.{Instr}
use Rattle.sl_model.specs.Machine.{limit_of}
use Rattle.sl_model.specs.Isa.{Isa, Op, op_of}
use Rattle.sl_model.specs.Lawful.{IsValid, IsLawful}
use Rattle.sl_model.specs.Token.{Lexeme}
use Rattle.sl_isa.specs.declared.arch.CounterOp.{CounterOp}
use Rattle.sl_isa.specs.declared.reasons.FormReason.{FormReason}
use Rattle.sl_isa.specs.Steps.{Steps, stepped}
use Rattle.sl_isa.specs.Symbols.{Pair, have_pairs}
use Rattle.sl_isa.specs.Language.{IsRead, IsSpelled, IsSpelledAt, IsRenaming, IsLanguage, is_no_feed, unmarked}
use Rattle.form_table.specs.Rows.{row_operands, mnemonic_text}
use Rattle.form_table.specs.Symbols.{pairs_in}
use Rattle.form_table.specs.Reads.{reads}
use Rattle.form_table.specs.Printed.{helds_in, operands_text, row_text, row_printed, printed}
use Rattle.form_table.specs.Tables.{is_readable}
use Rattle.form_table.specs.declared.rows.Slot.TheVariants as slot
use Rattle.form_table.specs.declared.rows.Row.{Row}
use Rattle.form_table.proofs.PrintedNames.{all_more}
use Rattle.form_isa.specs.TableIsa.{table_isa, table_language}
use Rattle.form_isa.proofs.ForCallers.{not_wide}
use Rattle.wide_forms.specs.Wide.{narrow, is_wide, with_wide, kept_wide, wide_pairs_in, wide_reads, suffix, wide_row_printed, wide_printed, narrow_op, wide_isa, wide_language}
use Rattle.wide_forms.proofs.WideWords.{helds-with, behind_same, GivesWide, wide_spelled_at}

-- ---- the set

-- an instruction without `.w`
abbrev narrow_of : Instr → Instr
narrow_of i = with_wide false i

valid-narrow : (isa : Isa) (i : Instr) → IsValid (wide_isa isa) i → IsValid isa (narrow_of i)
unfolding wide_isa
valid-narrow isa i v = record {
  op = v.op;
  ins_shape = v.ins_shape;
  outs_shape = v.outs_shape;
  operand_count = v.operand_count;
  output_count = v.output_count;
  operand_classes = v.operand_classes;
  output_classes = v.output_classes;
  distinct = v.distinct;
  tied = v.tied;
  base_apart = v.base_apart;
}

-- what an instruction does that isn't wide
op-narrow : (i : Instr) → i.wide ≡ false → op_of i ≡ narrow_op (op_of i)
op-narrow i e = ap (λ b. (let o : Op = record { form = i.form; wide = b; imms = i.imms } in o)) e

valid-wide : (isa : Isa) (i : Instr) (wide : Bool) → i.wide ≡ false → IsValid isa i → IsValid (wide_isa isa) (with_wide wide i)
unfolding wide_isa
valid-wide isa i wide e v = record {
  op = subst (λ o. isa.valid o ≡ true) (op-narrow i e) v.op;
  ins_shape = v.ins_shape;
  outs_shape = v.outs_shape;
  operand_count = v.operand_count;
  output_count = v.output_count;
  operand_classes = v.operand_classes;
  output_classes = v.output_classes;
  distinct = v.distinct;
  tied = v.tied;
  base_apart = v.base_apart;
}

set-wide : (isa : Isa) → IsLawful isa → IsLawful (wide_isa isa)
unfolding wide_isa
set-wide isa l = record {
  known = λ o v. l.known (narrow_op o) v;
  sizes = l.sizes;
  offset_low = λ o v. l.offset_low (narrow_op o) v;
  offset_high = λ o v. l.offset_high (narrow_op o) v;
  writable = l.writable;
  base = l.base;
  value_count = λ i ins loaded v same some. l.value_count (narrow_of i) ins loaded (valid-narrow isa i v) same some;
  values_fit = λ i ins loaded v same some fits bytes. l.values_fit (narrow_of i) ins loaded (valid-narrow isa i v) same some fits bytes;
  stored_count = λ i ins v store same. l.stored_count (narrow_of i) ins (valid-narrow isa i v) store same;
  stored_fit = λ i ins v store same. l.stored_fit (narrow_of i) ins (valid-narrow isa i v) store same;
}

steps-wide : (isa : Isa) (op : CounterOp) (counter : Reg) (line : ℕ) (i : Instr) → i.wide ≡ false → Steps isa op counter line i →
    Steps (wide_isa isa) op counter line i
unfolding wide_isa
steps-wide isa op counter line i e s = record {
  valid = valid-wide isa i i.wide e s.valid;
  plain = s.plain;
  no_access = s.no_access;
  reads = s.reads;
  writes = s.writes;
  value = λ n low.
      subst (λ o. slice_index (isa.values o (n ∷ []) []) 0 ≡ stepped op (limit_of isa.name counter.bank) n) (op-narrow i e) (s.value n low);
}

-- ---- what is read

-- what was read with `.w` or without was read without
record IsKept (wide : Bool) (r : Result Instr FormReason) (i : Instr) : Type 0 where
  narrow : Instr
  read : r ≡ Ok narrow
  is : with_wide wide narrow ≡ i

kept-is : (wide : Bool) (r : Result Instr FormReason) (i : Instr) → kept_wide wide r ≡ Ok i → IsKept wide r i
kept-is wide (Ok j) i e = record { narrow = j; read = refl; is = (let same : with_wide wide j ≡ i = cc in same) }
kept-is wide (Err reason) i e = absurd cc

-- What a table reads is an instruction of it, and not wide.
record IsPlain (name : ArchName) (table : List Row) (pairs : List Pair) (i : Instr) : Type 0 where
  read : IsRead (table_isa name table) pairs i
  wide : i.wide ≡ false

-- the laws of the table's language
abbrev Laws : ArchName → List Row → (CounterOp → Reg → ℕ → Instr) → Type 0
Laws name table step_of = IsLanguage (table_language name table step_of)

plain-is : (name : ArchName) (table : List Row) (step_of : CounterOp → Reg → ℕ → Instr) → Laws name table step_of →
    (pairs : List Pair) (words : List Lexeme) (i : Instr) → have_pairs (pairs_in words) pairs ≡ true → reads table pairs words ≡ Ok i →
    IsPlain name table pairs i
unfolding table_language table_isa
plain-is name table step_of laws pairs words i known e =
    let r : IsRead (table_isa name table) pairs i = laws.read pairs words i known e in
    record { read = r; wide = not_wide (slice_get table i.form) (op_of i) r.valid.op }

read-wide : (isa : Isa) (pairs : List Pair) (i : Instr) (wide : Bool) → i.wide ≡ false → IsRead isa pairs i → IsRead (wide_isa isa) pairs (with_wide wide i)
read-wide isa pairs i wide e r = record {
  valid = valid-wide isa i wide e r.valid;
  plain = r.plain;
  named = record { operands_named = r.named.operands_named; outputs_named = r.named.outputs_named };
}

-- ---- in other registers

-- an instruction that isn't wide is itself without `.w`
narrow-self : (i : Instr) → i.wide ≡ false → i ≡ narrow_of i
narrow-self i e = ap (λ b. with_wide b i) e

renaming-narrow : (isa : Isa) (i j : Instr) → IsRenaming (wide_isa isa) i j → IsRenaming isa (narrow_of i) (narrow_of j)
renaming-narrow isa i j r = record {
  same = ap narrow_of r.same;
  valid = valid-narrow isa j r.valid;
  concrete = record { operands_concrete = r.concrete.operands_concrete; outputs_concrete = r.concrete.outputs_concrete };
}

-- what is read without `.w` is spelled with it or without
spelled-wide : (name : ArchName) (table : List Row) (step_of : CounterOp → Reg → ℕ → Instr) → is_readable table ≡ true →
    (pairs : List Pair) (words : List Lexeme) (i : Instr) → reads table pairs words ≡ Ok (unmarked (narrow_of i)) →
    IsSpelled (wide_language name table step_of) pairs i
unfolding wide_language wide_reads
spelled-wide name table step_of tests pairs words i e =
    let g = wide_spelled_at table tests pairs words (unmarked (narrow_of i)) e i.wide Slash 0 [] refl in
    record {
      words = g.words;
      known = g.known;
      read = ap (λ b. kept_wide b (reads table pairs (narrow g.words))) g.is ∙ ap (kept_wide i.wide) g.read;
    }

renamed-wide : (name : ArchName) (table : List Row) (step_of : CounterOp → Reg → ℕ → Instr) → is_readable table ≡ true → Laws name table step_of →
    (pairs : List Pair) (i j : Instr) → IsSpelled (wide_language name table step_of) pairs i →
    IsRenaming (wide_isa (table_isa name table)) i j → IsSpelled (wide_language name table step_of) [] j
unfolding wide_language wide_reads wide_pairs_in table_language
renamed-wide name table step_of tests laws pairs i j spelled renaming =
    let kept : IsKept (is_wide spelled.words) (reads table pairs (narrow spelled.words)) (unmarked i) =
    kept-is (is_wide spelled.words) (reads table pairs (narrow spelled.words)) (unmarked i) spelled.read in
    let plain : IsPlain name table pairs kept.narrow =
    plain-is name table step_of laws pairs (narrow spelled.words) kept.narrow spelled.known kept.read in
    let same : kept.narrow ≡ unmarked (narrow_of i) = narrow-self kept.narrow plain.wide ∙ ap narrow_of kept.is in
    let there : IsSpelled (table_language name table step_of) pairs (narrow_of i) = record {
      words = narrow spelled.words;
      known = spelled.known;
      read = kept.read ∙ ap (λ (k : Instr). (let r : Result Instr FormReason = Ok k in r)) same;
    } in
    let other : IsSpelled (table_language name table step_of) [] (narrow_of j) =
    laws.renamed pairs (narrow_of i) (narrow_of j) there (renaming-narrow (table_isa name table) i j renaming) in
    spelled-wide name table step_of tests [] other.words j other.read

-- ---- what is printed

all-parts : (p : ℕ → Bool) (a b : List ℕ) → list_all p (a ++ b) ≡ true → (list_all p a ≡ true) × (list_all p b ≡ true)
all-parts p [] b e = (refl, e)
all-parts p (x ∷ a) b e =
    let one = and_parts (p x) (list_all p (a ++ b)) e in
    let rest = all-parts p a b one.1 in
    (and_from (p x) (list_all p a) one.0 rest.0, rest.1)

suffix-goes_on : (wide : Bool) → list_all is_no_feed (suffix wide) ≡ true
suffix-goes_on false = refl
suffix-goes_on true = refl

row-one_line : (pairs : List Pair) (o : Option Row) (wide : Bool) (i : Instr) → list_all is_no_feed (row_printed pairs o i) ≡ true →
    list_all is_no_feed (wide_row_printed pairs o (with_wide wide i)) ≡ true
unfolding row_text
row-one_line pairs None wide i e = refl
row-one_line pairs (Some row) wide i e =
    let ops : List ℕ = operands_text pairs slot.Gap (row_operands row) (helds_in i (row_operands row) 0 0 0) in
    let parts = all-parts is_no_feed (mnemonic_text row) ops e in
    ap (λ helds. list_all is_no_feed (mnemonic_text row ++ (suffix wide ++ operands_text pairs slot.Gap (row_operands row) helds)))
    (helds-with i wide i.tag i.early i.late i.line (row_operands row) 0 0 0)
    ∙ all_more is_no_feed (mnemonic_text row) (suffix wide ++ ops) parts.0
    (all_more is_no_feed (suffix wide) ops (suffix-goes_on wide) parts.1)

row-plain : (pairs : List Pair) (o : Option Row) (i : Instr) → row_printed pairs o i ≡ row_printed [] o i →
    wide_row_printed pairs o i ≡ wide_row_printed [] o i
unfolding row_text
row-plain pairs None i e = refl
row-plain pairs (Some row) i e =
    let helds = helds_in i (row_operands row) 0 0 0 in
    ap (λ text. mnemonic_text row ++ (suffix i.wide ++ text))
    (behind_same (mnemonic_text row) (operands_text pairs slot.Gap (row_operands row) helds) (operands_text [] slot.Gap (row_operands row) helds) e)

plain-wide : (table : List Row) (pairs : List Pair) (i : Instr) → printed table pairs i ≡ printed table [] i → wide_printed table pairs i ≡ wide_printed table [] i
unfolding printed wide_printed
plain-wide table pairs i e = row-plain pairs (slice_get table i.form) i e

line-wide : (table : List Row) (pairs : List Pair) (wide : Bool) (i : Instr) → list_all is_no_feed (printed table pairs i) ≡ true →
    list_all is_no_feed (wide_printed table pairs (with_wide wide i)) ≡ true
unfolding printed wide_printed
line-wide table pairs wide i e = row-one_line pairs (slice_get table i.form) wide i e

row-unmarked : (pairs : List Pair) (o : Option Row) (i : Instr) → wide_row_printed pairs o (unmarked i) ≡ wide_row_printed pairs o i
row-unmarked pairs None i = refl
row-unmarked pairs (Some row) i =
    ap (λ helds. mnemonic_text row ++ (suffix i.wide ++ operands_text pairs slot.Gap (row_operands row) helds))
    (helds-with i i.wide None false false 0 (row_operands row) 0 0 0)

unmarked-wide : (table : List Row) (pairs : List Pair) (i : Instr) → wide_printed table pairs (unmarked i) ≡ wide_printed table pairs i
unfolding wide_printed
unmarked-wide table pairs i = row-unmarked pairs (slice_get table i.form) i

again-wide : (name : ArchName) (table : List Row) (step_of : CounterOp → Reg → ℕ → Instr) (pairs : List Pair) (comments : Comments) (text : List ℕ) (place : ℕ) (behind : List ℕ) (wide : Bool) (i : Instr) →
    GivesWide table pairs comments text place behind wide i →
    IsSpelledAt (wide_language name table step_of) pairs comments text place behind (with_wide wide i)
unfolding wide_language wide_reads
again-wide name table step_of pairs comments text place behind wide i g = record {
  words = g.words;
  tokens = g.tokens;
  plain = g.plain;
  known = g.known;
  read = ap (λ b. kept_wide b (reads table pairs (narrow g.words))) g.is ∙ ap (kept_wide wide) g.read;
}

-- ---- all laws

-- what words that are kept so are
kept-by : (table : List Row) (pairs : List Pair) (words : List Lexeme) (i : Instr) → wide_reads table pairs words ≡ Ok i →
    IsKept (is_wide words) (reads table pairs (narrow words)) i
unfolding wide_reads
kept-by table pairs words i e = kept-is (is_wide words) (reads table pairs (narrow words)) i e

kept-read : (name : ArchName) (table : List Row) (step_of : CounterOp → Reg → ℕ → Instr) → Laws name table step_of →
    (pairs : List Pair) (words : List Lexeme) (i : Instr) → have_pairs (wide_pairs_in words) pairs ≡ true → wide_reads table pairs words ≡ Ok i →
    IsRead (wide_isa (table_isa name table)) pairs i
unfolding wide_pairs_in
kept-read name table step_of laws pairs words i known e =
    let kept = kept-by table pairs words i e in
    let plain = plain-is name table step_of laws pairs (narrow words) kept.narrow known kept.read in
    subst (IsRead (wide_isa (table_isa name table)) pairs) kept.is
    (read-wide (table_isa name table) pairs kept.narrow (is_wide words) plain.wide plain.read)

none-wide : (table : List Row) (pairs : List Pair) (i : Instr) → ((j : Instr) → reads table pairs [] ≡ Ok j → ⊥) → wide_reads table pairs [] ≡ Ok i → ⊥
unfolding narrow
none-wide table pairs i none e = let kept = kept-by table pairs [] i e in none kept.narrow kept.read

pub wide-language : (name : ArchName) (table : List Row) (step_of : CounterOp → Reg → ℕ → Instr) → is_readable table ≡ true → IsLanguage (table_language name table step_of) →
    ((op : CounterOp) (counter : Reg) (line : ℕ) → (step_of op counter line).wide ≡ false) → IsLanguage (wide_language name table step_of)
unfolding wide_language wide_reads wide_pairs_in table_language wide_isa table_isa
wide-language name table step_of tests laws narrow_steps = record {
  set = set-wide (table_isa name table) laws.set;
  read = kept-read name table step_of laws;
  few = λ pairs words i known e. (let kept = kept-by table pairs words i e in laws.few pairs (narrow words) kept.narrow known kept.read);
  more = λ pairs others words known. ap (kept_wide (is_wide words)) (laws.more pairs others (narrow words) known);
  renamed = renamed-wide name table step_of tests laws;
  nothing = λ pairs i e. none-wide table pairs i (laws.nothing pairs) e;
  again = λ pairs words i known e comments place behind is.
      let kept = kept-by table pairs words i e in
      subst (λ j. IsSpelledAt (wide_language name table step_of) pairs comments (wide_printed table pairs j) place behind j) kept.is
      (again-wide name table step_of pairs comments _ place behind (is_wide words) kept.narrow
      (wide_spelled_at table tests pairs (narrow words) kept.narrow kept.read (is_wide words) comments place behind is));
  one_line = λ pairs words i known e.
      let kept = kept-by table pairs words i e in
      subst (λ j. list_all is_no_feed (wide_printed table pairs j) ≡ true) kept.is
      (line-wide table pairs (is_wide words) kept.narrow (laws.one_line pairs (narrow words) kept.narrow known kept.read));
  plain_printed = λ pairs i concrete. plain-wide table pairs i (laws.plain_printed pairs i concrete);
  unmarked_printed = unmarked-wide table;
  steps = λ op counter line counts step. steps-wide (table_isa name table) op counter line (step_of op counter line) (narrow_steps op counter line) (laws.steps op counter line counts step);
}
