-- What is read of the written region of a legal schedule, and what it leaves.
use Rattle.std.proofs.Common.{◌≡◌, ℕ, zero, suc, ◌+◌, ◌^◌, ◌&&◌, not, nat_lt, slice_get, is_some, Option, None, Some, sym, ◌≤◌, Bool, true, false, List, [], ◌∷◌, ◌++◌, length, map, reverse, codes, inl, inr, if◌then◌else◌, refl, ap, ◌∙◌, arith}
use Rattle.sl_model.specs.declared.frame.Frame.{Frame}
use Rattle.sl_model.specs.declared.register.Reg.{Reg}
use Rattle.sl_model.specs.declared.instruction.Instr.{Instr}
use Rattle.sl_isa.specs.Arch.{comments_of}
use Rattle.sl_model.specs.State.{State, read, byte}
use Rattle.sl_model.specs.Isa.{Isa}
use Rattle.sl_model.specs.Exec.{loaded_by, values_of, memory_after, Touch, has_access, touch_of, exec, run, touches, operand_values}
use Rattle.sl_model.specs.Program.{Program, Leaves, is_access, times_of}
use Rattle.sl_model.specs.Program.Program.{Straight}
use Rattle.sl_isa.specs.Language.{Language, IsLanguage, unmarked, AreSpelled}
use Rattle.sl_isa.specs.Symbols.{Pair}
use Rattle.asm_printer.proofs.Concrete.{reads_concrete, all-read}
use Rattle.asm_reader.specs.declared.reasons.Wants.{Wants}
use Rattle.asm_reader.specs.Drafts.{most_items}
use Rattle.asm_reader.specs.Reading.{region_alone}
use Rattle.asm_printer.specs.Lines.{IsLineEnd}
use Rattle.asm_printer.specs.Lines as reading
use Rattle.asm_printer.proofs.ReadLines.{ReadsAs, IsNoted, region_added}
use Rattle.asm_printer.proofs.NoteWords.{right_tag, lt_from, note-said, head-said}
use Rattle.std.proofs.lemmas.Bool.{and_parts, not-true}
use Rattle.asm_printer.specs.Printed.{PlanValue, head_note, ends_by_both, line_end, tag_name, fits, is_whole, is_whole_head, is_whole_plan, entries, region_text}
use Rattle.asm_reader.specs.Notes.{NoteValue, is_tag}
use Rattle.asm_reader.specs.Regions.{is_right_tag, is_marked_right, is_right_unit}
use Rattle.std.specs.List.{list_all, AllByRecursion}
use Rattle.asm_printer.proofs.Entries.{head-inside, all-printed, length-entries, entries-unmarked}

-- On which lines instructions stand, with which tags and marks, changes nothing of what they do.

run-unmarked : (isa : Isa) (items : List Instr) (s : State) → run isa (map unmarked items) s ≡ run isa items s
unfolding run exec values_of memory_after loaded_by
run-unmarked isa [] s = refl
run-unmarked isa (i ∷ items) s = run-unmarked isa items (exec isa i s)

-- how often an access occurs behind one that may be there
times-behind : (a b c : Touch) (some : Bool) (rest other : List Touch) → is_access a b ≡ is_access a c → times_of a rest ≡ times_of a other
    → times_of a ((if some then b ∷ [] else []) ++ rest) ≡ times_of a ((if some then c ∷ [] else []) ++ other)
unfolding times_of
times-behind a b c true rest other same e = ap (λ t. (if t then 1 else 0) + times_of a rest) same ∙ ap (λ n. (if is_access a c then 1 else 0) + n) e
times-behind a b c false rest other same e = e

times-unmarked : (isa : Isa) (a : Touch) (items : List Instr) (s : State) → times_of a (touches isa (map unmarked items) s) ≡ times_of a (touches isa items s)
unfolding touches exec values_of memory_after loaded_by
times-unmarked isa a [] s = refl
times-unmarked isa a (i ∷ items) s =
    times-behind a (touch_of isa (unmarked i) (operand_values i s)) (touch_of isa i (operand_values i s)) (has_access (isa.info i.form))
    (touches isa (map unmarked items) (exec isa i s)) (touches isa items (exec isa i s)) refl (times-unmarked isa a items (exec isa i s))

-- Where two lists differ in lines, tags and marks alone, the second leaves what the first leaves.
pub leaves-unmarked : (isa : Isa) (decrement : Bool → Reg → Instr) (frame : Frame) (old : Program) (items new : List Instr) (s : State) → map unmarked new ≡ map unmarked items
    → Leaves isa decrement frame old (Straight items) s → Leaves isa decrement frame old (Straight new) s
leaves-unmarked isa decrement frame old items new s same leaves =
    let runs : run isa new s ≡ run isa items s = sym (run-unmarked isa new s) ∙ ap (λ l. run isa l s) same ∙ run-unmarked isa items s in
    record {
      registers = λ r one. ap (λ (t : State). read t r) runs ∙ leaves.registers r one;
      bytes = λ address. ap (λ (t : State). byte t.memory address) runs ∙ leaves.bytes address;
      others = λ r concrete none. ap (λ (t : State). read t r) runs ∙ leaves.others r concrete none;
      access_counts = λ a.
          sym (times-unmarked isa a new s) ∙ ap (λ l. times_of a (touches isa l s)) same ∙ times-unmarked isa a items s ∙ leaves.access_counts a;
    }

-- the tag of an instruction is named rightly, and only of one that accesses memory there is one
named-right : (tags : List (List ℕ)) (k : ℕ) → list_all is_tag tags ≡ true → right_tag (slice_get tags k) ≡ true
named-right [] k h = refl
named-right (tag ∷ tags) zero h = (and_parts (is_tag tag) (list_all is_tag tags) h).0
named-right (tag ∷ tags) (suc k) h = named-right tags k (and_parts (is_tag tag) (list_all is_tag tags) h).1

tag-right : (tags : List (List ℕ)) (tag : Option ℕ) → list_all is_tag tags ≡ true → right_tag (tag_name tags tag) ≡ true
tag-right tags None h = refl
tag-right tags (Some k) h = named-right tags k h

tag-accesses : (accesses : Bool) (tags : List (List ℕ)) (tag : Option ℕ) → is_right_tag accesses (length tags) tag ≡ true → is_some (tag_name tags tag) ≡ true → accesses ≡ true
tag-accesses accesses tags None h some = cc
tag-accesses accesses tags (Some k) h some = (and_parts accesses (nat_lt k (length tags)) h).0

-- Each line says something of its instruction.
pub all-said : (language : Language) (pairs : List Pair) (tags : List (List ℕ)) (items : List Instr) (notes : List NoteValue) → list_all is_tag tags ≡ true
    → list_all (is_marked_right language.isa (length tags)) items ≡ true → list_all (λ (note : NoteValue). is_right_unit note.unit) notes ≡ true → list_all is_whole notes ≡ true
    → AllByRecursion (IsNoted language.isa) (entries (language.printed pairs) tags items notes)
unfolding entries
all-said language pairs tags [] notes names marks units whole = tt
all-said language pairs tags (i ∷ items) [] names marks units whole = tt
all-said language pairs tags (i ∷ items) (note ∷ notes) names marks units whole =
    let accesses : Bool = has_access (language.isa.info i.form) in
    let mark = and_parts (is_marked_right language.isa (length tags) i) (list_all (is_marked_right language.isa (length tags)) items) marks in
    let right = and_parts (is_right_tag accesses (length tags) i.tag) (not (i.early && i.late)) mark.0 in
    let unit = and_parts (is_right_unit note.unit) (list_all (λ (other : NoteValue). is_right_unit other.unit) notes) units in
    let fit = and_parts (is_whole note) (list_all is_whole notes) whole in
    let item = and_parts (fits note.item) (is_some note.unit && (fits note.cycle && nat_lt note.line (2 ^ 64))) fit.0 in
    let one = and_parts (is_some note.unit) (fits note.cycle && nat_lt note.line (2 ^ 64)) item.1 in
    let cycle = and_parts (fits note.cycle) (nat_lt note.line (2 ^ 64)) one.1 in (
      note-said accesses note.item note.unit note.cycle note.line (tag_name tags i.tag) i.early i.late item.0 one.0 unit.0 cycle.0 (lt_from note.line (2 ^ 64) cycle.1)
          (tag-right tags i.tag names) (not-true (i.early && i.late) right.1) (tag-accesses accesses tags i.tag right.0),
      all-said language pairs tags items notes names mark.1 unit.1 fit.1,
    )

-- A printed region of items that words spell without symbolic registers is read by itself, with its notes, as these, their lines, tags and marks aside.
pub region-reads : (language : Language) (wants : Wants) (pairs : List Pair) (tags : List (List ℕ)) (items : List Instr) (plan : PlanValue) (end : List ℕ)
    → IsLanguage language → length items ≤ most_items wants → AreSpelled language [] items → list_all is_tag tags ≡ true
    → list_all (is_marked_right language.isa (length tags)) items ≡ true → list_all (λ (note : NoteValue). is_right_unit note.unit) plan.notes ≡ true
    → is_whole_plan plan ≡ true → length plan.notes ≡ length items → IsLineEnd end
    → ReadsAs (region_alone language wants (region_text (language.printed pairs) tags items plan end)) (map unmarked items)
unfolding region_text
region-reads language wants pairs tags items plan end lawful few spelled names marks units whole each ends =
    let lines : List reading.Printed = entries (language.printed pairs) tags items plan.notes in
    let fit : length lines ≤ most_items wants = omega (arith, length-entries (language.printed pairs) tags items plan.notes each) in
    let same = entries-unmarked (language.printed pairs) tags items plan.notes each in
    let parts = and_parts (is_whole_head plan.head) (list_all is_whole plan.notes) whole in
    let head = head-said plan.head parts.0 in
    let added =
    region_added language wants (lawful.nothing []) (head_note plan.head) end head.0 lines (head-inside plan.head) (head.1 1) ends
    (all-printed language (comments_of language.isa.name) pairs tags items plan.notes lawful spelled names units)
    (all-said language pairs tags items plan.notes names marks units parts.1) fit
    (ap (list_all reads_concrete) same ∙ all-read language items lawful spelled) in
    record {
      new = added.new;
      is = added.is;
      same = added.same ∙ same;
      plain = added.plain;
    }

-- the end of the lines is one of the two
pub is-line_end : (before : List ℕ) → IsLineEnd (line_end before)
is-line_end before = of (ends_by_both (reverse before))
  where
    of : (b : Bool) → IsLineEnd (if b then codes "\r\n" else codes "\n")
    of true = inr refl
    of false = inl refl
