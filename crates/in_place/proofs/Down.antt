-- What is read of lines further down is what is read of them, further down.
use Rattle.std.proofs.Common.{◌≡◌, ℕ, ◌+◌, Bool, true, false, cond, ◌&&◌, List, [], ◌∷◌, ◌++◌, map, codes, Option, None, Some, option_map, refl, ap, sym, ◌∙◌, arith}
use Rattle.std.specs.List.{list_all, AllByRecursion}
use Rattle.std.proofs.lemmas.List.{map-append}
use Rattle.sl_model.specs.declared.instruction.Instr.{Instr}
use Rattle.sl_model.specs.Exec.{has_access}
use Rattle.sl_model.specs.Isa.{Isa}
use Rattle.asm_reader.specs.Drafts.{Draft, longer, marked, untold, with_last, with_remark}
use Rattle.asm_reader.specs.Notes.{NoteValue, Remark, Said, of_item, of_region, begins_region, item_said, note_said, region_said, words_in, words_said, Word, is_region_word, is_item_word, all_named_once, says, remark_of, mask_in}
use Rattle.asm_reader.specs.Tags.{with_tag}
use Rattle.asm_printer.proofs.ForCallers.{IsNoted, drafted}
use Rattle.asm_printer.specs.Lines.{Printed}
use Rattle.in_place.specs.InPlace.{item_down, note_down}

-- ---- what notes say

abbrev remark_down : ℕ → Remark → Remark
remark_down n remark = record remark { told = note_down n remark.told }

abbrev said_down : ℕ → Said → Said
said_down n (of_item remark) = of_item (remark_down n remark)
said_down n (of_region mask) = of_region mask

chosen-down : (n : ℕ) (b : Bool) (x y u v : Option Said) → x ≡ option_map (said_down n) u → y ≡ option_map (said_down n) v → cond b x y ≡ option_map (said_down n) (cond b u v)
chosen-down n true x y u v first second = first
chosen-down n false x y u v first second = second

region-down : (n : ℕ) (words : List Word) → region_said words ≡ option_map (said_down n) (region_said words)
region-down n words = chosen-down n (list_all is_region_word words && all_named_once words) (Some (of_region (mask_in words))) None (Some (of_region (mask_in words))) None refl refl

item-down : (line n : ℕ) (words : List Word) → item_said (line + n) words ≡ option_map (said_down n) (item_said line words)
item-down line n words =
    let both = says (codes "may_early") words && says (codes "may_late") words in
    chosen-down n (list_all is_item_word words && all_named_once words)
    (cond both None (Some (of_item (remark_of (line + n) words)))) None (cond both None (Some (of_item (remark_of line words)))) None
    (chosen-down n both None (Some (of_item (remark_of (line + n) words))) None (Some (of_item (remark_of line words))) refl refl) refl

words-down : (line n : ℕ) (words : List Word) → words_said (line + n) words ≡ option_map (said_down n) (words_said line words)
words-down line n [] = refl
words-down line n (word ∷ words) =
    chosen-down n (begins_region word) (region_said words) (item_said (line + n) (word ∷ words)) (region_said words) (item_said line (word ∷ words)) (region-down n words) (item-down line n (word ∷ words))

pub note-down : (line n : ℕ) (text : List ℕ) → note_said (line + n) text ≡ option_map (said_down n) (note_said line text)
unfolding note_said
note-down line n text = words-down line n (words_in text)

-- what is said of an instruction, if it is of one
remark_or : Remark → Option Said → Remark
remark_or other None = other
remark_or other (Some (of_item remark)) = remark
remark_or other (Some (of_region mask)) = other

remark-down : (isa : Isa) (number n : ℕ) (printed : Printed) (noted : IsNoted isa printed) → noted.remark (number + n) ≡ remark_down n (noted.remark number)
unfolding remark_or
remark-down isa number n printed noted =
    ap (remark_or (noted.remark number)) (sym (noted.said (number + n)) ∙ note-down number n printed.note ∙ ap (option_map (said_down n)) (noted.said number))

-- ---- drafts

-- a draft that awaits no note, further down
abbrev pub draft_down : ℕ → Draft → Draft
draft_down n draft = record draft { items = map (item_down n) draft.items; notes = map (note_down n) draft.notes; awaiting = None }

module _ {X Y : Type 0} where
  last-down : (f : X → X) (g : Y → Y) (h : X → Y) (xs : List X) → ((x : X) → g (h x) ≡ h (f x)) → with_last g (map h xs) ≡ map h (with_last f xs)
  unfolding with_last
  last-down f g h [] same = refl
  last-down f g h (x ∷ []) same = ap (λ y. y ∷ []) (same x)
  last-down f g h (x ∷ y ∷ xs) same = ap (λ l. h x ∷ l) (last-down f g h (y ∷ xs) same)

pub line-down : (accesses : Bool) (number n : ℕ) (draft : Draft) (i : Instr) (remark : Remark)
    → with_remark (longer accesses (number + n) (draft_down n draft) i) (remark_down n remark) ≡ draft_down n (with_remark (longer accesses number draft i) remark)
line-down accesses number n draft i remark =
    let items : with_last (marked draft.tags (remark_down n remark)) (map (item_down n) draft.items ++ record i { line = number + n } ∷ []) ≡ map (item_down n) (with_last (marked draft.tags remark) (draft.items ++ record i { line = number } ∷ [])) =
    ap (with_last (marked draft.tags remark)) (sym (map-append (item_down n) draft.items (record i { line = number } ∷ [])))
    ∙ last-down (marked draft.tags remark) (marked draft.tags remark) (item_down n) (draft.items ++ record i { line = number } ∷ []) (λ j. refl) in
    let notes : with_last (λ (note : NoteValue). note_down n remark.told) (map (note_down n) draft.notes ++ untold (number + n) ∷ []) ≡ map (note_down n) (with_last (λ (note : NoteValue). remark.told) (draft.notes ++ untold number ∷ [])) =
    ap (with_last (λ (note : NoteValue). note_down n remark.told)) (sym (map-append (note_down n) draft.notes (untold number ∷ [])))
    ∙ last-down (λ (note : NoteValue). remark.told) (λ (note : NoteValue). note_down n remark.told) (note_down n) (draft.notes ++ untold number ∷ []) (λ note. refl) in
    ap (λ is. record { items = is; notes = with_last (λ (note : NoteValue). note_down n remark.told) (map (note_down n) draft.notes ++ untold (number + n) ∷ []); tags = with_tag remark.tag draft.tags; mask = draft.mask; awaiting = None; invoked = false }) items
    ∙ ap (λ ns. record { items = map (item_down n) (with_last (marked draft.tags remark) (draft.items ++ record i { line = number } ∷ [])); notes = ns; tags = with_tag remark.tag draft.tags; mask = draft.mask; awaiting = None; invoked = false }) notes

pub drafted-down : (isa : Isa) (number n : ℕ) (draft : Draft) (printed : List Printed) (noted : AllByRecursion (IsNoted isa) printed) → draft.awaiting ≡ None
    → drafted isa (number + n) (draft_down n draft) printed noted ≡ draft_down n (drafted isa number draft printed noted)
unfolding drafted
drafted-down isa number n draft [] noted none = refl
drafted-down isa number n draft (first ∷ more) noted none =
    let accesses = has_access (isa.info first.item.form) in
    let next : Draft = with_remark (longer accesses number draft first.item) (noted.0.remark number) in
    let sum : number + n + 1 ≡ number + 1 + n = omega arith in
    ap (λ r. drafted isa (number + n + 1) (with_remark (longer accesses (number + n) (draft_down n draft) first.item) r) more noted.1) (remark-down isa number n first noted.0)
    ∙ ap (λ d. drafted isa (number + n + 1) d more noted.1) (line-down accesses number n draft first.item (noted.0.remark number))
    ∙ ap (λ k. drafted isa k (draft_down n next) more noted.1) sum
    ∙ drafted-down isa (number + 1) n next more noted.1 refl
