-- No symbolic register is read before it is written, where no line is refused for it; and the search
-- for such a line, from one item to the next.
use Rattle.std.proofs.Common.{◌≡◌, ℕ, zero, suc, ◌<◌, Bool, true, false, cond, not, ◌||◌, is_some, List, [], ◌∷◌, ◌++◌, length, reverse, take, drop, ◌+◌, ◌≤◌, add-one, drop_of_length-le, map, slice_get, Option, None, Some, refl, sym, ap, ◌∙◌, arith, append_assoc, append-nil}
use Rattle.std.specs.List.{list_any}
use Rattle.std.proofs.lemmas.Bool.{or_parts}
use Rattle.std.proofs.Math.Seq.{drop-cons}
use Rattle.std.proofs.lemmas.List.{reverse-append, take_more}
use Rattle.std.proofs.lemmas.List.Folds.{list_any-append}
use Rattle.sl_model.specs.declared.register.Reg.{Reg}
use Rattle.sl_model.specs.declared.instruction.Instr.{Instr}
use Rattle.sl_model.specs.declared.schedule.Source.{Source}
use Rattle.sl_model.specs.declared.schedule.Source.TheVariants.{Entry}
use Rattle.sl_model.specs.Source.{operands, outputs, place_from, output_or, source_of, no_instr, item_at, list_sources}
use Rattle.sl_laws.proofs.Elements.{list_any-at}
use Rattle.asm_reader.specs.Unset.{is_written, is_unset, reads_unset, first_unset}
use Rattle.asm_reader.specs.Regions.{AreSet}

-- where a test of any element fails on a list backwards, it fails on the list
none-reverse : {X : Type 0} (p : X → Bool) (xs : List X) → list_any p (reverse xs) ≡ false → list_any p xs ≡ false
none-reverse p [] none = refl
none-reverse p (x ∷ xs) none =
    let parts = or_parts (list_any p (reverse xs)) (p x || false)
    (sym (list_any-append p (reverse xs) (x ∷ [])) ∙ ap (list_any p) (sym (reverse-append (x ∷ []) xs)) ∙ none) in
    let first : p x ≡ false = (or_parts (p x) false parts.1).0 in
    ap (λ b. b || list_any p xs) first ∙ none-reverse p xs parts.0

-- ---- what is read of entries

-- an output is no entry
output-kept : (item : ℕ) (place : Option ℕ) (earlier : Source) (r : Reg) → output_or item place earlier ≡ Entry r → (is_some place ≡ false) × (earlier ≡ Entry r)
output-kept item None earlier r e = (refl, e)
output-kept item (Some place) earlier r e = absurd cc

-- where a register's source is what one held before all, it is this one, and no item above writes it
entry-unwritten : (q r : Reg) (above : List Instr) → source_of q above ≡ Entry r → (q ≡ r) × (is_written above q ≡ false)
unfolding source_of
entry-unwritten q r [] e = let same : q ≡ r = cc in (same, refl)
entry-unwritten q r (i ∷ above) e =
    let kept = output-kept (length above) (place_from 0 q (outputs i)) (source_of q above) r e in
    let rest = entry-unwritten q r above kept.1 in
    (rest.0, ap (λ b. b || is_written above q) kept.0 ∙ rest.1)

-- the element whose image stands at a place
image-at : {X Y : Type 0} (f : X → Y) (xs : List X) (k : ℕ) (y : Y) → slice_get (map f xs) k ≡ Some y → (x : X) × ((slice_get xs k ≡ Some x) × (f x ≡ y))
image-at f [] k y at = absurd cc
image-at f (x ∷ xs) zero y at = let same : f x ≡ y = cc in (x, (refl, same))
image-at f (x ∷ xs) (suc k) y at = image-at f xs k y at

-- a register that isn't unset, and that nothing writes, is the machine's
plain-unset : (symbolic written : Bool) → cond symbolic (not written) false ≡ false → written ≡ false → symbolic ≡ false
plain-unset true true none unwritten = absurd cc
plain-unset true false none unwritten = absurd cc
plain-unset false written none unwritten = refl

-- ---- what is read of symbolic registers

-- what one step of the search says
unset-step : (unset : Bool) (line : ℕ) (rest : Option ℕ) → cond unset (Some line) rest ≡ None → (unset ≡ false) × (rest ≡ None)
unset-step true line rest e = absurd cc
unset-step false line rest e = (refl, e)

-- where no line is found, no item reads a register that is unset
none-unset : (above items : List Instr) (p : ℕ) → first_unset above items ≡ None → p < length items → reads_unset (above ++ take p items) (item_at items p) ≡ false
unfolding first_unset
none-unset above [] p none within = absurd (omega arith)
none-unset above (i ∷ items) zero none within =
    ap (λ l. reads_unset l i) (append-nil above) ∙ (unset-step (reads_unset above i) i.line (first_unset (above ++ i ∷ []) items) none).0
none-unset above (i ∷ items) (suc p) none within =
    let rest = (unset-step (reads_unset above i) i.line (first_unset (above ++ i ∷ []) items) none).1 in
    ap (λ l. reads_unset l (item_at items p)) (sym (append_assoc above (i ∷ []) (take p items))) ∙ none-unset (above ++ i ∷ []) items p rest (omega arith)

pub are_set : (items : List Instr) → first_unset [] items ≡ None → AreSet items
unfolding list_sources
are_set items none p place r within at =
    let above : List Instr = take p items in
    let read = image-at (λ q. source_of q (reverse above)) (operands (item_at items p)) place (Entry r) at in
    let entry = entry-unwritten read.0 r (reverse above) read.1.1 in
    let unwritten : is_written above read.0 ≡ false = none-reverse (λ i. is_some (place_from 0 read.0 (outputs i))) above entry.1 in
    let unset : is_unset above read.0 ≡ false = list_any-at (is_unset above) (operands (item_at items p)) place read.0 (none-unset [] items p none within) read.1.0 in
    ap (λ (q : Reg). q.symbolic) (sym entry.0) ∙ plain-unset read.0.symbolic (is_written above read.0) unset unwritten

-- ---- the search, from one item to the next

-- the item at a place is the first one of the rest
unset-from : (items : List Instr) (place : ℕ) → place < length items
    → first_unset (take place items) (drop place items) ≡ cond (reads_unset (take place items) (item_at items place)) (Some (item_at items place).line) (first_unset (take (place + 1) items) (drop (place + 1) items))
unfolding first_unset
unset-from items place within =
    let cut = drop-cons items place no_instr within in
    let one : take place items ++ item_at items place ∷ [] ≡ take (place + 1) items = sym (take_more items place no_instr within) in
    ap (first_unset (take place items)) cut
    ∙ ap (λ above. cond (reads_unset (take place items) (item_at items place)) (Some (item_at items place).line) (first_unset above (drop (suc place) items))) one
    ∙ ap (λ n. cond (reads_unset (take place items) (item_at items place)) (Some (item_at items place).line) (first_unset (take (place + 1) items) (drop n items))) (sym (add-one place))

-- it reads a register that is unset
pub unset-here : (items : List Instr) (place : ℕ) → place < length items → reads_unset (take place items) (item_at items place) ≡ true
    → first_unset (take place items) (drop place items) ≡ Some (item_at items place).line
unset-here items place within unset =
    unset-from items place within
    ∙ ap (λ b. cond b (Some (item_at items place).line) (first_unset (take (place + 1) items) (drop (place + 1) items))) unset

-- it doesn't, and the search goes on behind it
pub unset-further : (items : List Instr) (place : ℕ) → place < length items → reads_unset (take place items) (item_at items place) ≡ false
    → first_unset (take place items) (drop place items) ≡ first_unset (take (place + 1) items) (drop (place + 1) items)
unset-further items place within set =
    unset-from items place within
    ∙ ap (λ b. cond b (Some (item_at items place).line) (first_unset (take (place + 1) items) (drop (place + 1) items))) set

-- and no item is left behind the last one
pub unset-nowhere : (items : List Instr) (place : ℕ) → length items ≤ place → first_unset (take place items) (drop place items) ≡ None
unfolding first_unset
unset-nowhere items place behind = ap (first_unset (take place items)) (drop_of_length-le items behind)
