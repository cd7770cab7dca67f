-- Lemmas on marker lines and the cut at them.
use Rattle.std.proofs.Common.{◌≡◌, ℕ, ◌+◌, ◌-◌, ◌<◌, ◌≤◌, true, false, cond, List, [], ◌∷◌, ◌++◌, take, drop, nat_lt, Ok, Err, sym, ap, ◌∙◌, arith, lt-ltb, le-ltb, drop-drop}
use Rattle.std.proofs.lemmas.List.{append_cancel_right}
use Rattle.sl_model.specs.Text.{whole_lines, without_end, is_marker, marker_numbers, joined, cut, cut_at, parts_at}
use Rattle.sl_model.specs.declared.text.CutRefusal.{CutRefusal}
use Rattle.sl_model.specs.declared.text.CutRefusal.TheVariants.{NoStart, NoEnd}
use Rattle.sl_text.specs.Cut.{IsMarkerAt, EndsIn, only_number, numbers_in}
use Rattle.sl_text.proofs.LineLemmas.{joined-whole_lines, joined_split}

-- ---- the numbers of marker lines

pub marker_here : (label : List ℕ) (number : ℕ) (text line below : List ℕ) → whole_lines text ≡ line ∷ whole_lines below → is_marker label (without_end line) ≡ true → marker_numbers label number (whole_lines text) ≡ number ∷ marker_numbers label (number + 1) (whole_lines below)
unfolding marker_numbers
marker_here label number text line below split marks = ap (marker_numbers label number) split ∙ ap (λ b. cond b (number ∷ marker_numbers label (number + 1) (whole_lines below)) (marker_numbers label (number + 1) (whole_lines below))) marks

pub marker_past : (label : List ℕ) (number : ℕ) (text line below : List ℕ) → whole_lines text ≡ line ∷ whole_lines below → is_marker label (without_end line) ≡ false → marker_numbers label number (whole_lines text) ≡ marker_numbers label (number + 1) (whole_lines below)
unfolding marker_numbers
marker_past label number text line below split marks = ap (marker_numbers label number) split ∙ ap (λ b. cond b (number ∷ marker_numbers label (number + 1) (whole_lines below)) (marker_numbers label (number + 1) (whole_lines below))) marks

pub marker_none : (label : List ℕ) (number : ℕ) (text : List ℕ) → text ≡ [] → marker_numbers label number (whole_lines text) ≡ []
unfolding marker_numbers whole_lines
marker_none label number text e = ap (λ t. marker_numbers label number (whole_lines t)) e

-- the lines below the first of those behind n
pub lines_below : (n : ℕ) (lines from below : List (List ℕ)) (line : List ℕ) → from ≡ drop n lines → from ≡ line ∷ below → below ≡ drop (n + 1) lines
lines_below n lines from below line e split = ap (λ v. drop 1 v) (sym split ∙ e) ∙ drop-drop 1 n lines

-- ---- the parts

-- the text behind some lines of a text is those lines' rest
rest_is : (text rest : List ℕ) (n : ℕ) → whole_lines rest ≡ drop n (whole_lines text) → rest ≡ joined (drop n (whole_lines text))
rest_is text rest n e = sym (joined-whole_lines rest) ∙ ap joined e

-- what stands above it
pub above_is : (text front rest : List ℕ) (n : ℕ) → whole_lines rest ≡ drop n (whole_lines text) → text ≡ front ++ rest → front ≡ joined (take n (whole_lines text))
above_is text front rest n e split = append_cancel_right front (joined (take n (whole_lines text))) rest
    (sym split ∙ sym (joined-whole_lines text) ∙ sym (joined_split n (whole_lines text)) ∙ ap (λ v. joined (take n (whole_lines text)) ++ v) (sym (rest_is text rest n e)))

pub ends_in : (text rest : List ℕ) (n : ℕ) → whole_lines rest ≡ drop n (whole_lines text) → EndsIn text rest
ends_in text rest n e = (joined (take n (whole_lines text)), sym (joined-whole_lines text) ∙ sym (joined_split n (whole_lines text)) ∙ ap (λ v. joined (take n (whole_lines text)) ++ v) (sym (rest_is text rest n e)))

-- lines of a text behind others of it, counted from those
pub lines_between : (text above below : List ℕ) (n m : ℕ) → n ≤ m → whole_lines above ≡ drop n (whole_lines text) → whole_lines below ≡ drop m (whole_lines text) → whole_lines below ≡ drop (m - n) (whole_lines above)
lines_between text above below n m le e f =
    let sum : n + (m - n) ≡ m = omega arith in
    f ∙ ap (λ v. drop v (whole_lines text)) (sym sum) ∙ sym (drop-drop (m - n) n (whole_lines text)) ∙ ap (drop (m - n)) (sym e)

-- ---- the cut

at_start_refused : (lines : List (List ℕ)) (starts ends : List ℕ) (refusal : CutRefusal) → only_number NoStart starts ≡ Err refusal → cut_at lines starts ends ≡ Err refusal
at_start_refused lines [] ends refusal e = cc
at_start_refused lines (start ∷ []) ends refusal e = cc
at_start_refused lines (start ∷ second ∷ more) ends refusal e = cc

at_end_refused : (lines : List (List ℕ)) (starts ends : List ℕ) (start : ℕ) (refusal : CutRefusal) → only_number NoStart starts ≡ Ok start → only_number NoEnd ends ≡ Err refusal → cut_at lines starts ends ≡ Err refusal
at_end_refused lines [] ends start refusal e f = cc
at_end_refused lines (n ∷ second ∷ more) ends start refusal e f = cc
at_end_refused lines (n ∷ []) [] start refusal e f = cc
at_end_refused lines (n ∷ []) (m ∷ []) start refusal e f = cc
at_end_refused lines (n ∷ []) (m ∷ second ∷ more) start refusal e f = cc

-- the end against the start
at_both : (lines : List (List ℕ)) (starts ends : List ℕ) (start end : ℕ) → only_number NoStart starts ≡ Ok start → only_number NoEnd ends ≡ Ok end → cut_at lines starts ends ≡ cond (nat_lt start end) (Ok (parts_at lines start end)) (Err NoEnd)
at_both lines [] ends start end e f = cc
at_both lines (n ∷ second ∷ more) ends start end e f = cc
at_both lines (n ∷ []) [] start end e f = cc
at_both lines (n ∷ []) (m ∷ second ∷ more) start end e f = cc
at_both lines (n ∷ []) (m ∷ []) start end e f =
    let start_is : n ≡ start = cc in
    let end_is : m ≡ end = cc in
    ap (λ v. cond (nat_lt v m) (Ok (parts_at lines v m)) (Err NoEnd)) start_is ∙ ap (λ v. cond (nat_lt start v) (Ok (parts_at lines start v)) (Err NoEnd)) end_is

pub cut_start_refused : (start end text : List ℕ) (refusal : CutRefusal) → only_number NoStart (numbers_in start text) ≡ Err refusal → cut start end text ≡ Err refusal
unfolding cut
cut_start_refused start end text refusal e = at_start_refused (whole_lines text) (numbers_in start text) (numbers_in end text) refusal e

pub cut_end_refused : (start end text : List ℕ) (n : ℕ) (refusal : CutRefusal) → only_number NoStart (numbers_in start text) ≡ Ok n → only_number NoEnd (numbers_in end text) ≡ Err refusal → cut start end text ≡ Err refusal
unfolding cut
cut_end_refused start end text n refusal e f = at_end_refused (whole_lines text) (numbers_in start text) (numbers_in end text) n refusal e f

pub cut_above : (start end text : List ℕ) (n m : ℕ) → only_number NoStart (numbers_in start text) ≡ Ok n → only_number NoEnd (numbers_in end text) ≡ Ok m → m ≤ n → cut start end text ≡ Err NoEnd
unfolding cut
cut_above start end text n m e f le =
    at_both (whole_lines text) (numbers_in start text) (numbers_in end text) n m e f
    ∙ ap (λ b. cond b (Ok (parts_at (whole_lines text) n m)) (Err NoEnd)) (le-ltb n m le)

cut_below : (start end text : List ℕ) (n m : ℕ) → only_number NoStart (numbers_in start text) ≡ Ok n → only_number NoEnd (numbers_in end text) ≡ Ok m → n < m → cut start end text ≡ Ok (parts_at (whole_lines text) n m)
unfolding cut
cut_below start end text n m e f lt =
    at_both (whole_lines text) (numbers_in start text) (numbers_in end text) n m e f
    ∙ ap (λ b. cond b (Ok (parts_at (whole_lines text) n m)) (Err NoEnd)) (lt-ltb n m lt)

-- the line below a marker, by its number alone
below_number : (label text from below : List ℕ) (n : ℕ) → IsMarkerAt label 1 text n from below → whole_lines below ≡ drop n (whole_lines text)
below_number label text from below n at = let low : 1 ≤ n = at.low in let sum : n - 1 + 1 ≡ n = omega arith in at.below_lines ∙ ap (λ v. drop v (whole_lines text)) sum

-- the end marker's text, seen from below the start marker
pub end_from_below : (start end text from below end_from end_below : List ℕ) (n m : ℕ) → IsMarkerAt start 1 text n from below → IsMarkerAt end 1 text m end_from end_below → n < m → whole_lines end_from ≡ drop (m - 1 - n) (whole_lines below)
end_from_below start end text from below end_from end_below n m at to lt =
    lines_between text below end_from n (m - 1) (omega arith) (below_number start text from below n at) to.from_lines

pub start_ends_in : (label text from below : List ℕ) (n : ℕ) → IsMarkerAt label 1 text n from below → EndsIn text below
start_ends_in label text from below n at = ends_in text below n (below_number label text from below n at)

pub cut_parts : (start end text from below end_from end_below before body : List ℕ) (n m : ℕ) → only_number NoStart (numbers_in start text) ≡ Ok n → only_number NoEnd (numbers_in end text) ≡ Ok m → IsMarkerAt start 1 text n from below → IsMarkerAt end 1 text m end_from end_below → n < m → text ≡ before ++ below → below ≡ body ++ end_from → cut start end text ≡ Ok (record { before = before; body = body; after = end_from; first = n + 1 })
cut_parts start end text from below end_from end_below before body n m e f at to lt split split' =
    let lines = whole_lines text in
    let start_lines : whole_lines below ≡ drop n lines = below_number start text from below n at in
    let before_is : before ≡ joined (take n lines) = above_is text before below n start_lines split in
    let body_is : body ≡ joined (take (m - 1 - n) (drop n lines)) = above_is below body end_from (m - 1 - n) (end_from_below start end text from below end_from end_below n m at to lt) split' ∙ ap (λ v. joined (take (m - 1 - n) v)) start_lines in
    let after_is : end_from ≡ joined (drop (m - 1) lines) = rest_is text end_from (m - 1) to.from_lines in
    cut_below start end text n m e f lt
    ∙ ap (λ v. Ok (record { before = v; body = joined (take (m - 1 - n) (drop n lines)); after = joined (drop (m - 1) lines); first = n + 1 })) (sym before_is)
    ∙ ap (λ v. Ok (record { before = before; body = v; after = joined (drop (m - 1) lines); first = n + 1 })) (sym body_is)
    ∙ ap (λ v. Ok (record { before = before; body = body; after = v; first = n + 1 })) (sym after_is)
