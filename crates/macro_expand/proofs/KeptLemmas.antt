-- What is kept of a body's text, step by step.
use Rattle.std.proofs.Common.{◌≡◌, ℕ, zero, suc, ◌+◌, ◌-◌, ◌<◌, ◌≤◌, true, false, cond, List, [], ◌∷◌, ◌++◌, length, take, drop, slice_range, get_or, refl, ap, sym, ◌∙◌, arith, append_assoc, append-nil, drop-cons, take_all, ⊎_elim}
use Rattle.std.proofs.lemmas.Bool.{cases_lt}
use Rattle.std.proofs.lemmas.List.{take_more, length-drop}
use Rattle.std.proofs.Math.ListN.{drop_of_length-le}
use Rattle.macro_expand.specs.Filled.{kept, begins_twice}
use Rattle.macro_expand.proofs.FilledLemmas.{drop-more}

kept-here : (text : List ℕ) (place d : ℕ) → place < length text
    → kept 0 (drop place text) ≡ cond (begins_twice (drop place text)) (kept 2 (drop (suc place) text)) (get_or text place d ∷ kept 0 (drop (suc place) text))
unfolding kept
kept-here text place d within =
    let here = drop-cons text place d within in
    ap (kept 0) here
    ∙ ap (λ t. cond (begins_twice t) (kept 2 (drop (suc place) text)) (get_or text place d ∷ kept 0 (drop (suc place) text))) (sym here)

-- a byte more is kept
pub kept-more : (text whole : List ℕ) (place d : ℕ) → place < length text → begins_twice (drop place text) ≡ false
    → whole ≡ take place text ++ kept 0 (drop place text) → whole ≡ take (place + 1) text ++ kept 0 (drop (place + 1) text)
kept-more text whole place d within once so_far =
    let next : suc place ≡ place + 1 = omega arith in
    let c = get_or text place d in
    so_far
    ∙ ap (λ v. take place text ++ v) (kept-here text place d within
    ∙ ap (λ b. cond b (kept 2 (drop (suc place) text)) (c ∷ kept 0 (drop (suc place) text))) once)
    ∙ sym (append_assoc (take place text) (c ∷ []) (kept 0 (drop (suc place) text)))
    ∙ ap (λ v. v ++ kept 0 (drop (suc place) text)) (sym (take_more text place d within))
    ∙ ap (λ n. take (place + 1) text ++ kept 0 (drop n text)) next

kept-skip : (taken : ℕ) (text : List ℕ) → kept taken text ≡ kept 0 (drop taken text)
unfolding kept
kept-skip zero text = refl
kept-skip (suc taken) [] = refl
kept-skip (suc taken) (c ∷ text) = kept-skip taken text

-- of two `\()` the first isn't kept
pub kept-twice : (text : List ℕ) (place d : ℕ) → place < length text → begins_twice (drop place text) ≡ true
    → kept 0 (drop place text) ≡ kept 0 (drop (place + 3) text)
kept-twice text place d within twice =
    let next : suc place + 2 ≡ place + 3 = omega arith in
    kept-here text place d within
    ∙ ap (λ b. cond b (kept 2 (drop (suc place) text)) (get_or text place d ∷ kept 0 (drop (suc place) text))) twice
    ∙ kept-skip 2 (drop (suc place) text) ∙ ap (kept 0) (drop-more 2 (suc place) text) ∙ ap (λ n. kept 0 (drop n text)) next

-- a run more is kept
pub kept-run : (text rest before after whole : List ℕ) (place size end : ℕ) → end ≡ place + size → rest ≡ drop place text
    → kept 0 rest ≡ take size rest ++ kept 0 (drop size rest)
    → after ≡ before ++ slice_range text place end
    → before ++ kept 0 (drop place text) ≡ whole → after ++ kept 0 (drop end text) ≡ whole
kept-run text rest before after whole place size end end_is rest_is front added so_far =
    let long : end - place ≡ size = omega arith in
    let left = kept 0 (drop end text) in
    ap (λ v. v ++ left) added ∙ append_assoc before (slice_range text place end) left
    ∙ ap (λ n. before ++ (take n (drop place text) ++ left)) long
    ∙ ap (λ n. before ++ (take size (drop place text) ++ kept 0 (drop n text))) end_is
    ∙ ap (λ t. before ++ (take size (drop place text) ++ kept 0 t)) (sym (drop-more size place text))
    ∙ ap (λ t. before ++ (take size t ++ kept 0 (drop size t))) (sym rest_is)
    ∙ ap (λ v. before ++ v) (sym front) ∙ ap (λ t. before ++ kept 0 t) rest_is ∙ so_far

-- all is kept
pub kept-done : (text out whole : List ℕ) (place : ℕ) → length text ≤ place → out ++ kept 0 (drop place text) ≡ whole → out ≡ whole
unfolding kept
kept-done text out whole place all so_far =
    sym (append-nil out) ∙ ap (λ t. out ++ kept 0 t) (sym (drop_of_length-le text {i = place} all)) ∙ so_far

-- what stands from a place on
pub rest-is : (text : List ℕ) (place : ℕ) → slice_range text place (length text) ≡ drop place text
rest-is text place =
    let left : length (drop place text) ≡ length text - place = length-drop place text in
    let all : length (drop place text) ≤ length text - place = omega arith in
    take_all (length text - place) (drop place text) all

-- a run more, and the first of two `\()` behind it
pub kept-run-twice : (text rest before after whole : List ℕ) (place size d : ℕ) → rest ≡ drop place text → size ≤ length rest → (place + size ≡ length text → ⊥) → place < length text
    → (size < length rest → begins_twice (drop size rest) ≡ true)
    → kept 0 rest ≡ take size rest ++ kept 0 (drop size rest)
    → after ≡ before ++ slice_range text place (place + size)
    → before ++ kept 0 (drop place text) ≡ whole → after ++ kept 0 (drop (place + size + 3) text) ≡ whole
kept-run-twice text rest before after whole place size d same within more here next front added so_far =
    let left : length rest ≡ length text - place = ap length same ∙ length-drop place text in
    let inside : place + size < length text = ⊎_elim (λ (below : place + size < length text). below) (λ (past : length text ≤ place + size). absurd (more (omega arith))) (cases_lt (place + size) (length text)) in
    let short : size < length rest = omega arith in
    let twice : begins_twice (drop (place + size) text) ≡ true = ap begins_twice (sym (drop-more size place text) ∙ ap (drop size) (sym same)) ∙ next short in
    ap (λ t. after ++ t) (sym (kept-twice text (place + size) d inside twice))
    ∙ kept-run text rest before after whole place size (place + size) refl same front added so_far
