-- A text in the place of a region, none of whose lines is a marker, is cut out again.
use Rattle.std.proofs.Common.{◌≡◌, ℕ, zero, suc, ◌+◌, ◌-◌, ◌<◌, ◌≤◌, nat_lt, Bool, true, false, cond, eqb, List, [], ◌∷◌, ◌++◌, length, take, drop, Result, Ok, Err, ◌⊎◌, inl, inr, ⊎_elim, refl, ap, sym, ◌∙◌, arith, append_assoc, length-drop, take-append-drop, lt-ltb, drop-drop}
use Rattle.std.proofs.lemmas.List.{append_cancel_left}
use Rattle.std.proofs.lemmas.Bool.{ltb-true}
use Rattle.sl_model.specs.declared.text.CutRefusal.{CutRefusal}
use Rattle.sl_model.specs.declared.text.CutRefusal.TheVariants.{NoEnd}
use Rattle.sl_model.specs.Text.{Parts, cut, cut_at, is_marker, joined, marker_numbers, parts_at, prepend, whole_lines, without_end}

-- ---- what a cut says

pub record IsCut (lines : List (List ℕ)) (starts ends : List ℕ) (parts : Parts) : Type 0 where
  pub start : ℕ
  pub end : ℕ
  pub starts_are : starts ≡ start ∷ []
  pub ends_are : ends ≡ end ∷ []
  pub below : start < end
  pub is : parts ≡ parts_at lines start end

-- the parts of an answer
abbrev as_ok : Parts → Result Parts CutRefusal
as_ok parts = Ok parts

ok-same : (found parts : Parts) → as_ok found ≡ as_ok parts → found ≡ parts
ok-same found parts e = cc

cut-both : (lines : List (List ℕ)) (start end : ℕ) (parts : Parts) (b : Bool) → nat_lt start end ≡ b → cond b (Ok (parts_at lines start end)) (Err NoEnd) ≡ Ok parts → IsCut lines (start ∷ []) (end ∷ []) parts
cut-both lines start end parts true less e = record {
  start = start;
  end = end;
  starts_are = refl;
  ends_are = refl;
  below = ltb-true start end less;
  is = sym (ok-same (parts_at lines start end) parts e);
}
cut-both lines start end parts false less e = absurd cc

cut-said : (lines : List (List ℕ)) (starts ends : List ℕ) (parts : Parts) → cut_at lines starts ends ≡ Ok parts → IsCut lines starts ends parts
cut-said lines (start ∷ second ∷ more) ends parts e = absurd cc
cut-said lines [] ends parts e = absurd cc
cut-said lines (start ∷ []) (end ∷ second ∷ more) parts e = absurd cc
cut-said lines (start ∷ []) [] parts e = absurd cc
cut-said lines (start ∷ []) (end ∷ []) parts e = cut-both lines start end parts (nat_lt start end) refl e

-- ---- the numbers of marker lines

module _ (label : List ℕ) where
  numbers-append : (number : ℕ) (xs ys : List (List ℕ)) → marker_numbers label number (xs ++ ys) ≡ marker_numbers label number xs ++ marker_numbers label (number + length xs) ys
  unfolding marker_numbers
  numbers-append number [] ys = let none : number + 0 ≡ number = omega arith in ap (λ n. marker_numbers label n ys) (sym none)
  numbers-append number (x ∷ xs) ys =
      let sum : number + 1 + length xs ≡ number + length (x ∷ xs) = omega arith in
      let rest : marker_numbers label (number + 1) (xs ++ ys) ≡ marker_numbers label (number + 1) xs ++ marker_numbers label (number + length (x ∷ xs)) ys =
      numbers-append (number + 1) xs ys ∙ ap (λ n. marker_numbers label (number + 1) xs ++ marker_numbers label n ys) sum in
      ap (λ l. cond (is_marker label (without_end x)) (number ∷ l) l) rest ∙ of (is_marker label (without_end x)) (marker_numbers label (number + 1) xs) (marker_numbers label (number + length (x ∷ xs)) ys)
    where
      of : (b : Bool) (l m : List ℕ) → cond b (number ∷ (l ++ m)) (l ++ m) ≡ cond b (number ∷ l) l ++ m
      of true l m = refl
      of false l m = refl

  -- they begin at the first number
  numbers-from : (number : ℕ) (lines : List (List ℕ)) (first : ℕ) (more : List ℕ) → marker_numbers label number lines ≡ first ∷ more → number ≤ first
  unfolding marker_numbers
  numbers-from number [] first more e = absurd cc
  numbers-from number (line ∷ lines) first more e = of (is_marker label (without_end line)) (numbers-from (number + 1) lines first more) e
    where
      of : (b : Bool) → (marker_numbers label (number + 1) lines ≡ first ∷ more → number + 1 ≤ first)
          → cond b (number ∷ marker_numbers label (number + 1) lines) (marker_numbers label (number + 1) lines) ≡ first ∷ more → number ≤ first
      of true rest e = let same : number ≡ first = cc in omega arith
      of false rest e = let later = rest e in omega arith

  -- and are below the number behind the last line
  numbers-below : (number : ℕ) (lines : List (List ℕ)) (first : ℕ) (more : List ℕ) → marker_numbers label number lines ≡ first ∷ more → first < number + length lines
  unfolding marker_numbers
  numbers-below number [] first more e = absurd cc
  numbers-below number (line ∷ lines) first more e = of (is_marker label (without_end line)) (numbers-below (number + 1) lines first more) e
    where
      of : (b : Bool) → (marker_numbers label (number + 1) lines ≡ first ∷ more → first < number + 1 + length lines)
          → cond b (number ∷ marker_numbers label (number + 1) lines) (marker_numbers label (number + 1) lines) ≡ first ∷ more → first < number + length (line ∷ lines)
      of true rest e = let same : number ≡ first = cc in omega arith
      of false rest e = let later = rest e in omega arith

  -- where there are none, there are none under other numbers
  numbers-none : (number other : ℕ) (lines : List (List ℕ)) → marker_numbers label number lines ≡ [] → marker_numbers label other lines ≡ []
  unfolding marker_numbers
  numbers-none number other [] e = refl
  numbers-none number other (line ∷ lines) e = of (is_marker label (without_end line)) (numbers-none (number + 1) (other + 1) lines) e
    where
      of : (b : Bool) → (marker_numbers label (number + 1) lines ≡ [] → marker_numbers label (other + 1) lines ≡ [])
          → cond b (number ∷ marker_numbers label (number + 1) lines) (marker_numbers label (number + 1) lines) ≡ [] → cond b (other ∷ marker_numbers label (other + 1) lines) (marker_numbers label (other + 1) lines) ≡ []
      of true rest e = absurd cc
      of false rest e = rest e

  -- where the first line alone is a marker, it is under other numbers
  numbers-first : (number other : ℕ) (lines : List (List ℕ)) → marker_numbers label number lines ≡ number ∷ [] → marker_numbers label other lines ≡ other ∷ []
  unfolding marker_numbers
  numbers-first number other [] e = absurd cc
  numbers-first number other (line ∷ lines) e = of (is_marker label (without_end line)) e
    where
      of : (b : Bool) → cond b (number ∷ marker_numbers label (number + 1) lines) (marker_numbers label (number + 1) lines) ≡ number ∷ [] → cond b (other ∷ marker_numbers label (other + 1) lines) (marker_numbers label (other + 1) lines) ≡ other ∷ []
      of true e = ap (λ l. other ∷ l) (numbers-none (number + 1) (other + 1) lines cc)
      of false e = let later = numbers-from (number + 1) lines number [] e in absurd (omega arith)

-- the two parts of a list of one
one-split : (xs ys : List ℕ) (n : ℕ) → xs ++ ys ≡ n ∷ [] → ((xs ≡ n ∷ []) × (ys ≡ [])) ⊎ ((xs ≡ []) × (ys ≡ n ∷ []))
one-split [] ys n e = inr (refl, e)
one-split (x ∷ []) [] n e = inl (e, refl)
one-split (x ∷ []) (y ∷ ys) n e = absurd cc
one-split (x ∷ z ∷ xs) ys n e = absurd cc

-- ---- a text put between two others

-- The lines above, between and below.
module _ (label : List ℕ) (above between below new : List (List ℕ)) (number : ℕ) where
  -- the marker is the last of those above, so there is none behind it
  start-anew : marker_numbers label 1 (above ++ (between ++ below)) ≡ number ∷ [] → length above ≡ number → marker_numbers label (1 + number) new ≡ []
      → marker_numbers label 1 (above ++ (new ++ below)) ≡ number ∷ []
  start-anew all long none =
      let split : marker_numbers label 1 above ++ marker_numbers label (1 + length above) (between ++ below) ≡ number ∷ [] = sym (numbers-append label 1 above (between ++ below)) ∙ all in
      let place : 1 + length above ≡ 1 + number = omega (arith, long) in
      ⊎_elim
      (λ (two : (marker_numbers label 1 above ≡ number ∷ []) × (marker_numbers label (1 + length above) (between ++ below) ≡ [])).
      let behind : marker_numbers label (1 + length above) below ≡ [] =
      numbers-none label (1 + length above + length between) (1 + length above) below (last-empty (marker_numbers label (1 + length above) between) (marker_numbers label (1 + length above + length between) below) (sym (numbers-append label (1 + length above) between below) ∙ two.1)) in
      numbers-append label 1 above (new ++ below)
      ∙ ap (λ l. l ++ marker_numbers label (1 + length above) (new ++ below)) two.0
      ∙ ap (λ l. (number ∷ []) ++ l) (numbers-append label (1 + length above) new below
      ∙ ap (λ l. l ++ marker_numbers label (1 + length above + length new) below) (ap (λ n. marker_numbers label n new) place ∙ none)
      ∙ numbers-none label (1 + length above) (1 + length above + length new) below behind))
      (λ (two : (marker_numbers label 1 above ≡ []) × (marker_numbers label (1 + length above) (between ++ below) ≡ number ∷ [])).
      let late = numbers-from label (1 + length above) (between ++ below) number [] two.1 in
      absurd (omega (arith, long)))
      (one-split (marker_numbers label 1 above) (marker_numbers label (1 + length above) (between ++ below)) number split)
    where
      last-empty : (xs ys : List ℕ) → xs ++ ys ≡ [] → ys ≡ []
      last-empty [] ys e = e
      last-empty (x ∷ xs) ys e = absurd cc

  -- the marker is the first of those below, so there is none before it
  end-anew : marker_numbers label 1 (above ++ (between ++ below)) ≡ number ∷ [] → 1 + length above + length between ≡ number → marker_numbers label (1 + length above) new ≡ []
      → marker_numbers label 1 (above ++ (new ++ below)) ≡ (1 + length above + length new) ∷ []
  end-anew all long none =
      let split : marker_numbers label 1 above ++ marker_numbers label (1 + length above) (between ++ below) ≡ number ∷ [] = sym (numbers-append label 1 above (between ++ below)) ∙ all in
      ⊎_elim
      (λ (two : (marker_numbers label 1 above ≡ number ∷ []) × (marker_numbers label (1 + length above) (between ++ below) ≡ [])).
      let early = numbers-below label 1 above number [] two.0 in
      absurd (omega (arith, long)))
      (λ (two : (marker_numbers label 1 above ≡ []) × (marker_numbers label (1 + length above) (between ++ below) ≡ number ∷ [])).
      ⊎_elim
      (λ (here : (marker_numbers label (1 + length above) between ≡ number ∷ []) × (marker_numbers label (1 + length above + length between) below ≡ [])).
      let early = numbers-below label (1 + length above) between number [] here.0 in
      absurd (omega (arith, long)))
      (λ (here : (marker_numbers label (1 + length above) between ≡ []) × (marker_numbers label (1 + length above + length between) below ≡ number ∷ [])).
      let behind : marker_numbers label number below ≡ number ∷ [] = ap (λ n. marker_numbers label n below) (sym long) ∙ here.1 in
      numbers-append label 1 above (new ++ below)
      ∙ ap (λ l. l ++ marker_numbers label (1 + length above) (new ++ below)) two.0
      ∙ numbers-append label (1 + length above) new below
      ∙ ap (λ l. l ++ marker_numbers label (1 + length above + length new) below) none
      ∙ numbers-first label number (1 + length above + length new) below behind)
      (one-split (marker_numbers label (1 + length above) between) (marker_numbers label (1 + length above + length between) below) number
      (sym (numbers-append label (1 + length above) between below) ∙ two.1)))
      (one-split (marker_numbers label 1 above) (marker_numbers label (1 + length above) (between ++ below)) number split)

-- ---- lines that all have an end

-- the lines of a text, one behind the other, are the text
joined-prepend : (c : ℕ) (lines : List (List ℕ)) → joined (prepend c lines) ≡ c ∷ joined lines
unfolding joined
joined-prepend c [] = refl
joined-prepend c (line ∷ lines) = refl

joined-either : (ends : Bool) (c : ℕ) (lines : List (List ℕ)) → joined (cond ends ((c ∷ []) ∷ lines) (prepend c lines)) ≡ c ∷ joined lines
unfolding joined
joined-either true c lines = refl
joined-either false c lines = joined-prepend c lines

lines-text : (text : List ℕ) → joined (whole_lines text) ≡ text
unfolding whole_lines joined
lines-text [] = refl
lines-text (c ∷ text) = joined-either (eqb c 10) c (whole_lines text) ∙ ap (λ t. c ∷ t) (lines-text text)

joined-append : (xs ys : List (List ℕ)) → joined (xs ++ ys) ≡ joined xs ++ joined ys
unfolding joined
joined-append [] ys = refl
joined-append (x ∷ xs) ys = ap (λ t. x ++ t) (joined-append xs ys) ∙ sym (append_assoc x (joined xs) (joined ys))

-- what stands behind some lines of a text that aren't its last
lines-behind : (text : List ℕ) (n : ℕ) (rest : List ℕ) → n < length (whole_lines text) → whole_lines (joined (take n (whole_lines text)) ++ rest) ≡ take n (whole_lines text) ++ whole_lines rest
unfolding whole_lines joined
lines-behind [] n rest few = absurd (omega arith)
lines-behind (c ∷ text) n rest few = of (eqb c 10) refl (whole_lines text) (λ m less. lines-behind text m rest less) n few
  where
    of : (b : Bool) → eqb c 10 ≡ b → (lines : List (List ℕ)) → ((m : ℕ) → m < length lines → whole_lines (joined (take m lines) ++ rest) ≡ take m lines ++ whole_lines rest) → (n : ℕ)
        → n < length (cond b ((c ∷ []) ∷ lines) (prepend c lines))
        → whole_lines (joined (take n (cond b ((c ∷ []) ∷ lines) (prepend c lines))) ++ rest) ≡ take n (cond b ((c ∷ []) ∷ lines) (prepend c lines)) ++ whole_lines rest
    of b is lines each zero few = refl
    of true is lines each (suc n) few =
        ap (λ e. cond e ((c ∷ []) ∷ whole_lines (joined (take n lines) ++ rest)) (prepend c (whole_lines (joined (take n lines) ++ rest)))) is
        ∙ ap (λ ls. (c ∷ []) ∷ ls) (each n (omega arith))
    of false is [] each (suc n) few = absurd (omega arith)
    of false is (line ∷ lines) each (suc n) few =
        let inner = (line ++ joined (take n lines)) ++ rest in
        ap (λ e. cond e ((c ∷ []) ∷ whole_lines inner) (prepend c (whole_lines inner))) is
        ∙ ap (prepend c) (each (suc n) few)

lines-joined : (text : List ℕ) (n : ℕ) → n < length (whole_lines text) → whole_lines (joined (drop n (whole_lines text))) ≡ drop n (whole_lines text)
lines-joined text n few =
    let lines = whole_lines text in
    append_cancel_left (take n lines) (whole_lines (joined (drop n lines))) (drop n lines)
    (sym (lines-behind text n (joined (drop n lines)) few)
    ∙ ap whole_lines (sym (joined-append (take n lines) (drop n lines)) ∙ ap joined (take-append-drop n lines) ∙ lines-text text)
    ∙ sym (take-append-drop n lines))

-- ---- the new cut

drop-length : (xs ys : List (List ℕ)) → drop (length xs) (xs ++ ys) ≡ ys
drop-length [] ys = refl
drop-length (x ∷ xs) ys = drop-length xs ys

take-length : (xs ys : List (List ℕ)) → take (length xs) (xs ++ ys) ≡ xs
take-length [] ys = refl
take-length (x ∷ xs) ys = ap (λ l. x ∷ l) (take-length xs ys)

-- the parts of lines between whose markers others stand
parts-new : (above new below : List (List ℕ)) (start : ℕ) → length above ≡ start
    → parts_at (above ++ (new ++ below)) start (1 + start + length new) ≡ record { before = joined above; body = joined new; after = joined below; first = start + 1 }
parts-new above new below start long =
    let lines = above ++ (new ++ below) in
    let first : take start lines ≡ above = ap (λ n. take n lines) (sym long) ∙ take-length above (new ++ below) in
    let rest : drop start lines ≡ new ++ below = ap (λ n. drop n lines) (sym long) ∙ drop-length above (new ++ below) in
    let count : 1 + start + length new - 1 - start ≡ length new = omega arith in
    let past : 1 + start + length new - 1 ≡ start + length new = omega arith in
    let middle : take (1 + start + length new - 1 - start) (drop start lines) ≡ new = ap (λ n. take n (drop start lines)) count ∙ ap (take (length new)) rest ∙ take-length new below in
    let last : drop (1 + start + length new - 1) lines ≡ below = ap (λ n. drop n lines) past ∙ sym (drop-drop (length new) start lines) ∙ ap (drop (length new)) rest ∙ drop-length new below in
    ap (λ l. record { before = joined l; body = joined (take (1 + start + length new - 1 - start) (drop start lines)); after = joined (drop (1 + start + length new - 1) lines); first = start + 1 }) first
    ∙ ap (λ l. record { before = joined above; body = joined l; after = joined (drop (1 + start + length new - 1) lines); first = start + 1 }) middle
    ∙ ap (λ l. record { before = joined above; body = joined new; after = joined l; first = start + 1 }) last

cut-of : (lines : List (List ℕ)) (starts ends : List ℕ) (start end : ℕ) → starts ≡ start ∷ [] → ends ≡ end ∷ [] → start < end → cut_at lines starts ends ≡ Ok (parts_at lines start end)
cut-of lines starts ends start end s e less =
    ap (λ l. cut_at lines l ends) s ∙ ap (cut_at lines (start ∷ [])) e ∙ ap (λ b. cond b (Ok (parts_at lines start end)) (Err NoEnd)) (lt-ltb start end less)

-- A region is cut where one was cut before.
pub record IsCutAgain (start end text : List ℕ) (parts : Parts) : Type 0 where
  pub is : cut start end (parts.before ++ (text ++ parts.after)) ≡ Ok (record parts { body = text })
  pub low : 1 ≤ parts.first

pub cut-again : (start end old text : List ℕ) (parts : Parts) → cut start end old ≡ Ok parts
    → ((number : ℕ) → marker_numbers start number (whole_lines text) ≡ []) → ((number : ℕ) → marker_numbers end number (whole_lines text) ≡ [])
    → ((rest : List ℕ) → whole_lines (text ++ rest) ≡ whole_lines text ++ whole_lines rest)
    → IsCutAgain start end text parts
unfolding cut
cut-again start end old text parts is no_start no_end behind =
    let lines = whole_lines old in
    let found : IsCut lines (marker_numbers start 1 lines) (marker_numbers end 1 lines) parts = cut-said lines (marker_numbers start 1 lines) (marker_numbers end 1 lines) parts is in
    let s = found.start in
    let e = found.end in
    let less : s < e = found.below in
    let last : e < 1 + length lines = numbers-below end 1 lines e [] found.ends_are in
    let above = take s lines in
    let between = take (e - 1 - s) (drop s lines) in
    let below = drop (e - 1) lines in
    let long : length above ≡ s = length-taken s lines (omega arith) in
    let left : length (drop s lines) ≡ length lines - s = length-drop s lines in
    let middle : length between ≡ e - 1 - s = length-taken (e - 1 - s) (drop s lines) (omega arith) in
    let sum : s + (e - 1 - s) ≡ e - 1 = omega arith in
    let whole : lines ≡ above ++ (between ++ below) =
    sym (take-append-drop s lines)
    ∙ ap (λ l. above ++ l) (sym (take-append-drop (e - 1 - s) (drop s lines)) ∙ ap (λ l. between ++ l) (drop-drop (e - 1 - s) s lines ∙ ap (λ n. drop n lines) sum)) in
    let new = whole_lines text in
    let place : 1 + length above ≡ 1 + s = omega (arith, long) in
    let starts : marker_numbers start 1 (above ++ (new ++ below)) ≡ s ∷ [] =
    start-anew start above between below new s (ap (marker_numbers start 1) (sym whole) ∙ found.starts_are) long (no_start (1 + s)) in
    let at_end : 1 + length above + length between ≡ e = omega (arith, long, middle) in
    let ends : marker_numbers end 1 (above ++ (new ++ below)) ≡ (1 + s + length new) ∷ [] =
    end-anew end above between below new e (ap (marker_numbers end 1) (sym whole) ∙ found.ends_are) at_end (no_end (1 + length above))
    ∙ ap (λ n. (n + length new) ∷ []) place in
    let after_is : whole_lines (joined below) ≡ below = lines-joined old (e - 1) (omega arith) in
    let lines_are : whole_lines (joined above ++ (text ++ joined below)) ≡ above ++ (new ++ below) =
    lines-behind old s (text ++ joined below) (omega arith) ∙ ap (λ l. above ++ l) (behind (joined below) ∙ ap (λ l. new ++ l) after_is) in
    let cut_new : cut_at (whole_lines (joined above ++ (text ++ joined below))) (marker_numbers start 1 (whole_lines (joined above ++ (text ++ joined below)))) (marker_numbers end 1 (whole_lines (joined above ++ (text ++ joined below)))) ≡ Ok (parts_at (above ++ (new ++ below)) s (1 + s + length new)) =
    ap (λ ls. cut_at ls (marker_numbers start 1 ls) (marker_numbers end 1 ls)) lines_are
    ∙ cut-of (above ++ (new ++ below)) (marker_numbers start 1 (above ++ (new ++ below))) (marker_numbers end 1 (above ++ (new ++ below))) s (1 + s + length new) starts ends (omega arith) in
    let again : cut start end (joined above ++ (text ++ joined below)) ≡ Ok (record { before = joined above; body = text; after = joined below; first = s + 1 }) =
    cut_new ∙ ap Ok (parts-new above new below s long) ∙ ap (λ t. Ok (record { before = joined above; body = t; after = joined below; first = s + 1 })) (lines-text text) in
    record {
      is =
          ap (λ (p : Parts). cut start end (p.before ++ (text ++ p.after))) found.is ∙ again
          ∙ ap (λ (p : Parts). Ok (record p { body = text })) (sym found.is);
      low = let first : parts.first ≡ s + 1 = ap (λ (p : Parts). p.first) found.is in omega arith;
    }
  where
    length-taken : (n : ℕ) (xs : List (List ℕ)) → n ≤ length xs → length (take n xs) ≡ n
    length-taken zero xs few = refl
    length-taken (suc n) [] few = absurd (omega arith)
    length-taken (suc n) (x ∷ xs) few = ap suc (length-taken n xs (omega arith))
