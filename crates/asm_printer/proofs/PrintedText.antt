-- The written file from its parts, and the end of its lines.
use Rattle.std.proofs.Common.{◌≡◌, ℕ, true, false, ◌&&◌, cond, eqb, List, [], ◌∷◌, ◌++◌, reverse, Result, Ok, Err, refl, sym, ap, ◌∙◌, ⊎_elim, append_assoc}
use Rattle.std.proofs.lemmas.Bool.{cases_Bool, eqb-true}
use Rattle.std.proofs.lemmas.List.{reverse-append, reverse-reverse}
use Rattle.std.specs.Result.{OnOk}
use Rattle.sl_model.specs.declared.instruction.Instr.{Instr}
use Rattle.sl_isa.specs.Symbols.{Pair}
use Rattle.asm_reader.specs.Reading.{Region}
use Rattle.asm_printer.specs.Printed.{PlanValue, ends_by_both, line_end, head_note, entries, region_text, written_text}
use Rattle.asm_printer.specs.Lines.{head_line, item_lines}
use Rattle.std.specs.Prelude.{MatchResult}

-- a text that is given backwards, and doesn't end in a carriage return and a line feed
other_end : (text : List ℕ) → ((front : List ℕ) → reverse text ≡ front ++ (13 ∷ 10 ∷ []) → ⊥) → ends_by_both text ≡ false
other_end [] other = refl
other_end (a ∷ []) other = refl
other_end (a ∷ b ∷ text) other =
    ⊎_elim
    (λ (feed : eqb a 10 ≡ true). ⊎_elim
    (λ (return : eqb b 13 ≡ true). absurd (other (reverse text)
    (reverse-append (a ∷ b ∷ []) text ∙ ap (λ n. reverse text ++ (n ∷ a ∷ [])) (eqb-true b 13 return) ∙ ap (λ n. reverse text ++ (13 ∷ n ∷ [])) (eqb-true a 10 feed))))
    (λ (no_return : eqb b 13 ≡ false). ap (λ x. x && eqb b 13) feed ∙ no_return)
    (cases_Bool (eqb b 13)))
    (λ (no_feed : eqb a 10 ≡ false). ap (λ x. x && eqb b 13) no_feed)
    (cases_Bool (eqb a 10))

-- such a text's lines end in a line feed
pub other_line_end : (text : List ℕ) → ((front : List ℕ) → text ≡ front ++ (13 ∷ 10 ∷ []) → ⊥) → line_end text ≡ 10 ∷ []
other_line_end text other =
    ap (λ b. cond b (13 ∷ 10 ∷ []) (10 ∷ [])) (other_end (reverse text) (λ front e. other front (sym (reverse-reverse text) ∙ e)))

-- the written file, whose parts were written one behind the other
pub text-whole : (printed : List Pair → Instr → List ℕ) (region : Region) (items : List Instr) (plan : PlanValue) (end first head lines whole : List ℕ)
    → end ≡ line_end region.parts.before → first ≡ region.parts.before → head ≡ first ++ head_line (head_note plan.head) end
    → lines ≡ head ++ item_lines end (entries (printed region.pairs) region.tags items plan.notes) → whole ≡ lines ++ region.parts.after
    → whole ≡ written_text printed region items plan
unfolding region_text
text-whole printed region items plan end first head lines whole ends begins heads are closes =
    let before : List ℕ = region.parts.before in
    let top : List ℕ = head_line (head_note plan.head) end in
    let item_text : List ℕ = item_lines end (entries (printed region.pairs) region.tags items plan.notes) in
    closes
    ∙ ap (λ v. v ++ region.parts.after) (are ∙ ap (λ v. v ++ item_text) (heads ∙ ap (λ v. v ++ top) begins))
    ∙ ap (λ v. v ++ region.parts.after) (append_assoc before top item_text)
    ∙ append_assoc before (top ++ item_text) region.parts.after
    ∙ ap (λ v. before ++ ((head_line (head_note plan.head) v ++ item_lines v (entries (printed region.pairs) region.tags items plan.notes)) ++ region.parts.after)) ends

-- what holds of an Ok, said otherwise
pub ok-map : {T E : Type 0} {P Q : Type 0} (r : Result T E) → (P → Q) → OnOk r P → OnOk r Q
ok-map (Ok x) f p = f p
ok-map (Err e) f p = tt

-- the same where something is known of an error, too
pub match-map : {T E : Type 0} {P Q : Type 0} (R : Type 0) (r : Result T E) → (P → Q) → MatchResult r (λ _. P) (λ _. R) → OnOk r Q
match-map R (Ok x) f p = f p
match-map R (Err e) f p = tt

-- texts that were written one behind the other

pub three : (out a b c one two whole : List ℕ) → one ≡ out ++ a → two ≡ one ++ b → whole ≡ two ++ c → whole ≡ out ++ (a ++ (b ++ c))
three out a b c one two whole first second last =
    last ∙ ap (λ v. v ++ c) (second ∙ ap (λ v. v ++ b) first) ∙ grouped
  where
    grouped : ((out ++ a) ++ b) ++ c ≡ out ++ (a ++ (b ++ c))
    grouped = simp append_assoc refl

pub five : (out a b c d e one two more four whole : List ℕ) → one ≡ out ++ a → two ≡ one ++ b → more ≡ two ++ c → four ≡ more ++ d
    → whole ≡ four ++ e → whole ≡ out ++ (a ++ (b ++ (c ++ (d ++ e))))
five out a b c d e one two more four whole first second third fourth last =
    last
    ∙ ap (λ v. v ++ e) (fourth ∙ ap (λ v. v ++ d) (third ∙ ap (λ v. v ++ c) (second ∙ ap (λ v. v ++ b) first)))
    ∙ grouped
  where
    grouped : ((((out ++ a) ++ b) ++ c) ++ d) ++ e ≡ out ++ (a ++ (b ++ (c ++ (d ++ e))))
    grouped = simp append_assoc refl

-- three labels with their numbers
pub labelled : (out a m b n c k one two whole : List ℕ) → one ≡ out ++ (a ++ m) → two ≡ one ++ (b ++ n) → whole ≡ two ++ (c ++ k)
    → whole ≡ out ++ (a ++ (m ++ (b ++ (n ++ (c ++ k)))))
labelled out a m b n c k one two whole first second last =
    last ∙ ap (λ v. v ++ (c ++ k)) (second ∙ ap (λ v. v ++ (b ++ n)) first) ∙ grouped
  where
    grouped : ((out ++ (a ++ m)) ++ (b ++ n)) ++ (c ++ k) ≡ out ++ (a ++ (m ++ (b ++ (n ++ (c ++ k)))))
    grouped = simp append_assoc refl
