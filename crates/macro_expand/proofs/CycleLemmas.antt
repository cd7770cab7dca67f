-- Bodies expanded piece by piece, and refusals on the way.
use Rattle.std.proofs.Common.{◌≡◌, ℕ, zero, suc, ◌+◌, ◌-◌, ◌<◌, ◌≤◌, Bool, true, false, cond, eqb, List, [], ◌∷◌, ◌++◌, length, map, drop, get_or, refl, ap, sym, ◌∙◌, subst, arith, drop-cons, codes, Option, Some, Result, Ok, Err}
use Rattle.std.proofs.Math.ListN.{drop_of_length-le}
use Rattle.std.proofs.lemmas.List.{length-map}
use Rattle.std.proofs.lemmas.Bool.Decides.{nat_tests}
use Rattle.std.specs.declared.vec.Vec.{Vec}
use Rattle.sl_model.specs.Token.{Lexeme}
use Rattle.macro_expand.specs.Words.{words, arguments, is_empty, is_directive}
use Rattle.macro_expand.specs.Filled.{Names, replaced}
use Rattle.macro_expand.specs.Source as source
use Rattle.sl_model.specs.declared.limits.TheConstants.{EXPANSION_DEPTH}
use Rattle.sl_model.specs.ResultSteps.{◌>>=◌}
use Rattle.macro_expand.specs.Expansion.{Known, Macro, Refusal, Run, expand_one, expand_all, in_turn, run, statement, invoked, given_macro, invoke, run_with, count, give, tail, uninvoked}
use Rattle.macro_expand.specs.Expansion as spec
use Rattle.macro_expand.specs.Spelled.{spelled, spelled_lists}
use Rattle.sl_model.specs.Answers.{Refuses as AnswerRefuses}
use Rattle.macro_expand.specs.Views.{what_of, refusal_of}
use Rattle.macro_expand.specs.declared.parts.Part.{Part}
use Rattle.macro_expand.specs.declared.expansion.What.{What}
use Rattle.macro_expand.specs.declared.reasons.ExpandErr.{ExpandErr}
use Rattle.macro_expand.specs.declared.reasons.ExpandErr.TheVariants.{Refused, NoMemory}
use Rattle.macro_expand.specs.declared.reasons.ExpandReason.TheVariants as reason

-- a failure is the refusal that a definition answers, or want of memory
abbrev pub Refuses : {Y : Type 0} → ExpandErr → Result Y Refusal → Type 0
Refuses failure answer = AnswerRefuses (refusal_of failure) answer

-- what fails first, fails all
pub fails-on : {A B : Type 0} (failure : ExpandErr) (first : Result A Refusal) (f : A → Result B Refusal) → Refuses failure first → Refuses failure (first >>= f)
fails-on (Refused line reason) first f e = ap (λ r. r >>= f) e
fails-on NoMemory first f e = tt

abbrev pub Step : Type 0
Step = Bool → List ℕ → Known → Result Known Refusal

-- ---- the pieces of a body

all-step : (step : Step) (line : ℕ) (values : Names (List ℕ)) (body : List What) (place : ℕ) (d : What) (known : Known) → place < length body
    → expand_all step line values (map what_of (drop place body)) known ≡ (expand_one step line values (what_of (get_or body place d)) known >>= expand_all step line values (map what_of (drop (place + 1) body)))
unfolding expand_all
all-step step line values body place d known within =
    let next : suc place ≡ place + 1 = omega arith in
    ap (λ rest. expand_all step line values (map what_of rest) known) (drop-cons body place d within)
    ∙ ap (λ n. expand_one step line values (what_of (get_or body place d)) known >>= expand_all step line values (map what_of (drop n body))) next

pub all-more : (step : Step) (line : ℕ) (values : Names (List ℕ)) (body : List What) (place : ℕ) (d : What) (known new : Known) (all : Result Known Refusal) → place < length body
    → expand_one step line values (what_of (get_or body place d)) known ≡ Ok new
    → expand_all step line values (map what_of (drop place body)) known ≡ all
    → expand_all step line values (map what_of (drop (place + 1) body)) new ≡ all
all-more step line values body place d known new all within e so_far =
    sym (ap (λ r. r >>= expand_all step line values (map what_of (drop (place + 1) body))) e) ∙ sym (all-step step line values body place d known within) ∙ so_far

pub all-fails : (step : Step) (line : ℕ) (values : Names (List ℕ)) (body : List What) (place : ℕ) (d : What) (known : Known) (all : Result Known Refusal) (failure : ExpandErr) → place < length body
    → Refuses failure (expand_one step line values (what_of (get_or body place d)) known)
    → expand_all step line values (map what_of (drop place body)) known ≡ all
    → Refuses failure all
all-fails step line values body place d known all failure within e so_far =
    subst (Refuses failure) (sym (all-step step line values body place d known within) ∙ so_far)
    (fails-on failure (expand_one step line values (what_of (get_or body place d)) known) (expand_all step line values (map what_of (drop (place + 1) body))) e)

pub all-done : (step : Step) (line : ℕ) (values : Names (List ℕ)) (body : List What) (place : ℕ) (known : Known) (all : Result Known Refusal) → length body ≤ place
    → expand_all step line values (map what_of (drop place body)) known ≡ all → all ≡ Ok known
unfolding expand_all
all-done step line values body place known all none so_far =
    sym so_far ∙ ap (λ rest. expand_all step line values (map what_of rest) known) (drop_of_length-le body {i = place} none)

-- ---- the statements of a list

module _ {A : Type 0} where
  turn-step : (step : List ℕ → Known → Result Known Refusal) (lists : List (Vec Part A)) (place : ℕ) (d : Vec Part A) (known : Known) → place < length lists
      → in_turn step (spelled_lists (drop place lists)) known ≡ (step (spelled (get_or lists place d).items) known >>= in_turn step (spelled_lists (drop (place + 1) lists)))
  unfolding in_turn
  turn-step step lists place d known within =
      let next : suc place ≡ place + 1 = omega arith in
      ap (λ rest. in_turn step (spelled_lists rest) known) (drop-cons lists place d within)
      ∙ ap (λ n. step (spelled (get_or lists place d).items) known >>= in_turn step (spelled_lists (drop n lists))) next

  pub turn-more : (step : List ℕ → Known → Result Known Refusal) (lists : List (Vec Part A)) (place : ℕ) (d : Vec Part A) (known new : Known) (all : Result Known Refusal) → place < length lists
      → step (spelled (get_or lists place d).items) known ≡ Ok new
      → in_turn step (spelled_lists (drop place lists)) known ≡ all
      → in_turn step (spelled_lists (drop (place + 1) lists)) new ≡ all
  turn-more step lists place d known new all within e so_far =
      sym (ap (λ r. r >>= in_turn step (spelled_lists (drop (place + 1) lists))) e) ∙ sym (turn-step step lists place d known within) ∙ so_far

  pub turn-fails : (step : List ℕ → Known → Result Known Refusal) (lists : List (Vec Part A)) (place : ℕ) (d : Vec Part A) (known : Known) (all : Result Known Refusal) (failure : ExpandErr) → place < length lists
      → Refuses failure (step (spelled (get_or lists place d).items) known)
      → in_turn step (spelled_lists (drop place lists)) known ≡ all
      → Refuses failure all
  turn-fails step lists place d known all failure within e so_far =
      subst (Refuses failure) (sym (turn-step step lists place d known within) ∙ so_far)
      (fails-on failure (step (spelled (get_or lists place d).items) known) (in_turn step (spelled_lists (drop (place + 1) lists))) e)

  pub turn-done : (step : List ℕ → Known → Result Known Refusal) (lists : List (Vec Part A)) (place : ℕ) (known : Known) (all : Result Known Refusal) → length lists ≤ place
      → in_turn step (spelled_lists (drop place lists)) known ≡ all → all ≡ Ok known
  unfolding in_turn
  turn-done step lists place known all none so_far =
      sym so_far ∙ ap (λ rest. in_turn step (spelled_lists rest) known) (drop_of_length-le lists {i = place} none)

-- ---- a body run

pub run-too-deep : (macros : Names Macro) (deeper line : ℕ) (text : List ℕ) (values : Names (List ℕ)) (body : List source.What) (known : Known) → deeper ≡ 0
    → run macros deeper line text values body known ≡ Err (record { line = line; reason = reason.Depth EXPANSION_DEPTH })
unfolding run
run-too-deep macros deeper line text values body known e = ap (λ n. run macros n line text values body known) e

-- what a run does once the statement is counted
abbrev pub counted-run : Names Macro → ℕ → ℕ → Names (List ℕ) → List source.What → Known → Result Known Refusal
counted-run macros deeper line values body counted =
    expand_all (statement macros (run macros deeper) line) line values body (give line source.Row counted)
    >>= λ done. Ok (give line source.Invoked done)

pub run-counts : (macros : Names Macro) (deeper line : ℕ) (text : List ℕ) (values : Names (List ℕ)) (body : List source.What) (known : Known) → (deeper ≡ 0 → ⊥)
    → run macros deeper line text values body known ≡ (count line text known >>= counted-run macros (deeper - 1) line values body)
unfolding run
run-counts macros zero line text values body known some = absurd (some refl)
run-counts macros (suc deeper) line text values body known some =
    let less : suc deeper - 1 ≡ deeper = omega arith in
    ap (λ n. count line text known >>= counted-run macros n line values body) (sym less)

pub run-expands : (macros : Names Macro) (deeper line : ℕ) (text : List ℕ) (values : Names (List ℕ)) (body : List source.What) (known counted begun : Known) → (deeper ≡ 0 → ⊥)
    → count line text known ≡ Ok counted → begun ≡ give line source.Row counted
    → run macros deeper line text values body known ≡ (expand_all (statement macros (run macros (deeper - 1)) line) line values body begun >>= λ done. Ok (give line source.Invoked done))
run-expands macros deeper line text values body known counted begun some e begins =
    run-counts macros deeper line text values body known some
    ∙ ap (λ r. r >>= counted-run macros (deeper - 1) line values body) e
    ∙ ap (λ k. expand_all (statement macros (run macros (deeper - 1)) line) line values body k >>= λ done. Ok (give line source.Invoked done)) (sym begins)

-- ---- a statement

-- a statement by its words and the macro that it invokes
pub statement-by : (macros : Names Macro) (r : Run) (line : ℕ) (unknown : Bool) (text : List ℕ) (known : Known) (found : Option Macro)
    → spec.is_macro_head (words text) ≡ false → found ≡ invoked macros (words text)
    → statement macros r line unknown text known ≡ given_macro r line unknown text (words text) found known
unfolding statement
statement-by macros r line unknown text known found not_head is =
    ap (λ b. cond b (Err (record { line = line; reason = reason.NoEndm })) (given_macro r line unknown text (words text) (invoked macros (words text)) known)) not_head
    ∙ ap (λ m. given_macro r line unknown text (words text) m known) (sym is)

pub statement-defines : (macros : Names Macro) (r : Run) (line : ℕ) (unknown : Bool) (text : List ℕ) (known : Known)
    → spec.is_macro_head (words text) ≡ true → statement macros r line unknown text known ≡ Err (record { line = line; reason = reason.NoEndm })
unfolding statement
statement-defines macros r line unknown text known is_head =
    ap (λ b. cond b (Err (record { line = line; reason = reason.NoEndm })) (given_macro r line unknown text (words text) (invoked macros (words text)) known)) is_head

-- a statement that invokes a macro with parameters
pub statement-with : (macros : Names Macro) (r : Run) (line : ℕ) (unknown : Bool) (text : List ℕ) (known : Known) (m : Macro) (names values : List (List ℕ))
    → spec.is_macro_head (words text) ≡ false → Some m ≡ invoked macros (words text) → m.parameters ≡ Some names → values ≡ arguments text (tail (words text))
    → statement macros r line unknown text known ≡ run_with r line unknown text m names values known
statement-with macros r line unknown text known m names values not_head is named valued =
    statement-by macros r line unknown text known (Some m) not_head is
    ∙ ap (λ p. invoke r line unknown text m p (arguments text (tail (words text))) known) named
    ∙ ap (λ vs. run_with r line unknown text m names vs known) (sym valued)

-- the numbers of arguments and of parameters, as the code and as the definition compare them
pub as-many : {X Y Z W : Type 0} (f : X → Z) (g : Y → W) (xs : List X) (ys : List Y) → eqb (length (map f xs)) (length (map g ys)) ≡ eqb (length xs) (length ys)
as-many f g xs ys = ap (λ n. eqb n (length (map g ys))) (length-map xs f) ∙ ap (λ n. eqb (length xs) n) (length-map ys g)

-- ---- a plain statement

pub none-before : (xs : List Part) (rest : List ℕ) → xs ≡ [] → spelled xs ++ rest ≡ rest
unfolding spelled
none-before xs rest e = ap (λ ps. spelled ps ++ rest) e

-- what a plain statement gives, by its text with aliases replaced
pub plain-by : (line : ℕ) (text whole : List ℕ) (tokens : List Lexeme) (known : Known) → whole ≡ replaced known.aliases text true [] 0 tokens
    → spec.plain line text tokens known ≡ (count line whole known >>= λ counted. Ok (spec.give_statement line whole tokens counted))
plain-by line text whole tokens known is = ap (λ w. count line w known >>= λ counted. Ok (spec.give_statement line w tokens counted)) (sym is)

pub plain-counted : (line : ℕ) (text whole : List ℕ) (tokens : List Lexeme) (known counted : Known) → whole ≡ replaced known.aliases text true [] 0 tokens
    → count line whole known ≡ Ok counted → spec.plain line text tokens known ≡ Ok (spec.give_statement line whole tokens counted)
plain-counted line text whole tokens known counted is e =
    plain-by line text whole tokens known is ∙ ap (λ r. r >>= λ k. Ok (spec.give_statement line whole tokens k)) e

pub gives-empty : (line : ℕ) (whole : List ℕ) (tokens : List Lexeme) (counted : Known) → is_empty whole ≡ true → spec.give_statement line whole tokens counted ≡ counted
gives-empty line whole tokens counted none =
    ap (λ b. cond b counted (cond (is_directive (codes "endm") tokens) counted (give line (source.Statement whole) counted))) none

pub gives-none : (line : ℕ) (whole : List ℕ) (tokens : List Lexeme) (counted : Known) → is_empty whole ≡ false → is_directive (codes "endm") tokens ≡ true
    → spec.give_statement line whole tokens counted ≡ counted
gives-none line whole tokens counted some ends =
    ap (λ b. cond b counted (cond (is_directive (codes "endm") tokens) counted (give line (source.Statement whole) counted))) some
    ∙ ap (λ b. cond b counted (give line (source.Statement whole) counted)) ends

pub gives-one : (line : ℕ) (whole : List ℕ) (tokens : List Lexeme) (counted : Known) → is_empty whole ≡ false → is_directive (codes "endm") tokens ≡ false
    → spec.give_statement line whole tokens counted ≡ give line (source.Statement whole) counted
gives-one line whole tokens counted some goes =
    ap (λ b. cond b counted (cond (is_directive (codes "endm") tokens) counted (give line (source.Statement whole) counted))) some
    ∙ ap (λ b. cond b counted (give line (source.Statement whole) counted)) goes

-- the test for nothing of std is that of the definition
pub empty-same : (xs : List ℕ) → eqb (length xs) 0 ≡ is_empty xs
empty-same [] = refl
empty-same (x ∷ xs) = grind (arith, nat_tests)
