-- Loops that go down a list, and what each turn leaves to test.
use Rattle.std.proofs.Common.{◌≡◌, ℕ, ◌+◌, ◌<◌, ◌&&◌, not, Bool, true, List, [], ◌∷◌, drop, length, get_or, Option, None, Some, refl, sym, ap, ◌∙◌}
use Rattle.std.proofs.lemmas.List.{at_drop_more}
use Rattle.std.specs.List.{list_any, filter_map}
use Rattle.sl_model.specs.declared.register.Reg.{Reg}
use Rattle.sl_model.specs.Register.{same_reg}
use Rattle.sl_model.specs.Body.{all_differ}
use Rattle.sl_laws.proofs.Registers.{place_from-among}

-- the outputs among places
abbrev pub regs_of : List (Option Reg) → List Reg
regs_of outs = filter_map (λ r. r) outs

-- a place with no output is passed over
pub outs-none : {B : Type 0} (f : List Reg → B) (outs : List (Option Reg)) (i : ℕ) → i < length outs → get_or outs i None ≡ None
    → f (regs_of (drop i outs)) ≡ f (regs_of (drop (i + 1) outs))
outs-none f outs i within none =
    at_drop_more (λ xs. f (regs_of xs)) outs i None within ∙ ap (λ o. f (regs_of (o ∷ drop (i + 1) outs))) none

-- an output stands before those left
pub outs-some : {B : Type 0} (f : List Reg → B) (outs : List (Option Reg)) (i : ℕ) (r : Reg) → i < length outs → get_or outs i None ≡ Some r
    → f (regs_of (drop i outs)) ≡ f (r ∷ regs_of (drop (i + 1) outs))
outs-some f outs i r within some =
    at_drop_more (λ xs. f (regs_of xs)) outs i None within ∙ ap (λ o. f (regs_of (o ∷ drop (i + 1) outs))) some

-- the outputs differ where the first is none of the others, and those differ
pub all_differ-cons : (r : Reg) (regs : List Reg) (among : Bool) → among ≡ list_any (λ out. same_reg out r) regs → all_differ (r ∷ regs) ≡ (not among && all_differ regs)
unfolding all_differ
all_differ-cons r regs among is = ap (λ b. not b && all_differ regs) (place_from-among 0 r regs ∙ sym is)

pub all_differ-nil : all_differ [] ≡ true
unfolding all_differ
all_differ-nil = refl
