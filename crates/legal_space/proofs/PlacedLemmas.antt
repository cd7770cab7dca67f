-- What the choices made so far have done, said by std's words on lists.
use Rattle.std.proofs.Common.{◌≡◌, ℕ, ◌==◌, ◌||◌, true, false, List, [], ◌∷◌, slice_get, Option, None, Some, option_and_then, is_some, cond, reverse, refl, sym, ap, ◌∙◌}
use Rattle.std.specs.List.{find, list_any}
use Rattle.std.proofs.lemmas.List.Sorted.{list_any-IsPermutation, IsPermutation-reverse}
use Rattle.sl_model.specs.declared.register.Reg.{Reg}
use Rattle.sl_model.specs.declared.schedule.Choice.{Choice}
use Rattle.sl_model.specs.declared.schedule.Source.{Source}
use Rattle.sl_model.specs.declared.schedule.Source.TheVariants.{Entry}
use Rattle.sl_model.specs.Source.{place_from, output_or}
use Rattle.sl_model.specs.Body.{chosen, is_placed, placed_in, held}

-- an item was placed where a choice is of it
pub is_placed-any : (done : List Choice) (item : ℕ) → is_placed done item ≡ list_any (λ c. c.item == item) done
unfolding is_placed
is_placed-any [] item = refl
is_placed-any (c ∷ done) item = ap (λ b. c.item == item || b) (is_placed-any done item)

-- whichever way the choices are listed
pub any_placed : (done : List Choice) (item : ℕ) → list_any (λ c. c.item == item) done ≡ is_placed (reverse done) item
any_placed done item = list_any-IsPermutation (λ c. c.item == item) done (reverse done) (IsPermutation-reverse done) ∙ sym (is_placed-any (reverse done) item)

-- an output was placed by the last choice of its item
pub placed_in-find : (item place : ℕ) (done : List Choice) → placed_in done item place ≡ option_and_then (λ c. slice_get (chosen c) place) (find (λ c. c.item == item) done)
unfolding placed_in
placed_in-find item place [] = refl
placed_in-find item place (c ∷ done) =
    elim (c.item == item) as (λ b. cond b (slice_get (chosen c) place) (placed_in done item place) ≡ option_and_then (λ c. slice_get (chosen c) place) (cond b (Some c) (find (λ c. c.item == item) done)))
    [ true ↦ refl | false ↦ placed_in-find item place done ]

-- no choice is of the item
pub placed-nowhere : (item place : ℕ) (done : List Choice) → None ≡ find (λ c. c.item == item) done → None ≡ placed_in done item place
placed-nowhere item place done none = ap (option_and_then (λ c. slice_get (chosen c) place)) none ∙ sym (placed_in-find item place done)

-- the last choice of the item placed it
pub placed-last : (item place : ℕ) (done : List Choice) (last : Choice) → Some last ≡ find (λ c. c.item == item) done → slice_get (chosen last) place ≡ placed_in done item place
placed-last item place done last found = ap (option_and_then (λ c. slice_get (chosen c) place)) found ∙ sym (placed_in-find item place done)

-- what a register holds after the last choice that writes it, if there is one
abbrev pub held_by : Reg → Option Choice → Source
held_by r None = Entry r
held_by r (Some c) = output_or c.item (place_from 0 r (chosen c)) (Entry r)

-- a register holds what the last choice that writes it put there
pub held-find : (r : Reg) (done : List Choice) → held done r ≡ held_by r (find (λ c. is_some (place_from 0 r (chosen c))) done)
unfolding held
held-find r [] = refl
held-find r (c ∷ done) =
    elim (place_from 0 r (chosen c)) as (λ p. place_from 0 r (chosen c) ≡ p → output_or c.item p (held done r) ≡ held_by r (cond (is_some p) (Some c) (find (λ c. is_some (place_from 0 r (chosen c))) done)))
    [ None ↦ λ e. held-find r done | Some place ↦ λ e. sym (ap (λ p. output_or c.item p (Entry r)) e) ] refl

-- where no choice writes a register
pub held-nowhere : (r : Reg) (done : List Choice) → None ≡ find (λ c. is_some (place_from 0 r (chosen c))) done → Entry r ≡ held done r
held-nowhere r done none = ap (held_by r) none ∙ sym (held-find r done)

-- where one does
pub held-last : (r : Reg) (done : List Choice) (last : Choice) → Some last ≡ find (λ c. is_some (place_from 0 r (chosen c))) done
    → output_or last.item (place_from 0 r (chosen last)) (Entry r) ≡ held done r
held-last r done last found = ap (held_by r) found ∙ sym (held-find r done)
