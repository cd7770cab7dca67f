-- The cycles that items take by the slots that are left.
use Rattle.std.proofs.Common.{◌≡◌, ℕ, ◌+◌, ◌-◌, ◌<◌, List, [], ◌∷◌, length, reverse, refl, sym, ap, ap₂, ◌∙◌, arith}
use Rattle.std.proofs.lemmas.List.{length-reverse}
use Rattle.sl_model.specs.declared.schedule.Choice.{Choice}
use Rattle.sl_model.specs.Cycles.{Issued, issued_at, cycle_count, ceil_div, stalls}
use Rattle.sl_model.specs.Legal.{Problem}
use Rattle.sl_model.specs.Space.{stalls_of}
use Rattle.search_space.specs.Bound.{issued_for, filled}
use Rattle.search_space.proofs.ForCallers.{timed-is}
use Rattle.issue_cost.specs.declared.tally.Tally.{Tally}
use Rattle.issue_cost.specs.Tallies.{Tallies}
use Rattle.stall_bound.proofs.RecountLemmas.{length-issued}

-- no item takes no cycle
pub cycles-none : (done : List Issued) → length done ≡ 0 → 0 ≡ cycle_count done
cycles-none [] none = refl
cycles-none (i ∷ done) none = absurd (omega arith)

-- else they take one more than the cycle of the last
pub cycles-some : (done : List Issued) (tally : Tally) → Tallies done tally → 0 < length done → tally.cycle + 1 ≡ cycle_count done
cycles-some [] tally h some = absurd (omega arith)
cycles-some (i ∷ done) tally h some = ap (λ n. n + 1) h.last

-- where nothing was issued, all slots are left
pub filled-none : (width items : ℕ) (done : List Issued) → length done ≡ 0 → ceil_div items width ≡ filled width items done
unfolding filled
filled-none width items [] none = refl
filled-none width items (i ∷ done) none = absurd (omega arith)

-- else the rest of the last cycle's, and those of the cycles behind it
pub filled-some : (width items : ℕ) (done : List Issued) (tally : Tally) → Tallies done tally → 0 < length done
    → tally.cycle + 1 + ceil_div (items - length done - (width - tally.count)) width ≡ filled width items done
unfolding filled
filled-some width items [] tally h some = absurd (omega arith)
filled-some width items (i ∷ done) tally h some =
    let counted : tally.count ≡ issued_at i.cycle (i ∷ done) = h.count ∙ ap (λ cycle. issued_at cycle (i ∷ done)) h.last in
    ap₂ (λ cycle count. cycle + 1 + ceil_div (items - length (i ∷ done) - (width - count)) width) h.last counted

-- the stalls of a schedule
pub stalls-is : (problem : Problem) (schedule : List Choice) (cycles filling : ℕ) → cycles ≡ cycle_count (issued_for problem (reverse schedule))
    → filling ≡ ceil_div (length schedule) problem.costs.width → cycles - filling ≡ stalls_of problem schedule
stalls-is problem schedule cycles filling counted filled =
    let issued : List Issued = issued_for problem (reverse schedule) in
    let len : length issued ≡ length schedule = length-issued problem (reverse schedule) ∙ length-reverse schedule in
    ap₂ (λ m n. m - n) counted (filled ∙ ap (λ n. ceil_div n problem.costs.width) (sym len))
    ∙ ap (stalls problem.costs.width) (sym (timed-is problem schedule))
