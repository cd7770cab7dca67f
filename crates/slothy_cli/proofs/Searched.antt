-- What a search that found a schedule, or none, says of the space.
use Rattle.std.proofs.Common.{◌≡◌, ℕ, Bool, true, false, nat_lt, lt-ltb, List, length, Option, None, Some, Result, Ok, Err, if◌then◌else◌, refl, sym, ap, ◌∙◌, subst}
use Rattle.std.specs.Prelude.{IfOk, IfErr, MatchResult}
use Rattle.sl_model.specs.declared.schedule.Choice.{Choice}
use Rattle.sl_model.specs.Answers.{Gives, Refuses, RefusesBy}
use Rattle.sl_model.specs.Isa.{Isa}
use Rattle.sl_model.specs.Legal.{Problem}
use Rattle.sl_model.specs.Space.{InSpace, IsBest}
use Rattle.search_space.specs.Levels.{Verdict, straight_trees, verdict}
use Rattle.search_space.specs.Levels.Outcome.{Found, Spent, Nothing}
use Rattle.search_space.specs.Levels.Verdict.{First, Infeasible}
use Rattle.search_space.specs.Searchable.{IsSearchable}
use Rattle.search_space.proofs.ForCallers.{loses-nothing, verdict-first}
use Rattle.register_exchange.proofs.ForCallers.{straight-stands-for-all}
use Rattle.register_exchange.specs.Lost.{StandsForAll}
use Rattle.bnb_solver.specs.Straight.{Straight as TreesOf, IsRefused}
use Rattle.bnb_solver.specs.declared.refusal.ForestErr.{ForestErr}
use Rattle.bnb_solver.specs.declared.refusal.ForestErr.TheVariants as refusals
use Rattle.bnb_solver.specs.declared.refusal.TheConstants.{TREES}
use Rattle.slothy_cli.specs.declared.best.Best.{Best}
use Rattle.slothy_cli.specs.declared.stop.Failure.{Failure}
use Rattle.slothy_cli.specs.declared.stop.File.TheVariants as files
use Rattle.slothy_cli.specs.declared.stop.Quantity.TheVariants as quantities
use Rattle.slothy_cli.specs.declared.stop.Stop.{Stop}
use Rattle.slothy_cli.specs.declared.stop.Stop.TheVariants as stops
use Rattle.slothy_cli.specs.Command.{Aim}
use Rattle.slothy_cli.specs.Outcome.{ForestAnswers, StopAnswers, trees_stop}
use Rattle.slothy_cli.specs.Plan.{region_frame, region_problem}
use Rattle.slothy_cli.specs.Searched.{too_many_trees, schedule_in, searched, region_searched, HasFewest, IsOutOfReach, IsBestOf}
use Rattle.slothy_cli.specs.Setting.{Setting}
use Rattle.slothy_cli.specs.Shown.{stop_told}

-- no schedule of the space has at most so many stalls
abbrev IsEmptySpace : Problem → ℕ → Type 0
IsEmptySpace problem most = (schedule : List Choice) → InSpace problem most schedule → ⊥

-- ---- the trees

-- trees that were refused
pub refused-forest : (problem : Problem) (budget : ℕ) (e : ForestErr) (o : Option Stop) → o ≡ trees_stop e → IsRefused problem e → RefusesBy o (ForestAnswers problem budget)
refused-forest problem budget (refusals.TooManyTrees limit) o is r =
    subst (λ o. RefusesBy o (ForestAnswers problem budget)) (sym is)
    (ap (λ n. stops.TooLarge files.Input 0 quantities.Trees n) r.0, lt-ltb TREES (length (straight_trees problem)) r.1)
refused-forest problem budget refusals.NoMemory o is r = subst (λ o. RefusesBy o (ForestAnswers problem budget)) (sym is) tt

module _ (problem : Problem) (most budget : ℕ) where
  -- there aren't too many
  pub searched-few : nat_lt TREES (length (straight_trees problem)) ≡ false → searched problem most budget ≡ schedule_in most (verdict (straight_trees problem) most budget)
  unfolding searched
  searched-few few = ap (λ b. if b then Err too_many_trees else schedule_in most (verdict (straight_trees problem) most budget)) few

  -- there are
  searched-many : nat_lt TREES (length (straight_trees problem)) ≡ true → searched problem most budget ≡ Err too_many_trees
  unfolding searched
  searched-many many = ap (λ b. if b then Err too_many_trees else schedule_in most (verdict (straight_trees problem) most budget)) many

  -- trees that are refused refuse the search
  pub refused-search : (o : Option Stop) → RefusesBy o (ForestAnswers problem budget) → Refuses o (searched problem most budget)
  refused-search None r = tt
  refused-search (Some stop) r = searched-many r.1 ∙ ap Err (sym r.0)

  -- and say nothing of what is out of reach
  pub refused-reach : (o : Option Stop) → RefusesBy o (ForestAnswers problem budget) → o ≡ Some (stops.Infeasible most) → IsOutOfReach problem most
  refused-reach None r is = absurd (cc)
  refused-reach (Some stop) r is = absurd (let same : Some too_many_trees ≡ Some (stops.Infeasible most) = ap Some (sym r.0) ∙ is in cc)

  module _ (searchable : IsSearchable problem) where
    -- a schedule that was found is the best
    pub searched-best : (schedule : List Choice) → searched problem most budget ≡ Ok schedule → IsBest problem most schedule
    unfolding searched
    searched-best schedule is = many (nat_lt TREES (length (straight_trees problem))) is
      where
        by : (v : Verdict) → verdict (straight_trees problem) most budget ≡ v → schedule_in most v ≡ Ok schedule → IsBest problem most schedule
        by (First level tree (Found x)) told e =
            let same : x ≡ schedule = cc in
            subst (IsBest problem most) same ((loses-nothing problem searchable most budget).best level tree x told)
        by (First level tree Spent) told e = absurd (cc)
        by (First level tree Nothing) told e = absurd (cc)
        by Infeasible told e = absurd (cc)

        many : (b : Bool) → (if b then Err too_many_trees else schedule_in most (verdict (straight_trees problem) most budget)) ≡ Ok schedule → IsBest problem most schedule
        many true e = absurd (cc)
        many false e = by (verdict (straight_trees problem) most budget) refl e

    -- where none has few enough stalls, the space is empty
    searched-empty : searched problem most budget ≡ Err (stops.Infeasible most) → IsEmptySpace problem most
    unfolding searched
    searched-empty is = many (nat_lt TREES (length (straight_trees problem))) is
      where
        by : (v : Verdict) → verdict (straight_trees problem) most budget ≡ v → schedule_in most v ≡ Err (stops.Infeasible most) → IsEmptySpace problem most
        by (First level tree (Found x)) told e = absurd (cc)
        by (First level tree Spent) told e = absurd (cc)
        by (First level tree Nothing) told e = absurd ((verdict-first (straight_trees problem) most budget level tree Nothing told).first.some refl)
        by Infeasible told e = (loses-nothing problem searchable most budget).none told

        many : (b : Bool) → (if b then Err too_many_trees else schedule_in most (verdict (straight_trees problem) most budget)) ≡ Err (stops.Infeasible most) → IsEmptySpace problem most
        many true e = absurd (cc)
        many false e = by (verdict (straight_trees problem) most budget) refl e

-- ---- a region's problem

module _ (isa : Isa) (aim : Aim) (setting : Setting) (searchable : IsSearchable (region_problem isa aim setting)) where
  -- the space stands for all full legal schedules
  stands : StandsForAll (region_problem isa aim setting) aim.most
  stands = straight-stands-for-all isa setting.region.items (region_frame aim setting.region.items) setting.costs searchable aim.most

  -- so its best has the fewest stalls of all
  pub best-fewest : (schedule : List Choice) → IsBest (region_problem isa aim setting) aim.most schedule → HasFewest (region_problem isa aim setting) schedule
  best-fewest schedule best other full = stands.best schedule other best full

  -- and where it is empty, none has so few
  empty-reach : IsEmptySpace (region_problem isa aim setting) aim.most → IsOutOfReach (region_problem isa aim setting) aim.most
  empty-reach empty = stands.none empty

module _ (isa : Isa) (aim : Aim) (setting : Setting) (forest : TreesOf) (is : forest ≡ record { problem = region_problem isa aim setting; budget = aim.budget }) (searchable : IsSearchable forest.problem) where
  -- what was found
  pub best-of : (result : Result Best Failure) → Gives stop_told (λ (best : Best). best.schedule.items) result (searched forest.problem aim.most forest.budget)
      → IfOk result (λ (best : Best). best.forest ≡ forest) → IfOk result (λ (best : Best). IsBestOf isa aim setting best.forest.problem best.schedule.items)
  best-of (Ok best) told same = record {
    is = ap (λ (f : TreesOf). f.problem) (same ∙ is);
    searchable = subst (λ (f : TreesOf). IsSearchable f.problem) (sym same) searchable;
    best = subst (λ (f : TreesOf). IsBest f.problem aim.most best.schedule.items) (sym same) (searched-best forest.problem aim.most forest.budget searchable best.schedule.items told);
  }
  best-of (Err failure) told same = tt

  -- why none was
  pub out_of_reach-of : (result : Result Best Failure) → Gives stop_told (λ (best : Best). best.schedule.items) result (searched forest.problem aim.most forest.budget)
      → IfErr result (λ (failure : Failure). stop_told failure ≡ Some (stops.Infeasible aim.most) → IsOutOfReach (region_problem isa aim setting) aim.most)
  out_of_reach-of (Ok best) told = tt
  out_of_reach-of (Err failure) told = λ why.
      empty-reach isa aim setting (subst (λ (f : TreesOf). IsSearchable f.problem) is searchable)
      (subst (λ (f : TreesOf). IsEmptySpace f.problem aim.most) is
      (searched-empty forest.problem aim.most forest.budget searchable
      (subst (λ o. Refuses o (searched forest.problem aim.most forest.budget)) why told)))

-- a schedule that is handed on, with its problem
pub handed : (isa : Isa) (aim : Aim) (setting : Setting) (problem given : Problem) (schedule x : List Choice) → IsBestOf isa aim setting problem schedule → given ≡ problem → x ≡ schedule → IsBestOf isa aim setting given x
handed isa aim setting problem given schedule x best same here =
    subst (λ p. IsBestOf isa aim setting p x) (sym same) (subst (IsBestOf isa aim setting problem) (sym here) best)

-- ---- what is answered

module _ (problem : Problem) (most : ℕ) (came : Result (List Choice) Stop) (IsFor : List Choice → Result (List ℕ) Stop → Type 0) where
  -- where a schedule was found
  pub answers-found : (schedule : List Choice) (answer : Result (List ℕ) Stop) → came ≡ Ok schedule → IsFor schedule answer
      → MatchResult came (λ schedule. IsFor schedule answer) (λ stop. StopAnswers problem most stop answer)
  answers-found schedule answer is right = subst (λ r. MatchResult r (λ schedule. IsFor schedule answer) (λ stop. StopAnswers problem most stop answer)) (sym is) right

  -- where none was
  pub answers-stopped : (told : Option Stop) → Refuses told came → (told ≡ Some (stops.Infeasible most) → IsOutOfReach problem most)
      → RefusesBy told (λ answer. MatchResult came (λ schedule. IsFor schedule answer) (λ stop. StopAnswers problem most stop answer))
  answers-stopped None refuses reach = tt
  answers-stopped (Some stop) refuses reach =
      subst (λ r. MatchResult r (λ schedule. IsFor schedule (Err stop)) (λ why. StopAnswers problem most why (Err stop))) (sym refuses)
      (refl, λ why. reach (ap Some why))
