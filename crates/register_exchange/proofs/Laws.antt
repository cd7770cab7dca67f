-- No register choice is lost, and so the stated space stands for all full legal lists.
use Rattle.std.proofs.Common.{◌≡◌, ℕ, true, ◌<◌, ◌≤◌, arith, List, [], length, ⊎_elim, refl, sym, ap, ◌∙◌}
use Rattle.std.proofs.lemmas.Bool.{cases_lt}
use Rattle.sl_model.specs.declared.schedule.Choice.{Choice}
use Rattle.sl_model.specs.Body.{held, is_full}
use Rattle.sl_model.specs.Legal.{Problem}
use Rattle.sl_model.specs.Space.{InSpace, stalls_of}
use Rattle.search_space.specs.Searchable.{IsSearchable}
use Rattle.register_exchange.specs.AsGood.{AllowsAlike, IsAsGood}
use Rattle.register_exchange.specs.Lost.{HasAsGood, StandsForAll}
use Rattle.register_exchange.proofs.Alive.{alive-none}
use Rattle.register_exchange.proofs.First.{Goes}
use Rattle.register_exchange.proofs.Moves.{run_on-none, stalls-moves, full-moves}
use Rattle.register_exchange.proofs.Reduce.{all-reduced}

module _ (problem : Problem) (search : IsSearchable problem) (alike : AllowsAlike problem) where
  -- each legal list has one of reduced choices that is as good
  pub has-as_good : HasAsGood problem
  has-as_good schedule legal =
      let goes : Goes problem [] schedule = record { legal = legal; alive = alive-none problem } in
      let r = all-reduced problem search alike (length schedule) [] schedule refl goes in (
        r.0,
        record {
          legal = r.1.legal;
          reduced = r.2;
          moves = r.3.moves;
          full = full-moves problem.graph.order r.0 schedule r.3.moves;
          stalls = stalls-moves problem r.0 schedule r.3.moves;
          ends = λ q fin. ap (λ d. held d q) (sym (run_on-none r.0)) ∙ r.3.ends q fin ∙ ap (λ d. held d q) (run_on-none schedule);
        },
      )

  -- a list that is as good as a full one with few enough stalls is of the space
  in-space : (most : ℕ) (schedule : List Choice) → stalls_of problem schedule ≤ most → is_full problem.graph.order schedule ≡ true → (r : (other : List Choice) × IsAsGood problem schedule other) → InSpace problem most r.0
  in-space most schedule within full r = record {
    legal = record { legal = r.1.legal; full = r.1.full ∙ full };
    reduced = r.1.reduced;
    stalls = (let same : stalls_of problem r.0 ≡ stalls_of problem schedule = r.1.stalls in omega arith);
  }

  -- so the space stands for all
  pub stands-for-all : (most : ℕ) → StandsForAll problem most
  stands-for-all most = record {
    best = λ x other best full. ⊎_elim
        (λ (more : most < stalls_of problem other). let few : stalls_of problem x ≤ most = best.member.stalls in omega arith)
        (λ (within : stalls_of problem other ≤ most).
        let r = has-as_good other full.legal in
        let same : stalls_of problem r.0 ≡ stalls_of problem other = r.1.stalls in
        let le : stalls_of problem x ≤ stalls_of problem r.0 = best.fewest r.0 (in-space most other within full.full r) in
        omega arith)
        (cases_lt most (stalls_of problem other));
    none = λ empty other full. ⊎_elim
        (λ (more : most < stalls_of problem other). more)
        (λ (within : stalls_of problem other ≤ most). (let r = has-as_good other full.legal in absurd (empty r.0 (in-space most other within full.full r))))
        (cases_lt most (stalls_of problem other));
  }
