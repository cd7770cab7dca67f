-- That no register choice is lost: for each legal list there is one of reduced choices that is as
-- good. Source: the stated space, which takes of registers that are alike the least.
use Rattle.std.specs.Prelude.{ℕ, ◌≡◌, ◌<◌, ◌≤◌, List, []}
use Rattle.sl_model.specs.declared.frame.Frame.{Frame}
use Rattle.sl_model.specs.declared.instruction.Instr.{Instr}
use Rattle.sl_model.specs.declared.schedule.Choice.{Choice}
use Rattle.sl_model.specs.Isa.{Isa}
use Rattle.sl_model.specs.Cycles.{CostTable}
use Rattle.sl_model.specs.Legal.{Problem, IsLegalFrom, IsFullLegal, sources_in, straight_problem}
use Rattle.sl_model.specs.SecondPass.{loop_stalls}
use Rattle.sl_model.specs.Space.{InSpace, IsBest, stalls_of}
use Rattle.search_space.specs.Searchable.{IsSearchable}
use Rattle.register_exchange.specs.AsGood.{AllowsAlike, EntriesAreFinal, IsAsGood}

-- For each legal list, full or not, there is one of reduced choices that is as good.
abbrev pub HasAsGood : Problem → Type 0
HasAsGood problem = (schedule : List Choice) → IsLegalFrom problem [] schedule
    → (other : List Choice) × IsAsGood problem schedule other

-- The same where the list is a loop's body: it also has the stalls of the other's second pass.
abbrev pub HasAsGoodInLoops : Problem → Type 0
HasAsGoodInLoops problem = (schedule : List Choice) → IsLegalFrom problem [] schedule
    → (other : List Choice) × IsAsGood problem schedule other
    × (loop_stalls problem.costs (sources_in problem) other
    ≡ loop_stalls problem.costs (sources_in problem) schedule)

-- The stated space stands for all full legal lists, whatever their registers: none has fewer stalls
-- than its best, and where it is empty none has as few as it asks for.
pub record StandsForAll (problem : Problem) (most : ℕ) : Type 0 where
  pub best : (schedule other : List Choice) → IsBest problem most schedule
      → IsFullLegal problem other → stalls_of problem schedule ≤ stalls_of problem other
  pub none : ((schedule : List Choice) → InSpace problem most schedule → ⊥)
      → (other : List Choice) → IsFullLegal problem other → most < stalls_of problem other

-- What no register choice is lost by: a problem whose items may write the same registers, but for
-- final ones, has for each legal list one of reduced choices that is as good, and so its stated
-- space stands for all its full legal lists. A straight problem is such.
pub record NoChoiceLost : Type 0 where
  pub as_good : (problem : Problem) → IsSearchable problem → AllowsAlike problem → HasAsGood problem
  pub space : (problem : Problem) → IsSearchable problem → AllowsAlike problem → (most : ℕ)
      → StandsForAll problem most
  pub straight : (isa : Isa) (items : List Instr) (frame : Frame) (costs : CostTable)
      → IsSearchable (straight_problem isa items frame costs) → (most : ℕ)
      → StandsForAll (straight_problem isa items frame costs) most

-- The same of a loop's body, where each register that is read as it was before the first item is
-- final.
abbrev pub NoChoiceLostInLoops : Type 0
NoChoiceLostInLoops = (problem : Problem) → IsSearchable problem → AllowsAlike problem
    → EntriesAreFinal problem → HasAsGoodInLoops problem
