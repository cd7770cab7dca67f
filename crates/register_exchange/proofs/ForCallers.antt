-- What other crates cite.
use Rattle.std.proofs.Common.{ℕ, List}
use Rattle.sl_model.specs.declared.frame.Frame.{Frame}
use Rattle.sl_model.specs.declared.instruction.Instr.{Instr}
use Rattle.sl_model.specs.Cycles.{CostTable}
use Rattle.sl_model.specs.Isa.{Isa}
use Rattle.sl_model.specs.Legal.{straight_problem}
use Rattle.search_space.specs.Searchable.{IsSearchable}
use Rattle.register_exchange.specs.Lost.{StandsForAll, NoChoiceLost}
use Rattle.register_exchange.proofs.Laws.{has-as_good, stands-for-all}
use Rattle.register_exchange.proofs.Straight.{straight-alike}

-- The stated space of a straight problem stands for all its full legal lists, whatever their registers.
pub straight-stands-for-all : (isa : Isa) (items : List Instr) (frame : Frame) (costs : CostTable) → IsSearchable (straight_problem isa items frame costs)
    → (most : ℕ) → StandsForAll (straight_problem isa items frame costs) most
straight-stands-for-all isa items frame costs search most =
    stands-for-all (straight_problem isa items frame costs) search (straight-alike isa items frame costs search) most

-- The whole law.
pub no-choice-lost : NoChoiceLost
no-choice-lost = record {
  as_good = has-as_good;
  space = stands-for-all;
  straight = straight-stands-for-all;
}
