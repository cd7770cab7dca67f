use Rattle.register_exchange.proofs.Looped.{no-choice-lost-in-loops}
use Rattle.register_exchange.proofs.no_choice_is_lost_in_loops.Goals as goal

pub returns : goal.returns
returns c = no-choice-lost-in-loops
