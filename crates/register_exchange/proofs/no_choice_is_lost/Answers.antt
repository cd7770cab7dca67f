use Rattle.register_exchange.proofs.ForCallers.{no-choice-lost}
use Rattle.register_exchange.proofs.no_choice_is_lost.Goals as goal

pub returns : goal.returns
returns c = no-choice-lost
