use Rattle.dataflow.proofs.Sets.{members-none}
use Rattle.dataflow.proofs.item_set.ItemSet.new.Goals as goal

pub returns : goal.returns
returns c = members-none
