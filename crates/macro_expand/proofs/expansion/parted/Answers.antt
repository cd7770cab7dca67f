use Rattle.macro_expand.proofs.SliceLemmas.{no-lists}
use Rattle.macro_expand.proofs.expansion.parted.Goals as goal

pub returns-clause-slices : goal.returns-clause-slices
returns-clause-slices c texts parts = c.in_ok-push_divided.ensures.slices texts parts (no-lists texts c.new-lists.result.items c.new-lists.ensures.items)
