use Rattle.macro_expand.proofs.SliceLemmas.{one-piece}
use Rattle.macro_expand.proofs.expansion.give.Goals as goal

pub returns-clause-slices : goal.returns-clause-slices
returns-clause-slices c texts what known = record {
  aliases = known.aliases;
  given = one-piece texts c.args.known.now.given.items c.push.new.self.items _ c.in_ok-push.ensures.items what known.given;
}
