use Rattle.std.proofs.Common.{ap, None}
use Rattle.macro_expand.proofs.SliceLemmas.{aliases-after}
use Rattle.macro_expand.specs.Views.{known_of}
use Rattle.macro_expand.proofs.AliasLemmas.{names-after}
use Rattle.macro_expand.proofs.expansion.end_alias.Goals as goal

pub returns-clause-known : goal.returns-clause-known
returns-clause-known c =
    ap (λ a. record (known_of c.args.known.now) { aliases = a })
    (names-after c.args.name.now c.args.known.now.aliases c.swap_remove.new.self None c.swap_remove.ensures.updates)

pub returns-clause-slices : goal.returns-clause-slices
returns-clause-slices c texts known = record {
  aliases = aliases-after texts c.args.name.now c.args.known.now.aliases c.swap_remove.new.self None c.swap_remove.ensures.updates tt known.aliases;
  given = known.given;
}
