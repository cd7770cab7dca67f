use Rattle.std.proofs.Common.{ap, ◌∙◌, Some}
use Rattle.std.specs.Str.{bytes_eq}
use Rattle.std.specs.String.{string_bytes}
use Rattle.std.specs.Map.{update}
use Rattle.macro_expand.proofs.SliceLemmas.{aliases-after}
use Rattle.macro_expand.specs.Spelled.{spelled, alias_names}
use Rattle.macro_expand.specs.Views.{known_of}
use Rattle.macro_expand.proofs.AliasLemmas.{names-after}
use Rattle.macro_expand.proofs.expansion.set_alias.Goals as goal

pub returns-clause-known : goal.returns-clause-known
returns-clause-known c =
    ap (λ a. record (known_of c.args.known.now) { aliases = a })
    (names-after (string_bytes c.in_ok-name.name) c.args.known.now.aliases c.insert.new.self (Some c.args.value) c.in_ok-insert.ensures.updates
    ∙ ap (λ n. update bytes_eq (alias_names c.args.known.now.aliases) n (Some (spelled c.args.value.items))) c.in_ok-name.ensures.ok)

pub returns-clause-slices : goal.returns-clause-slices
returns-clause-slices c texts value known = record {
  aliases = aliases-after texts (string_bytes c.in_ok-name.name) c.args.known.now.aliases c.insert.new.self (Some c.args.value) c.in_ok-insert.ensures.updates value known.aliases;
  given = known.given;
}
