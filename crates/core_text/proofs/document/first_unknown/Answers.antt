use Rattle.std.proofs.Common.{◌∙◌, ap, map, not, Some, None}
use Rattle.core_text.specs.ClassNames.{is_among}
use Rattle.core_text.proofs.Names.{unknown-is}
use Rattle.core_text.proofs.document.first_unknown.Goals as goal

pub returns-in-Some : goal.returns-in-Some
returns-in-Some c =
    ap Some c.as_str.ensures.value
    ∙ unknown-is (λ key. not (is_among key (map (λ name. name.now) c.args.known.now))) c.args.table.now.entries (Some c.in-Some.key) c.in-Some.ensures

pub returns-in-None : goal.returns-in-None
returns-in-None c = unknown-is (λ key. not (is_among key (map (λ name. name.now) c.args.known.now))) c.args.table.now.entries None c.in-None.ensures
