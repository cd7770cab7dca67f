use Rattle.std.proofs.Common.{Some, ap, sym, ◌∙◌}
use Rattle.std.specs.Str.{bytes_eq}
use Rattle.std.specs.String.{string_bytes}
use Rattle.std.specs.HashMap.{get_by_text}
use Rattle.std.specs.Map.{update}
use Rattle.macro_expand.proofs.SliceLemmas.{bodies-after}
use Rattle.macro_expand.specs.Views.{macro_of, macro_names}
use Rattle.macro_expand.proofs.AliasLemmas.{macros-after, some-map, named-new}
use Rattle.macro_expand.proofs.reading.add_macro.Goals as goal

pub returns-clause-macros : goal.returns-clause-macros
returns-clause-macros c =
    named-new c.args.line c.args.name.now (macro_of c.args.found) (macro_names c.args.macros.now) (macro_names c.insert.new.self) (some-map macro_of (get_by_text c.args.macros.now c.args.name.now) ∙ sym c.contains_key.ensures ∙ c.if-contains_key.false)
    (macros-after (string_bytes c.in_ok-name.name) c.args.macros.now c.insert.new.self (Some c.args.found) c.in_ok-insert.ensures.updates
    ∙ ap (λ n. update bytes_eq (macro_names c.args.macros.now) n (Some (macro_of c.args.found))) c.in_ok-name.ensures.ok)

pub returns-clause-slices : goal.returns-clause-slices
returns-clause-slices c texts body macros =
    bodies-after texts (string_bytes c.in_ok-name.name) c.args.macros.now c.insert.new.self (Some c.args.found) c.in_ok-insert.ensures.updates body macros
