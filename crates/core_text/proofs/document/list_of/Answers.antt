use Rattle.std.proofs.Common.{◌∙◌, ap, map, sym, Some}
use Rattle.std.specs.Option.{option_map}
use Rattle.toml.specs.View.{view}
use Rattle.core_text.specs.Reading.{values_of}
use Rattle.core_text.proofs.Names.{values-are}
use Rattle.core_text.proofs.document.list_of.Goals as goal

pub returns : goal.returns
returns c = ap (λ values. Some (map view values)) c.as_slice.ensures.value ∙ ap Some (sym (values-are c.in-Some.list.now.items)) ∙ ap (option_map values_of) c.in-Some.ensures
