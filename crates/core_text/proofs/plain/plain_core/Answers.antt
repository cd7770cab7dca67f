use Rattle.std.proofs.Common.{◌∙◌, ap, sym, map, length, string_bytes}
use Rattle.std.proofs.lemmas.List.{length-map}
use Rattle.core_text.specs.Plain.{plain_costs}
use Rattle.core_text.proofs.PlainCore.{plain-sound}
use Rattle.core_text.proofs.plain.plain_core.Goals as goal

pub new-requires-2 : goal.new-requires-2
new-requires-2 c =
    plain-sound c.args.arch c.args.latency (map string_bytes c.in_ok-units.units.items) c.in_ok-classes.classes.items c.new.result.items c.requires c.in_ok-units.ensures
    (c.in_ok-classes.ensures ∙ ap (plain_costs c.args.latency) (sym (length-map c.class_names.result.now (λ name. name.now)) ∙ ap length c.class_names.ensures.names)) c.new.ensures.items
