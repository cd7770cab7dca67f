-- What reads operands, as values of its code.
use Rattle.std.specs.Prelude.{◌≡◌, map, Option, None, Some}
use Rattle.form_table.specs.ItemViews.{item_value}
use Rattle.form_table.specs.Spells as spec
use Rattle.form_table.specs.declared.spells.Taken as code

-- what the slots of the code took is what the definition says
abbrev pub ReadsTaken : Option code.Taken → Option spec.Taken → Type 0
ReadsTaken None wanted = wanted ≡ None
ReadsTaken (Some f) wanted =
    wanted ≡ Some (record { held = f.held; rest = map item_value f.rest.now })
