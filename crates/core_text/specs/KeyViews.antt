-- The code's keys and stops, as the definitions see them.
use Rattle.std.specs.Prelude.{◌≡◌, [], Option, None, Some}
use Rattle.core_text.specs.declared.key.Place.{Place}
use Rattle.core_text.specs.declared.key.Place.TheVariants.{Document, Class, Forward}
use Rattle.core_text.specs.declared.key.Key.{Key}
use Rattle.core_text.specs.declared.key.Key.TheVariants.{Whole, Field}
use Rattle.core_text.specs.declared.key.Stop.{Stop}
use Rattle.core_text.specs.declared.key.Stop.TheVariants.{Refused, NoMemory}
use Rattle.core_text.specs.Refusal.{Text, Refusal}
use Rattle.core_text.specs.Keys.{top_field, class_key, class_field, forward_key, forward_field}

-- a table as a whole
abbrev pub whole_key : Place → Text
whole_key Document = []
whole_key (Class class) = class_key class.now
whole_key (Forward place) = forward_key place

-- a key of a table
abbrev pub field_key : Place → Text → Text
field_key Document = top_field
field_key (Class class) = class_field class.now
field_key (Forward place) = forward_field place

-- a key as a text
abbrev pub spelled : Key → Text
spelled (Whole place) = whole_key place
spelled (Field place name) = field_key place name.now

-- the refusal that a stop is: want of memory is none
abbrev pub stop_refusal : Stop → Option Refusal
stop_refusal (Refused reason key) = Some (record { reason = reason; key = spelled key })
stop_refusal NoMemory = None

-- Is a refusal the one that was found? Where there is none, memory ran out.
abbrev pub Tells : Option Refusal → Option Refusal → Type 0
Tells found None = Unit {0}
Tells found (Some refusal) = found ≡ Some refusal
