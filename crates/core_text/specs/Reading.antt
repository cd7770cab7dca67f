-- What a core table says, or the first thing that is wrong with it. Keys are examined in the order
-- of the steps of `core_in`, `class_cost` and `forward_in`. Source: this project's own core tables,
-- which are documents of TOML (toml.io).
use Rattle.std.specs.Prelude.{ℕ, ℤ, pos, negsuc, Bool, not, ◌==◌, ◌&&◌, nat_le, List, [], ◌∷◌, map, length, codes, Option, None, Some, option_map, option_and_then, Result, Ok, if◌then◌else◌}
use Rattle.std.specs.List.{list_any, find}
use Rattle.std.specs.Str.{is_utf8}
use Rattle.toml.specs.Data.{Data, Items, no_items, item, Members, no_members, member, get_member, as_str, as_integer, as_array, as_table}
use Rattle.toml.specs.Parse.{parse_document}
use Rattle.sl_model.specs.declared.instruction.ArchName.{ArchName}
use Rattle.sl_model.specs.declared.schedule.Forward.{Forward}
use Rattle.sl_model.specs.ResultSteps.{◌>>=◌}
use Rattle.sl_model.specs.Token.{is_unit_name}
use Rattle.core_text.specs.declared.core_table.TheConstants.{MOST_WIDTH, MOST_UNITS, MOST_CYCLES, MOST_OPERAND}
use Rattle.core_text.specs.declared.reasons.CoreReason.{CoreReason}
use Rattle.core_text.specs.declared.reasons.CoreReason.TheVariants.{NotToml, Missing, KeyUnknown, UnitUnknown, ClassUnknown, NumberRange, NameBad, Twice, ArchOther}
use Rattle.core_text.specs.Refusal.{Text, Refusal, refuse, or_refused, allowed}
use Rattle.core_text.specs.Keys.{top_field, class_key, class_field, forward_key, forward_field}
use Rattle.core_text.specs.ClassNames.{class_names, arch_named, same_arch, is_among, place_of}
use Rattle.core_text.specs.Core.{ClassCost, CoreTable}
use Rattle.core_text.specs.InTurn.{in_turn}

-- the document that bytes are, if they are one
abbrev pub document_of : List ℕ → Option Members
document_of bytes = if is_utf8 bytes then parse_document bytes else None

-- the values of a list
abbrev pub values_of : Items → List Data
values_of no_items = []
values_of (item value rest) = value ∷ values_of rest

-- the same of a value, if it is a list
abbrev pub as_list : Data → Option (List Data)
as_list value = option_map values_of (as_array value)

-- the keys of a table with their values, in the order of the keys as texts
abbrev pub members_of : Members → List (Text × Data)
members_of no_members = []
members_of (member key value rest) = (key, value) ∷ members_of rest

-- ---- the value under a key

-- In what follows `at` gives the key by which a refusal names a key of the table.

-- a text
unfoldable pub text_at : (Text → Text) → Members → Text → Result Text Refusal
text_at at table name = or_refused Missing (at name) (option_and_then as_str (get_member name table))

-- a table
unfoldable pub table_at : (Text → Text) → Members → Text → Result Members Refusal
table_at at table name =
    or_refused Missing (at name) (option_and_then as_table (get_member name table))

-- a list
unfoldable pub list_at : (Text → Text) → Members → Text → Result (List Data) Refusal
list_at at table name = or_refused Missing (at name) (option_and_then as_list (get_member name table))

-- a number from one to another
abbrev pub within : ℕ → ℕ → Text → ℤ → Result ℕ Refusal
within least most key (pos n) =
    if nat_le least n then (if nat_le n most then Ok n else refuse NumberRange key)
    else refuse NumberRange key
within least most key (negsuc n) = refuse NumberRange key

-- a number in a range
unfoldable pub number_at : ℕ → ℕ → (Text → Text) → Members → Text → Result ℕ Refusal
number_at least most at table name = do
  number ← or_refused Missing (at name) (option_and_then as_integer (get_member name table))
  within least most (at name) number

-- a number of cycles
abbrev pub cycles_at : (Text → Text) → Members → Text → Result ℕ Refusal
cycles_at = number_at 1 MOST_CYCLES

-- the same, or 1 where nothing is said
abbrev pub cycles_or_one : (Text → Text) → Members → Text → Option Data → Result ℕ Refusal
cycles_or_one at table name None = Ok 1
cycles_or_one at table name (Some value) = cycles_at at table name

-- the number of a class of the architecture
unfoldable pub class_at : ArchName → (Text → Text) → Members → Text → Result ℕ Refusal
class_at arch at table name = do
  class ← text_at at table name
  or_refused ClassUnknown (at name) (place_of class (class_names arch))

-- the key that isn't known
abbrev pub none_unknown : CoreReason → (Text → Text) → Option Text → Result (Unit {0}) Refusal
none_unknown reason at None = Ok tt
none_unknown reason at (Some key) = refuse reason (at key)

-- no keys but those that are known; else the first other one is refused
unfoldable pub only_keys : CoreReason → (Text → Text) → List Text → Members
    → Result (Unit {0}) Refusal
only_keys reason at known table =
    none_unknown reason at
    (find (λ key. not (is_among key known)) (map (λ entry. entry.0) (members_of table)))

-- ---- the units

-- The next name of a unit: a text, of the shape of such names, and none that stands before it.
unfoldable pub unit_read : Text → List Text → Data → Result Text Refusal
unit_read key before value = do
  name ← or_refused Missing key (as_str value)
  shaped ← allowed (is_unit_name name) NameBad key
  new ← allowed (not (is_among name before)) Twice key
  Ok name

-- 1 to 16 names of units
unfoldable pub units_at : Members → Result (List Text) Refusal
units_at table = do
  values ← list_at top_field table (codes "units")
  some ← allowed (nat_le 1 (length values)) NumberRange (codes "units")
  few ← allowed (nat_le (length values) MOST_UNITS) NumberRange (codes "units")
  in_turn (unit_read (codes "units")) [] values

-- ---- the classes

-- The next unit of a class: a text, one of the core's units, and none that stands before it.
unfoldable pub own_unit_read : Text → List Text → List ℕ → Data → Result ℕ Refusal
own_unit_read key units before value = do
  name ← or_refused Missing key (as_str value)
  unit ← or_refused UnitUnknown key (place_of name units)
  new ← allowed (not (list_any (λ other. other == unit) before)) Twice key
  Ok unit

-- the units of a class: one or more
unfoldable pub own_units_at : List Text → (Text → Text) → Members → Result (List ℕ) Refusal
own_units_at units at table = do
  values ← list_at at table (codes "units")
  some ← allowed (nat_le 1 (length values)) NumberRange (at (codes "units"))
  in_turn (own_unit_read (at (codes "units")) units) [] values

-- the keys of a class
abbrev pub class_keys : List Text
class_keys = codes "units" ∷ codes "busy" ∷ codes "latency" ∷ codes "writeback" ∷ []

-- the entry of a class in its table
unfoldable pub class_cost : List Text → Text → ℕ → Members → Result ClassCost Refusal
class_cost units name class table = do
  known ← only_keys KeyUnknown (class_field name) class_keys table
  own ← own_units_at units (class_field name) table
  busy ← cycles_at (class_field name) table (codes "busy")
  latency ← cycles_at (class_field name) table (codes "latency")
  writeback ← cycles_or_one (class_field name) table (codes "writeback")
      (get_member (codes "writeback") table)
  Ok (record { class = class; units = own; busy = busy; latency = latency; writeback = writeback })

-- the next class: its name and its table
unfoldable pub class_entry : ArchName → List Text → List ClassCost → Text × Data
    → Result ClassCost Refusal
class_entry arch units before entry = do
  class ← or_refused ClassUnknown (class_key entry.0) (place_of entry.0 (class_names arch))
  table ← or_refused Missing (class_key entry.0) (as_table entry.1)
  class_cost units entry.0 class table

-- the classes that have an entry, in the order of their names as texts; all names are examined
-- before the first entry
unfoldable pub classes_at : ArchName → List Text → Members → Result (List ClassCost) Refusal
classes_at arch units table = do
  classes ← table_at top_field table (codes "class")
  known ← only_keys ClassUnknown class_key (class_names arch) classes
  in_turn (class_entry arch units) [] (members_of classes)

-- ---- the forwards

-- the keys of a forward
abbrev pub forward_keys : List Text
forward_keys = codes "from" ∷ codes "to" ∷ codes "operand" ∷ codes "latency" ∷ []

-- Are two forwards for the same classes and operand?
abbrev pub is_same_forward : Forward → Forward → Bool
is_same_forward f g = f.from == g.from && (f.to == g.to && f.operand == g.operand)

-- a forward in its table
unfoldable pub forward_in : ArchName → (Text → Text) → Members → Result Forward Refusal
forward_in arch at table = do
  known ← only_keys KeyUnknown at forward_keys table
  from ← class_at arch at table (codes "from")
  to ← class_at arch at table (codes "to")
  operand ← number_at 0 MOST_OPERAND at table (codes "operand")
  latency ← cycles_at at table (codes "latency")
  Ok (record { from = from; to = to; operand = operand; latency = latency })

-- the next forward: it is a table, and repeats none that stands before it
unfoldable pub forward_entry : ArchName → List Forward → Data → Result Forward Refusal
forward_entry arch before value = do
  table ← or_refused Missing (forward_key (length before)) (as_table value)
  forward ← forward_in arch (forward_field (length before)) table
  new ← allowed (not (list_any (is_same_forward forward) before)) Twice (forward_key (length before))
  Ok forward

-- the forwards of a value, where there is one
abbrev pub forwards_in : ArchName → Option Data → Result (List Forward) Refusal
forwards_in arch None = Ok []
forwards_in arch (Some value) = do
  values ← or_refused Missing (codes "forward") (as_list value)
  in_turn (forward_entry arch) [] values

-- the forwards of a document
unfoldable pub forwards_at : ArchName → Members → Result (List Forward) Refusal
forwards_at arch table = forwards_in arch (get_member (codes "forward") table)

-- ---- the document

-- the keys of the document
abbrev pub top_keys : List Text
top_keys =
    codes "name" ∷ codes "arch" ∷ codes "width" ∷ codes "units" ∷ codes "class" ∷ codes "forward"
    ∷ []

-- the architecture is the one that is asked for
unfoldable pub arch_at : ArchName → Members → Result (Unit {0}) Refusal
arch_at arch table = do
  name ← text_at top_field table (codes "arch")
  named ← or_refused NameBad (codes "arch") (arch_named name)
  allowed (same_arch named arch) ArchOther (codes "arch")

-- the core of a document
unfoldable pub core_in : ArchName → Members → Result CoreTable Refusal
core_in arch table = do
  known ← only_keys KeyUnknown top_field top_keys table
  name ← text_at top_field table (codes "name")
  same ← arch_at arch table
  width ← number_at 1 MOST_WIDTH top_field table (codes "width")
  units ← units_at table
  classes ← classes_at arch units table
  forwards ← forwards_at arch table
  Ok (record { width = width; units = units; classes = classes; forwards = forwards })

-- the core that bytes tell, for an architecture, or the first refusal
unfoldable pub core_from : ArchName → List ℕ → Result CoreTable Refusal
core_from arch bytes = do
  table ← or_refused NotToml [] (document_of bytes)
  core_in arch table
