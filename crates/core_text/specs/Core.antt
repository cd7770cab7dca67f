-- What a core tells: how many items it issues in a cycle, its units, what it takes for each
-- class of instructions, and its forwards. Source: this project's own core tables, after the
-- models of SLOTHY (TCHES 2024).
use Rattle.std.specs.Prelude.{ℕ, Bool, ◌==◌, ◌&&◌, ◌≤◌, nat_lt, IsTrue, List, [], length, slice_get, slice_index_or, Option, option_and_then, if◌then◌else◌}
use Rattle.std.specs.List.{find, list_all}
use Rattle.sl_model.specs.Token.{is_unit_name}
use Rattle.sl_model.specs.declared.schedule.Forward.{Forward}
use Rattle.core_text.specs.Refusal.{Text}

-- What a core tells of a class, which goes by its number: the units that take its items, by
-- their numbers and in the order in which they are tried; how many cycles an item keeps its
-- unit; and after how many cycles its results are ready, and its written-back base.
pub record ClassCost : Type 0 where
  pub class : ℕ
  pub units : List ℕ
  pub busy : ℕ
  pub latency : ℕ
  pub writeback : ℕ

-- A core: the items that it issues in a cycle at most, the names of its units, which go by their
-- places, the classes that have an entry, and the forwards.
pub record CoreTable : Type 0 where
  pub width : ℕ
  pub units : List Text
  pub classes : List ClassCost
  pub forwards : List Forward

-- the entry of a class, if it has one
unfoldable pub entry_of : CoreTable → ℕ → Option ClassCost
entry_of core class = find (λ entry. entry.class == class) core.classes

-- the name of a unit
abbrev pub unit_name : CoreTable → ℕ → Text
unit_name core unit = slice_index_or core.units unit []

-- the unit at a place of a class's own list, if the class has an entry and the list is so long
unfoldable pub class_unit : CoreTable → ℕ → ℕ → Option ℕ
class_unit core class place = option_and_then (λ entry. slice_get entry.units place) (entry_of core class)

-- ---- what holds of every core

-- Has a class a unit, are its units below a number, and are its numbers at least 1?
abbrev pub is_sound_entry : ℕ → ClassCost → Bool
is_sound_entry units entry =
    nat_lt 0 (length entry.units) && (list_all (λ unit. nat_lt unit units) entry.units
    && (nat_lt 0 entry.busy && (nat_lt 0 entry.latency && nat_lt 0 entry.writeback)))

-- Is a forward's latency at least 1?
abbrev pub is_sound_forward : Forward → Bool
is_sound_forward forward = nat_lt 0 forward.latency

-- A core issues 1 to 8 items in a cycle, has 1 to 16 units with names of their shape, and its
-- entries and forwards are sound.
pub record IsCore (core : CoreTable) : Type 0 where
  pub some_width : 1 ≤ core.width
  pub most_width : core.width ≤ 8
  pub some_unit : 1 ≤ length core.units
  pub most_units : length core.units ≤ 16
  pub names : IsTrue (list_all is_unit_name core.units)
  pub entries : IsTrue (list_all (is_sound_entry (length core.units)) core.classes)
  pub forwards : IsTrue (list_all is_sound_forward core.forwards)
