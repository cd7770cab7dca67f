-- What is read is a core: its numbers are in their ranges, its units are known.
use Rattle.std.proofs.Common.{◌≡◌, ◌∙◌, ◌≤◌, ◌+◌, ℕ, ℤ, pos, negsuc, nat_le, nat_lt, not, eqb, Bool, true, false, ◌&&◌, option_and_then, List, [], map, length, Option, None, Some, Result, Ok, Err, Bor, if◌then◌else◌, refl, sym, ap, subst, arith, leb-true}
use Rattle.std.specs.Prelude.{IfOk, codes}
use Rattle.std.specs.List.{list_all, list_any}
use Rattle.std.specs.Str.{bytes_eq}
use Rattle.std.proofs.lemmas.Bool.{and_from, lt-ltb}
use Rattle.std.proofs.lemmas.List.{length-map}
use Rattle.std.proofs.lemmas.List.Quantifiers.{position-Some}
use Rattle.toml.specs.Data.{Data, Members, get_member, as_str, as_integer, as_table}
use Rattle.sl_model.specs.declared.instruction.ArchName.{ArchName}
use Rattle.sl_model.specs.declared.schedule.Forward.{Forward}
use Rattle.sl_model.specs.Token.{is_unit_name}
use Rattle.core_text.specs.declared.reasons.CoreReason.TheVariants.{Missing, KeyUnknown, UnitUnknown, ClassUnknown, NumberRange, NameBad, Twice}
use Rattle.core_text.specs.Refusal.{Text, Refusal, refuse, or_refused, allowed}
use Rattle.core_text.specs.Keys.{top_field, class_field, class_key, forward_key, forward_field}
use Rattle.core_text.specs.ClassNames.{class_names, is_among, place_of}
use Rattle.core_text.specs.Core.{ClassCost, IsCore, is_sound_entry, is_sound_forward}
use Rattle.core_text.specs.InTurn.{in_turn}
use Rattle.core_text.specs.Reading.{as_list, members_of, within, only_keys, table_at, class_keys, forward_keys, is_same_forward, number_at, cycles_at, cycles_or_one, list_at, unit_read, units_at, own_unit_read, own_units_at, class_cost, class_entry, classes_at, class_at, forward_in, forward_entry, forwards_in, forwards_at}
use Rattle.core_text.proofs.Steps.{step, skip, there, held, given, weaker, in_turn-all, in_turn-count}

-- ---- numbers

-- a number in a range
abbrev pub IsIn : ℕ → ℕ → ℕ → Type 0
IsIn least most n = (least ≤ n) × (n ≤ most)

within-in : (least most : ℕ) (key : Text) (z : ℤ) → IfOk (within least most key z) (IsIn least most)
within-in least most key (negsuc n) = tt
within-in least most key (pos n) = go (nat_le least n) (nat_le n most) (leb-true least n) (leb-true n most)
  where
    go : (b c : Bool) → (b ≡ true → least ≤ n) → (c ≡ true → n ≤ most)
        → IfOk (if b then (if c then Ok n else refuse NumberRange key) else refuse NumberRange key) (IsIn least most)
    go true true low high = (low refl, high refl)
    go true false low high = tt
    go false c low high = tt

pub number-in : (least most : ℕ) (at : Text → Text) (table : Members) (name : Text) → IfOk (number_at least most at table name) (IsIn least most)
unfolding number_at
number-in least most at table name = skip (IsIn least most) (or_refused Missing (at name) (option_and_then as_integer (get_member name table))) _ (λ number. within-in least most (at name) number)

-- a number of at least 1
abbrev IsSome1 : ℕ → Type 0
IsSome1 n = nat_lt 0 n ≡ true

some : (least most n : ℕ) → 1 ≤ least → IsIn least most n → IsSome1 n
some least most n one is = let low : least ≤ n = is.0 in lt-ltb 0 n (omega arith)

cycles-some : (at : Text → Text) (table : Members) (name : Text) → IfOk (cycles_at at table name) IsSome1
cycles-some at table name = weaker (IsIn 1 255) IsSome1 (cycles_at at table name) (λ n is. some 1 255 n (omega arith) is) (number-in 1 255 at table name)

or_one-some : (at : Text → Text) (table : Members) (name : Text) (o : Option Data) → IfOk (cycles_or_one at table name o) IsSome1
or_one-some at table name None = refl
or_one-some at table name (Some value) = cycles-some at table name

-- ---- units

unit-named : (key : Text) (before : List Text) (value : Data) → IfOk (unit_read key before value) (λ name. is_unit_name name ≡ true)
unfolding unit_read
unit-named key before value =
    skip (λ name. is_unit_name name ≡ true) (or_refused Missing key (as_str value)) _
    (λ name. step (λ u. is_unit_name name ≡ true) (λ name. is_unit_name name ≡ true) (allowed (is_unit_name name) NameBad key) _ (held (is_unit_name name) NameBad key)
    (λ u is. skip (λ name. is_unit_name name ≡ true) (allowed (not (is_among name before)) Twice key) _ (λ new. is)))

-- the units of a core
pub record AreUnits (units : List Text) : Type 0 where
  pub some : 1 ≤ length units
  pub few : length units ≤ 16
  pub names : list_all is_unit_name units ≡ true

units-are : (values : List Data) → nat_le 1 (length values) ≡ true → nat_le (length values) 16 ≡ true → IfOk (in_turn (unit_read (codes "units")) [] values) AreUnits
units-are values low high = go (in_turn (unit_read (codes "units")) [] values) (in_turn-count (unit_read (codes "units")) [] values)
    (in_turn-all (unit_read (codes "units")) is_unit_name (unit-named (codes "units")) [] values refl)
  where
    go : (r : Result (List Text) Refusal) → IfOk r (λ ys. length ys ≡ 0 + length values) → IfOk r (λ ys. list_all is_unit_name ys ≡ true) → IfOk r AreUnits
    go (Err e) count names = tt
    go (Ok ys) count names =
        let least : 1 ≤ length values = leb-true 1 (length values) low in
        let most : length values ≤ 16 = leb-true (length values) 16 high in
        record { some = omega arith; few = omega arith; names = names }

pub units-sound : (table : Members) → IfOk (units_at table) AreUnits
unfolding units_at
units-sound table =
    skip AreUnits (list_at top_field table (codes "units")) _
    (λ values. step (λ u. nat_le 1 (length values) ≡ true) AreUnits (allowed (nat_le 1 (length values)) NumberRange (codes "units")) _ (held (nat_le 1 (length values)) NumberRange (codes "units"))
    (λ u low. step (λ u. nat_le (length values) 16 ≡ true) AreUnits (allowed (nat_le (length values) 16) NumberRange (codes "units")) _ (held (nat_le (length values) 16) NumberRange (codes "units"))
    (λ u high. units-are values low high)))

-- ---- classes

place-known : (name : Text) (names : List Text) (place : ℕ) → place_of name names ≡ Some place → nat_lt place (length names) ≡ true
place-known name names place is = lt-ltb place (length names) (position-Some (λ other. bytes_eq other name) names place [] is).0

own-known : (key : Text) (units : List Text) (before : List ℕ) (value : Data) → IfOk (own_unit_read key units before value) (λ unit. nat_lt unit (length units) ≡ true)
unfolding own_unit_read
own-known key units before value =
    skip (λ unit. nat_lt unit (length units) ≡ true) (or_refused Missing key (as_str value)) _
    (λ name. step (λ unit. nat_lt unit (length units) ≡ true) (λ unit. nat_lt unit (length units) ≡ true) (or_refused UnitUnknown key (place_of name units)) _
    (there (λ unit. nat_lt unit (length units) ≡ true) UnitUnknown key (place_of name units) (λ unit is. place-known name units unit is))
    (λ unit known. skip (λ unit. nat_lt unit (length units) ≡ true) (allowed (not (list_any (λ other. eqb other unit) before)) Twice key) _ (λ new. known)))

-- the units of a class
abbrev AreOwn : List Text → List ℕ → Type 0
AreOwn units own = (nat_lt 0 (length own) ≡ true) × (list_all (λ unit. nat_lt unit (length units)) own ≡ true)

own-are : (key : Text) (units : List Text) (values : List Data) → nat_le 1 (length values) ≡ true → IfOk (in_turn (own_unit_read key units) [] values) (AreOwn units)
own-are key units values low = go (in_turn (own_unit_read key units) [] values) (in_turn-count (own_unit_read key units) [] values)
    (in_turn-all (own_unit_read key units) (λ unit. nat_lt unit (length units)) (own-known key units) [] values refl)
  where
    go : (r : Result (List ℕ) Refusal) → IfOk r (λ ys. length ys ≡ 0 + length values) → IfOk r (λ ys. list_all (λ unit. nat_lt unit (length units)) ys ≡ true) → IfOk r (AreOwn units)
    go (Err e) count known = tt
    go (Ok ys) count known = let least : 1 ≤ length values = leb-true 1 (length values) low in (lt-ltb 0 (length ys) (omega arith), known)

own-sound : (units : List Text) (at : Text → Text) (table : Members) → IfOk (own_units_at units at table) (AreOwn units)
unfolding own_units_at
own-sound units at table =
    skip (AreOwn units) (list_at at table (codes "units")) _
    (λ values. step (λ u. nat_le 1 (length values) ≡ true) (AreOwn units) (allowed (nat_le 1 (length values)) NumberRange (at (codes "units"))) _ (held (nat_le 1 (length values)) NumberRange (at (codes "units")))
    (λ u low. own-are (at (codes "units")) units values low))

abbrev IsSoundOn : List Text → ClassCost → Type 0
IsSoundOn units entry = is_sound_entry (length units) entry ≡ true

abbrev AreSoundOn : List Text → List ClassCost → Type 0
AreSoundOn units entries = list_all (is_sound_entry (length units)) entries ≡ true

cost-sound : (units : List Text) (name : Text) (class : ℕ) (table : Members) → IfOk (class_cost units name class table) (IsSoundOn units)
unfolding class_cost
cost-sound units name class table =
    skip (IsSoundOn units) (only_keys KeyUnknown (class_field name) class_keys table) _
    (λ known. step (AreOwn units) (IsSoundOn units) (own_units_at units (class_field name) table) _ (own-sound units (class_field name) table)
    (λ own owns. step IsSome1 (IsSoundOn units) (cycles_at (class_field name) table (codes "busy")) _ (cycles-some (class_field name) table (codes "busy"))
    (λ busy some_busy. step IsSome1 (IsSoundOn units) (cycles_at (class_field name) table (codes "latency")) _ (cycles-some (class_field name) table (codes "latency"))
    (λ latency some_latency. step IsSome1 (IsSoundOn units) (cycles_or_one (class_field name) table (codes "writeback") (get_member (codes "writeback") table)) _
    (or_one-some (class_field name) table (codes "writeback") (get_member (codes "writeback") table))
    (λ writeback some_writeback.
    and_from (nat_lt 0 (length own)) (list_all (λ unit. nat_lt unit (length units)) own && (nat_lt 0 busy && (nat_lt 0 latency && nat_lt 0 writeback))) owns.0
    (and_from (list_all (λ unit. nat_lt unit (length units)) own) (nat_lt 0 busy && (nat_lt 0 latency && nat_lt 0 writeback)) owns.1
    (and_from (nat_lt 0 busy) (nat_lt 0 latency && nat_lt 0 writeback) some_busy (and_from (nat_lt 0 latency) (nat_lt 0 writeback) some_latency some_writeback))))))))

entry-sound : (arch : ArchName) (units : List Text) (before : List ClassCost) (entry : Text × Data) → IfOk (class_entry arch units before entry) (IsSoundOn units)
unfolding class_entry
entry-sound arch units before entry =
    skip (IsSoundOn units) (or_refused ClassUnknown (class_key entry.0) (place_of entry.0 (class_names arch))) _
    (λ class. skip (IsSoundOn units) (or_refused Missing (class_key entry.0) (as_table entry.1)) _ (λ table. cost-sound units entry.0 class table))

pub classes-sound : (arch : ArchName) (units : List Text) (table : Members) → IfOk (classes_at arch units table) (λ entries. list_all (is_sound_entry (length units)) entries ≡ true)
unfolding classes_at
classes-sound arch units table =
    skip (AreSoundOn units) (table_at top_field table (codes "class")) _
    (λ classes. skip (AreSoundOn units) (only_keys ClassUnknown class_key (class_names arch) classes) _
    (λ known. in_turn-all (class_entry arch units) (is_sound_entry (length units)) (entry-sound arch units) [] (members_of classes) refl))

-- ---- forwards

abbrev IsSoundForward : Forward → Type 0
IsSoundForward forward = is_sound_forward forward ≡ true

abbrev AreSoundForwards : List Forward → Type 0
AreSoundForwards forwards = list_all is_sound_forward forwards ≡ true

forward-in : (arch : ArchName) (at : Text → Text) (table : Members) → IfOk (forward_in arch at table) IsSoundForward
unfolding forward_in
forward-in arch at table =
    skip IsSoundForward (only_keys KeyUnknown at forward_keys table) _
    (λ known. skip IsSoundForward (class_at arch at table (codes "from")) _
    (λ from. skip IsSoundForward (class_at arch at table (codes "to")) _
    (λ to. skip IsSoundForward (number_at 0 3 at table (codes "operand")) _
    (λ operand. step IsSome1 IsSoundForward (cycles_at at table (codes "latency")) _ (cycles-some at table (codes "latency")) (λ latency some_latency. some_latency)))))

forward-sound : (arch : ArchName) (before : List Forward) (value : Data) → IfOk (forward_entry arch before value) IsSoundForward
unfolding forward_entry
forward-sound arch before value =
    skip IsSoundForward (or_refused Missing (forward_key (length before)) (as_table value)) _
    (λ table. step IsSoundForward IsSoundForward (forward_in arch (forward_field (length before)) table) _ (forward-in arch (forward_field (length before)) table)
    (λ forward is. skip IsSoundForward (allowed (not (list_any (is_same_forward forward) before)) Twice (forward_key (length before))) _ (λ new. is)))

forwards-from : (arch : ArchName) (o : Option Data) → IfOk (forwards_in arch o) AreSoundForwards
forwards-from arch None = refl
forwards-from arch (Some value) =
    skip AreSoundForwards (or_refused Missing (codes "forward") (as_list value)) _
    (λ values. in_turn-all (forward_entry arch) is_sound_forward (forward-sound arch) [] values refl)

pub forwards-sound : (arch : ArchName) (table : Members) → IfOk (forwards_at arch table) (λ fs. list_all is_sound_forward fs ≡ true)
unfolding forwards_at
forwards-sound arch table = forwards-from arch (get_member (codes "forward") table)

-- ---- the core

-- what is read in a document is a core
pub core-sound : (arch : ArchName) (table : Members) (width : ℕ) (units : List Text) (classes : List ClassCost) (forwards : List Forward)
    → number_at 1 8 (λ name. name) table (codes "width") ≡ Ok width → units_at table ≡ Ok units → classes_at arch units table ≡ Ok classes → forwards_at arch table ≡ Ok forwards
    → IsCore (record { width = width; units = units; classes = classes; forwards = forwards })
core-sound arch table width units classes forwards is_width are_units are_classes are_forwards =
    let in_range = given (IsIn 1 8) (number_at 1 8 (λ name. name) table (codes "width")) width (number-in 1 8 (λ name. name) table (codes "width")) is_width in
    let named = given AreUnits (units_at table) units (units-sound table) are_units in
    record {
      some_width = in_range.0;
      most_width = in_range.1;
      some_unit = named.some;
      most_units = named.few;
      names = named.names;
      entries = given (AreSoundOn units) (classes_at arch units table) classes (classes-sound arch units table) are_classes;
      forwards = given AreSoundForwards (forwards_at arch table) forwards (forwards-sound arch table) are_forwards;
    }

-- the names of units that are read are few, as the code sees them
pub few-units : (table : Members) (names seen : List (Bor Text)) → units_at table ≡ Ok (map (λ name. name.now) names) → seen ≡ names → length seen ≤ 16
few-units table names seen are same =
    let named = given AreUnits (units_at table) (map (λ name. name.now) names) (units-sound table) are in
    let count : length (map (λ (name : Bor Text). name.now) names) ≡ length names = length-map names (λ (name : Bor Text). name.now) in
    let seen_count : length seen ≡ length names = ap length same in
    let few : length (map (λ (name : Bor Text). name.now) names) ≤ 16 = named.few in
    omega arith

-- the same of what the code makes: it reads the classes by the names that it saw, and keeps copies
pub core-made : (arch : ArchName) (table : Members) (width : ℕ) (kept : List Text) (names seen copied : List (Bor Text)) (classes : List ClassCost) (forwards : List Forward)
    → number_at 1 8 (λ name. name) table (codes "width") ≡ Ok width → units_at table ≡ Ok (map (λ name. name.now) names) → seen ≡ names → copied ≡ names → kept ≡ map (λ name. name.now) copied
    → classes_at arch (map (λ name. name.now) seen) table ≡ Ok classes → forwards_at arch table ≡ Ok forwards
    → IsCore (record { width = width; units = kept; classes = classes; forwards = forwards })
core-made arch table width kept names seen copied classes forwards is_width are_units same same' are_kept are_classes are_forwards =
    let texts : List (Bor Text) → List Text = map (λ name. name.now) in
    let units : kept ≡ texts seen = are_kept ∙ ap texts same' ∙ ap texts (sym same) in
    subst (λ (units : List Text). IsCore (record { width = width; units = units; classes = classes; forwards = forwards })) (sym units)
    (core-sound arch table width (texts seen) classes forwards is_width (are_units ∙ ap (λ xs. Ok (texts xs)) (sym same)) are_classes are_forwards)
