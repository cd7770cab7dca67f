-- The units of a class's entry.
use Rattle.std.proofs.Common.{◌≡◌, ◌∙◌, ◌<◌, ◌≤◌, ℕ, true, nat_lt, ◌&&◌, List, length, get_or, Option, EachIndex, sym, ap, arith}
use Rattle.std.specs.List.{list_all}
use Rattle.std.proofs.lemmas.Bool.{and_parts, lt-ltb, ltb-true}
use Rattle.std.proofs.lemmas.List.Sums.{AllPass-from_list_all}
use Rattle.sl_model.specs.Legal.{Problem, info_in}
use Rattle.sl_model.specs.declared.instruction.FormInfo.{FormInfo}
use Rattle.core_text.specs.Core.{ClassCost, CoreTable, entry_of, is_sound_entry}
use Rattle.own_schedule.specs.OwnSchedule.{units_for, units_or, first_least}
use Rattle.own_schedule.proofs.FirstLeast.{first_least-passes}

-- those of an item go by what the core tells of its class
pub units-are : (core : CoreTable) (problem : Problem) (item : ℕ) (info : FormInfo) (entry : Option ClassCost) → info ≡ info_in problem item → entry ≡ entry_of core info.class → units_for core problem item ≡ units_or entry
units-are core problem item info entry at told = ap units_or (ap (λ (i : FormInfo). entry_of core i.class) (sym at) ∙ sym told)

-- Of a sound entry each unit is below the number of all,
units-all : (n : ℕ) (entry : ClassCost) → is_sound_entry n entry ≡ true → list_all (λ unit. nat_lt unit n) entry.units ≡ true
units-all n entry sound =
    (and_parts (list_all (λ unit. nat_lt unit n) entry.units) (nat_lt 0 entry.busy && (nat_lt 0 entry.latency && nat_lt 0 entry.writeback))
    (and_parts (nat_lt 0 (length entry.units)) (list_all (λ unit. nat_lt unit n) entry.units && (nat_lt 0 entry.busy && (nat_lt 0 entry.latency && nat_lt 0 entry.writeback))) sound).1).0

pub units-below : (n : ℕ) (entry : ClassCost) (units : List ℕ) → units ≡ entry.units → n ≤ 16 → is_sound_entry n entry ≡ true → EachIndex units (λ k. get_or units k 0 < 16)
units-below n entry units are few sound = rw are (λ k within.
    let below : get_or entry.units k 0 < n = ltb-true (get_or entry.units k 0) n (AllPass-from_list_all (λ unit. nat_lt unit n) entry.units (units-all n entry sound) k 0 within) in
    omega arith)

-- and so is the first with the least measure.
pub first_least-below : (n : ℕ) (entry : ClassCost) (m : ℕ → ℕ) → 1 ≤ n → is_sound_entry n entry ≡ true → first_least m entry.units < n
first_least-below n entry m some sound =
    ltb-true (first_least m entry.units) n (first_least-passes m (λ unit. nat_lt unit n) entry.units (lt-ltb 0 n (omega arith)) (units-all n entry sound))
