-- The core `one:L` is a core.
use Rattle.std.proofs.Common.{◌≡◌, ◌∙◌, ◌≤◌, ℕ, zero, suc, nat_lt, true, List, [], ◌∷◌, length, refl, arith}
use Rattle.std.specs.List.{list_all}
use Rattle.std.specs.Prelude.{codes}
use Rattle.std.proofs.lemmas.Bool.{and_from, lt-ltb}
use Rattle.std.proofs.lemmas.List.Folds.{list_all-append}
use Rattle.sl_model.specs.declared.instruction.ArchName.{ArchName}
use Rattle.sl_model.specs.declared.schedule.Forward.{Forward}
use Rattle.core_text.specs.ClassNames.{class_names}
use Rattle.core_text.specs.Refusal.{Text}
use Rattle.core_text.specs.Core.{ClassCost, IsCore, is_sound_entry}
use Rattle.core_text.specs.Plain.{plain_cost, plain_costs}

one-sound : (latency class : ℕ) → 1 ≤ latency → is_sound_entry 1 (plain_cost latency class) ≡ true
one-sound latency class some = let positive = lt-ltb 0 latency (omega arith) in and_from (nat_lt 0 latency) (nat_lt 0 latency) positive positive

all-sound : (latency n : ℕ) → 1 ≤ latency → list_all (is_sound_entry 1) (plain_costs latency n) ≡ true
unfolding plain_costs
all-sound latency zero some = refl
all-sound latency (suc n) some =
    list_all-append (is_sound_entry 1) (plain_costs latency n) (plain_cost latency n ∷ [])
    ∙ and_from _ _ (all-sound latency n some) (and_from (is_sound_entry 1 (plain_cost latency n)) true (one-sound latency n some) refl)

-- the core of these parts is a core
pub plain-sound : (arch : ArchName) (latency : ℕ) (units : List Text) (classes : List ClassCost) (forwards : List Forward) → 1 ≤ latency
    → units ≡ codes "u" ∷ [] → classes ≡ plain_costs latency (length (class_names arch)) → forwards ≡ []
    → IsCore (record { width = 1; units = units; classes = classes; forwards = forwards })
plain-sound arch latency units classes forwards some are_units are_classes are_forwards =
    rw (are_units, are_classes, are_forwards)
    (record {
      some_width = omega arith;
      most_width = omega arith;
      some_unit = omega arith;
      most_units = omega arith;
      names = refl;
      entries = all-sound latency (length (class_names arch)) some;
      forwards = refl;
    })
