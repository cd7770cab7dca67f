-- The entry of a class goes by its name and its table alone.
use Rattle.std.proofs.Common.{◌≡◌, ◌∙◌, List, [], Option, Result, Ok, refl, sym, ap, subst}
use Rattle.toml.specs.Data.{Data}
use Rattle.sl_model.specs.Answers.{Refuses}
use Rattle.sl_model.specs.declared.instruction.ArchName.{ArchName}
use Rattle.core_text.specs.Refusal.{Text, Refusal}
use Rattle.core_text.specs.Core.{ClassCost}
use Rattle.core_text.specs.Reading.{class_entry}

-- whatever was read before
unread : (arch : ArchName) (units : List Text) (before : List ClassCost) (entry : Text × Data) → class_entry arch units [] entry ≡ class_entry arch units before entry
unfolding class_entry
unread arch units before entry = refl

same : (arch : ArchName) (units : List Text) (before : List ClassCost) (seen name : Text) (value : Data) → seen ≡ name → class_entry arch units [] (seen, value) ≡ class_entry arch units before (name, value)
same arch units before seen name value e = ap (λ n. class_entry arch units [] (n, value)) e ∙ unread arch units before (name, value)

-- what is read of an entry
pub entry-seen : (arch : ArchName) (units : List Text) (before : List ClassCost) (seen name : Text) (value : Data) (found : ClassCost) → seen ≡ name
    → class_entry arch units [] (seen, value) ≡ Ok found → class_entry arch units before (name, value) ≡ Ok found
entry-seen arch units before seen name value found e is = sym (same arch units before seen name value e) ∙ is

-- why it is refused
pub entry-refused : (arch : ArchName) (units : List Text) (before : List ClassCost) (seen name : Text) (value : Data) (refusal : Option Refusal) → seen ≡ name
    → Refuses refusal (class_entry arch units [] (seen, value)) → Refuses refusal (class_entry arch units before (name, value))
entry-refused arch units before seen name value refusal e is = subst (λ (r : Result ClassCost Refusal). Refuses refusal r) (same arch units before seen name value e) is
