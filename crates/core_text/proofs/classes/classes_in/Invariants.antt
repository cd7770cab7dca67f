use Rattle.std.proofs.Common.{map}
use Rattle.toml.specs.View.{members_view}
use Rattle.core_text.specs.Reading.{class_entry, members_of}
use Rattle.core_text.proofs.InTurn.{IsSoFar}
use Rattle.core_text.proofs.classes.classes_in.Given as goal

-- what was read, and what the classes that are left are read as, is what all are read as
abbrev pub invariant-loop-name : goal.invariant-loop-name
invariant-loop-name l =
    (goal.iterator-loop-name).can_next l.name-iterator × (goal.iterator-loop-name).is_finite l.name-iterator
    × IsSoFar (class_entry l.arch (map (λ name. name.now) l.names)) l.entries.items (members_of (members_view l.name-iterator)) (members_of (members_view l.classes.entries))
