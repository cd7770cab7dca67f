use Rattle.std.proofs.Common.{◌≡◌, [], take, drop}
use Rattle.asm_reader.specs.Unset.{first_unset}
use Rattle.asm_reader.proofs.unset.first_unset.Given as goal

-- what is to be found from this place on is what is to be found in all
abbrev pub invariant-loop-place : goal.invariant-loop-place
invariant-loop-place l = first_unset (take l.place l.fn.items) (drop l.place l.fn.items) ≡ first_unset [] l.fn.items
