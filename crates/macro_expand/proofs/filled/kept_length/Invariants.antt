use Rattle.std.proofs.Common.{◌≡◌, ◌++◌, take, drop}
use Rattle.macro_expand.specs.Filled.{kept}
use Rattle.macro_expand.proofs.filled.kept_length.Given as goal

-- what was passed is kept
abbrev pub invariant-loop-place : goal.invariant-loop-place
invariant-loop-place l = kept 0 l.text ≡ take l.place l.text ++ kept 0 (drop l.place l.text)
