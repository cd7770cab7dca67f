-- Things that are read one after the other. Source: this project's own core tables.
use Rattle.std.specs.Prelude.{List, [], ◌∷◌, ◌++◌, Result, Ok}
use Rattle.sl_model.specs.ResultSteps.{◌>>=◌}

-- What each of some things is read as, behind what was read before them; `read` is told what
-- stands before the thing that it reads.
unfoldable pub in_turn : {X Y E : Type 0} → (List Y → X → Result Y E) → List Y → List X
    → Result (List Y) E
in_turn read before [] = Ok before
in_turn read before (x ∷ rest) = do
  y ← read before x
  in_turn read (before ++ y ∷ []) rest
