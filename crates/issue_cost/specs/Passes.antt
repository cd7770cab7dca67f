-- The two passes of a schedule as what is asked of a timeline, one push after the other.
use Rattle.std.specs.Prelude.{ℕ, List, [], ◌∷◌, ◌++◌, length, reverse, Some}
use Rattle.sl_model.specs.declared.schedule.Choice.{Choice}
use Rattle.sl_model.specs.declared.schedule.Source.{Source}
use Rattle.sl_model.specs.Cycles.{Push, Issued, CostTable, row_of, issue, push_of, timed}
use Rattle.sl_model.specs.SecondPass.{not_before, ready_again, push_again}
use Rattle.issue_cost.specs.Timeline.{Timeline, start_of}

-- a timeline with one more push
abbrev pub with_push : Push → Timeline → Timeline
with_push p t = record t { pushes = t.pushes ++ not_before (start_of t) p ∷ [] }

-- and with more, one after the other
unfoldable pub with_pushes : List Push → Timeline → Timeline
with_pushes [] t = t
with_pushes (p ∷ pushes) t = with_pushes pushes (with_push p t)

-- a timeline with a break behind its pushes
abbrev pub with_break : Timeline → Timeline
with_break t = record t { pass = Some (length t.pushes) }

-- what the choices of a first pass ask for, behind those made so far
unfoldable pub asked_from : CostTable → (ℕ → List Source) → List Choice → List Issued → List Choice
    → List Push
asked_from costs sources choices done [] = []
asked_from costs sources choices done (c ∷ rest) =
    push_of costs (sources c.item) choices done c
    ∷ asked_from costs sources (c ∷ choices)
    (issue (push_of costs (sources c.item) choices done c) done ∷ done) rest

-- what the choice of an item and its unit asks for in a second pass
abbrev pub push_asked : CostTable → List Source → List Choice → List Issued → List Choice
    → List Issued → Choice → Push
push_asked costs sources first before choices since c = record {
  width = costs.width;
  unit = c.unit;
  busy = (row_of costs c.item).busy;
  ready = ready_again costs first before choices since c.item 0 sources;
}

-- what the choices of a second pass ask for, behind those made so far in it
unfoldable pub asked_again : CostTable → (ℕ → List Source) → List Choice → List Issued
    → List Choice → List Issued → List Choice → List Push
asked_again costs sources first before choices since [] = []
asked_again costs sources first before choices since (c ∷ rest) =
    push_asked costs (sources c.item) first before choices since c
    ∷ asked_again costs sources first before (c ∷ choices)
    (issue (push_again costs (sources c.item) first before choices since c) (since ++ before)
    ∷ since) rest

-- what is asked for by a schedule that is passed through once
abbrev pub first_pass : CostTable → (ℕ → List Source) → List Choice → List Push
first_pass costs sources schedule = asked_from costs sources [] [] schedule

-- and the second time
abbrev pub second_pass : CostTable → (ℕ → List Source) → List Choice → List Push
second_pass costs sources schedule =
    asked_again costs sources (reverse schedule) (timed costs sources schedule) [] [] schedule
