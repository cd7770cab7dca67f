-- The plan of a schedule: a note for each instruction.
use Rattle.std.proofs.Common.{◌≡◌, ℕ, suc, true, List, [], ◌∷◌, length, refl, ap, ◌∙◌, sym, arith}
use Rattle.std.specs.List.{list_all}
use Rattle.sl_model.specs.declared.instruction.Instr.{Instr}
use Rattle.sl_model.specs.declared.schedule.Choice.{Choice}
use Rattle.sl_model.specs.Body.{Body, applied_from, applied}
use Rattle.sl_model.specs.Cycles.{timed, cycles_of}
use Rattle.sl_model.specs.Graph.{body_of}
use Rattle.sl_model.specs.Legal.{Problem, sources_in}
use Rattle.sl_laws.proofs.Cycles.{length-cycles_of, length-timed}
use Rattle.core_text.specs.Core.{CoreTable}
use Rattle.slothy_cli.specs.Plan.{notes_of, plan_of}

-- there is an instruction for each choice
pub length-applied : (body : Body) (done choices : List Choice) → length (applied_from body done choices) ≡ length choices
unfolding applied_from
length-applied body done [] = refl
length-applied body done (c ∷ choices) = ap suc (length-applied body (c ∷ done) choices)

length-notes : (core : CoreTable) (items : List Instr) (choices : List Choice) (cycles : List ℕ) → length choices ≡ length items → length cycles ≡ length items → length (notes_of core items choices cycles) ≡ length items
unfolding notes_of
length-notes core [] choices cycles c e = refl
length-notes core (i ∷ items) [] cycles c e = absurd (omega arith)
length-notes core (i ∷ items) (choice ∷ choices) [] c e = absurd (omega arith)
length-notes core (i ∷ items) (choice ∷ choices) (cycle ∷ cycles) c e = ap suc (length-notes core items choices cycles (omega arith) (omega arith))

-- there is a note for each instruction
pub plan-length : (core : CoreTable) (problem : Problem) (schedule : List Choice) → length (plan_of core problem schedule).notes ≡ length (applied (body_of problem.graph) schedule)
unfolding plan_of
plan-length core problem schedule =
    let times = timed problem.costs (sources_in problem) schedule in
    let many : length (applied (body_of problem.graph) schedule) ≡ length schedule = length-applied (body_of problem.graph) [] schedule in
    let cycles : length (cycles_of times) ≡ length schedule = omega (arith, length-cycles_of times, length-timed problem.costs (sources_in problem) [] [] schedule) in
    length-notes core (applied (body_of problem.graph) schedule) schedule (cycles_of times) (sym many) (cycles ∙ sym many)
