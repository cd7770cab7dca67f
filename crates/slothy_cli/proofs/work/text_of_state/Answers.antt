use Rattle.std.proofs.Common.{List, ℕ, subst}
use Rattle.sl_model.specs.Answers.{Gives}
use Rattle.sl_model.specs.declared.instruction.Instr.{Instr}
use Rattle.sl_isa.specs.Language.{Language}
use Rattle.asm_reader.specs.Reading.{Region}
use Rattle.asm_reader.specs.RegionViews.{region_of}
use Rattle.slothy_cli.specs.declared.stop.File.TheVariants as which
use Rattle.slothy_cli.specs.Inputs.{run_answer}
use Rattle.slothy_cli.specs.Outcome.{running, WorkAnswers}
use Rattle.slothy_cli.specs.Reads.{Given}
use Rattle.slothy_cli.specs.NamesShown.{names_of}
use Rattle.slothy_cli.specs.Shown.{stop_told}
use Rattle.slothy_cli.proofs.Follows.{follows-read, follows-failed, follows-given, come-given}
use Rattle.slothy_cli.proofs.work.text_of_state.Goals as goal

pub returns-in-Ok-clause-follows : goal.returns-in-Ok-clause-follows
returns-in-Ok-clause-follows g c =
    let language : Language = g.A.Arch.language in
    let region : Region = region_of c.args.region.now in
    let bytes : List ℕ = c.in-Ok.bytes.items in
    let answers : Gives stop_told (λ text. text.items) c.run_answer.result (run_answer language region.items bytes) =
    subst (λ (items : List Instr). Gives stop_told (λ text. text.items) c.run_answer.result (run_answer language items bytes)) c.deref.ensures.value
    (subst (λ (b : List ℕ). Gives stop_told (λ text. text.items) c.run_answer.result (run_answer language c.deref.result.now b)) c.deref-in-Ok.ensures.value c.run_answer.ensures) in
    follows-read _ (WorkAnswers language) which.State (λ state. Given (running region state)) (names_of c.names.result) bytes _ c.names.ensures c.in-Ok.ensures.short c.in-Ok.ensures.of_file
    (follows-given _ (WorkAnswers language) (running region bytes) _ (come-given (λ text. text.items) c.run_answer.result c.ended.result (run_answer language region.items bytes) c.ended.ensures answers))

pub returns-in-Err-clause-follows : goal.returns-in-Err-clause-follows
returns-in-Err-clause-follows g c =
    follows-failed _ (WorkAnswers g.A.Arch.language) which.State (λ state. Given (running (region_of c.args.region.now) state)) (names_of c.names.result) c.in-Err.ending c.names.ensures c.in-Err.ensures.failed
