use Rattle.std.proofs.Common.{◌≡◌, ap, Err, Ok, sym, subst, ◌∙◌}
use Rattle.std.proofs.lemmas.Result.{err_from_is_err_and}
use Rattle.state_text.specs.StateText.{read_state, with_lines}
use Rattle.sl_model.specs.Text.{numbered_lines}
use Rattle.sl_text.specs.Lines.{lines_left}
use Rattle.state_text.proofs.Reading.{lines_go_on, lines_end, line_stops}
use Rattle.state_text.proofs.Fitting.{read_fits}
use Rattle.state_text.proofs.reader.read_state.Goals as goal

pub loop-line-init : goal.loop-line-init
unfolding read_state
loop-line-init c =
    ap (λ left. with_lines c.args.arch (lines_left left) c.new-state.result) c.into_iter-line-iterator.ensures.into_iter_gives
    ∙ ap (λ lines. with_lines c.args.arch lines c.new-state.result) c.lines-line-items.ensures.all
    ∙ ap (λ s. with_lines c.args.arch (numbered_lines 1 c.args.text.now) s) c.new-state.ensures.value

pub loop-line-preserved : goal.loop-line-preserved
loop-line-preserved c =
    lines_go_on c.args.arch (lines_left c.loop-line.line-iterator) (lines_left c.next.new.self) c.in-Some.line.number c.in-Some.line.text.now c.loop-line.state c.enter_line.new.state c.in-Some.ensures.steps c.in_ok-enter_line.ensures
    ∙ c.loop-line.invariant

pub returns-in_err-enter_line-clause-read : goal.returns-in_err-enter_line-clause-read
returns-in_err-enter_line-clause-read c =
    let fault = err_from_is_err_and c.from_residual.result c.from_residual.ensures.1 in
    line_stops c.args.arch (lines_left c.loop-line.line-iterator) (lines_left c.next.new.self) c.in-Some.line.number c.in-Some.line.text.now c.loop-line.state c.enter_line.new.state
    c.from_residual.result c.in_err-enter_line.field-0.0 (read_state c.args.arch c.args.text.now) c.in-Some.ensures.steps c.loop-line.invariant (fault.1 ∙ ap (λ e. Err e) fault.2) c.in_err-enter_line.ensures

pub returns-clause-read : goal.returns-clause-read
returns-clause-read c = sym c.loop-line.invariant ∙ lines_end c.args.arch (lines_left c.loop-line.line-iterator) c.loop-line.state c.in-None.ensures.steps.0

pub returns-clause-fits : goal.returns-clause-fits
returns-clause-fits c = λ isa lawful name. read_fits isa lawful c.args.text.now c.loop-line.state (subst (λ arch. read_state arch c.args.text.now ≡ Ok c.loop-line.state) (sym name) (returns-clause-read c))
