use Rattle.std.proofs.Common.{◌≡◌, ◌+◌, ◌∷◌, length, sym, ap, ◌∙◌, rules}
use Rattle.sl_model.specs.Text.{numbered_lines}
use Rattle.sl_text.specs.Lines.{lines_left}
use Rattle.sl_text.proofs.LineLemmas.{numbered_lines-nil, numbered_lines_first}
use Rattle.sl_text.proofs.line.LinesIterator.next.Goals as goal

pub returns-in_err-line-clause-steps : goal.returns-in_err-line-clause-steps
unfolding lines_left
returns-in_err-line-clause-steps c =
    let self = c.args.self.now in
    let none = numbered_lines-nil self.number self.rest.now c.in_err-line.ensures.first in
    rw c.from_residual.ensures (none, none)

-- the line that is given stands before those that are left
given : (c : goal.After-t13-1) → numbered_lines c.args.self.now.number c.args.self.now.rest.now ≡ (c.args.self.now.number, c.without_end.result.now) ∷ numbered_lines (c.args.self.now.number + 1) c.in_ok-line.rest.now
given c =
    let self = c.args.self.now in
    numbered_lines_first self.number self.rest.now c.in_ok-line.line.now c.in_ok-line.rest.now c.in_ok-line.ensures.first
    ∙ ap (λ text. (self.number, text) ∷ numbered_lines (self.number + 1) c.in_ok-line.rest.now) (sym c.without_end.ensures)

pub returns-clause-steps : goal.returns-clause-steps
unfolding lines_left
returns-clause-steps c = given c

pub returns-clause-goes : goal.returns-clause-goes
unfolding lines_left
returns-clause-goes c = let shorter = ap length (given c) in search rules
