use Rattle.std.proofs.Common.{◌≡◌, ◌+◌, sym, ap, ◌∙◌, subst, arith, IsCharBoundary}
use Rattle.sl_text.specs.Lines.{line_length}
use Rattle.sl_text.proofs.LineLemmas.{line_length_here, line_length_later, line_length_boundary}
use Rattle.sl_text.proofs.text.line_length.Goals as goal

-- the length of the line whose end was found
found : (c : goal.Then-byte-eq10) → c.loop-place.place + 1 ≡ line_length c.args.text.now
found c = sym (ap (λ n. c.loop-place.place + n) (line_length_here c.args.text.now c.loop-place.place c.loop-place-test.true c.if-byte-eq10.true)) ∙ c.loop-place.invariant

pub returns-then-byte-eq10-clause-value : goal.returns-then-byte-eq10-clause-value
returns-then-byte-eq10-clause-value c = found c

pub returns-then-byte-eq10-clause-boundary : goal.returns-then-byte-eq10-clause-boundary
returns-then-byte-eq10-clause-boundary c utf8 = subst (IsCharBoundary c.args.text.now) (sym (found c)) (line_length_boundary c.args.text.now utf8)

pub loop-place-preserved : goal.loop-place-preserved
loop-place-preserved c =
    let later = line_length_later c.args.text.now c.loop-place.place c.loop-place-test.true c.if-byte-eq10.false in
    omega (arith, later, c.loop-place.invariant)
