use Rattle.std.proofs.Common.{◌≡◌, ◌-◌, length, ap, subst, arith, IsCharBoundary, length-append}
use Rattle.std.proofs.lemmas.Str.{IsCharBoundary-at_seam}
use Rattle.sl_text.proofs.cut.front.Goals as goal

pub range-requires-clause-end_boundary : goal.range-requires-clause-end_boundary
range-requires-clause-end_boundary c =
    let text = c.args.text.now in
    let rest = c.args.rest.now in
    let above = c.requires.0 in
    let size : length above ≡ length text - length rest = omega (arith, length-append above rest, ap length c.requires.1) in
    let cut : IsCharBoundary text (length text - length rest) = subst (IsCharBoundary text) size (IsCharBoundary-at_seam text above rest c.requires.1 c.utf8.rest) in
    cut
