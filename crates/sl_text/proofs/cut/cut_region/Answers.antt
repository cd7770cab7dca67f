use Rattle.std.proofs.Common.{◌-◌, ◌<◌, rules}
use Rattle.std.proofs.lemmas.Result.{err_from_is_err_and}
use Rattle.sl_text.proofs.CutLemmas.{cut_start_refused, cut_end_refused, cut_above, cut_parts, start_ends_in, end_from_below, ends_in}
use Rattle.sl_text.proofs.cut.cut_region.Goals as goal

pub returns-in_err-start-clause-cut : goal.returns-in_err-start-clause-cut
returns-in_err-start-clause-cut c =
    let refused = err_from_is_err_and c.from_residual.result c.from_residual.ensures.1 in
    rw (refused.1, refused.2) (cut_start_refused c.args.start.now c.args.end.now c.args.text.now _ c.in_err-start.ensures)

pub returns-in_err-end-clause-cut : goal.returns-in_err-end-clause-cut
returns-in_err-end-clause-cut c =
    let refused = err_from_is_err_and c.from_residual-in_err-end.result c.from_residual-in_err-end.ensures.1 in
    rw (refused.1, refused.2) (cut_end_refused c.args.start.now c.args.end.now c.args.text.now _ _ c.in_ok-start.ensures.0 c.in_err-end.ensures)

pub returns-then-end-start-clause-cut : goal.returns-then-end-start-clause-cut
returns-then-end-start-clause-cut c = cut_above c.args.start.now c.args.end.now c.args.text.now _ _ c.in_ok-start.ensures.0 c.in_ok-end.ensures.0 c.if-end-start.true

pub front-requires : goal.front-requires
front-requires c = start_ends_in c.args.start.now c.args.text.now c.in_ok-start.start.from.now c.in_ok-start.start.below.now c.in_ok-start.start.number c.in_ok-start.ensures.1

pub front-requires-2 : goal.front-requires-2
front-requires-2 c =
    let start = c.in_ok-start.start in
    let end = c.in_ok-end.end in
    let below : start.number < end.number = search rules in
    ends_in start.below.now end.from.now (end.number - 1 - start.number)
    (end_from_below c.args.start.now c.args.end.now c.args.text.now start.from.now start.below.now end.from.now end.below.now start.number end.number c.in_ok-start.ensures.1 c.in_ok-end.ensures.1 below)

pub returns-clause-cut : goal.returns-clause-cut
returns-clause-cut c =
    let start = c.in_ok-start.start in
    let end = c.in_ok-end.end in
    let below : start.number < end.number = search rules in
    cut_parts c.args.start.now c.args.end.now c.args.text.now start.from.now start.below.now end.from.now end.below.now c.front.result.now c.front-2.result.now start.number end.number
    c.in_ok-start.ensures.0 c.in_ok-end.ensures.0 c.in_ok-start.ensures.1 c.in_ok-end.ensures.1 below c.front.ensures c.front-2.ensures
