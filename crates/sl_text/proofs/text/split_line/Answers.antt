use Rattle.std.proofs.Common.{◌≡◌, ◌<◌, ◌≤◌, take, length, sym, rules, arith, length-take-le, take-append-drop}
use Rattle.sl_text.specs.Lines.{line_length}
use Rattle.sl_text.proofs.LineLemmas.{whole_lines_some, line_length_long}
use Rattle.sl_text.proofs.text.split_line.Goals as goal

-- the line's length is that of the definition
size : (c : goal.After-t8-1) → c.line_length-end.result ≡ line_length c.args.text.now
size c = search rules

front : (c : goal.After-t8-1) → c.range.result.now ≡ take c.line_length-end.result c.args.text.now
front c = search rules

some : (c : goal.After-t8-1) → 0 < length c.args.text.now
some c = search rules

pub returns-clause-first : goal.returns-clause-first
returns-clause-first c = rw (front c, c.range_from.ensures.value, size c) (whole_lines_some c.args.text.now (some c))

pub returns-clause-all : goal.returns-clause-all
returns-clause-all c =
    let long : 0 < c.line_length-end.result = rw (size c) (line_length_long c.args.text.now (some c)) in
    let within : c.line_length-end.result ≤ length c.args.text.now = search rules in
    let taken = length-take-le c.line_length-end.result c.args.text.now within in
    rw (front c, c.range_from.ensures.value) (sym (take-append-drop c.line_length-end.result c.args.text.now), omega arith)
