use Rattle.std.proofs.Common.{◌≡◌, ◌+◌, ◌-◌, ◌≤◌, true, false, length, drop, sym, ap, rules, ◌∙◌, arith, length-append}
use Rattle.sl_model.specs.Text.{whole_lines, without_end, is_marker}
use Rattle.sl_text.proofs.CutLemmas.{marker_here, marker_past, marker_none, lines_below}
use Rattle.sl_text.proofs.marker.next_marker.Goals as goal

pub returns-then-is_marker : goal.returns-then-is_marker
returns-then-is_marker c =
    let line = c.in-Some.line.now in
    let below = c.in-Some.below.now in
    let known = c.loop-line.invariant in
    let marks : is_marker c.args.label.now (without_end line) ≡ true = ap (is_marker c.args.label.now) (sym c.without_end.ensures) ∙ sym c.if-is_marker.ensures in
    record {
      numbers = known.numbers ∙ marker_here c.args.label.now c.loop-line.number c.loop-line.rest.now line below c.in-Some.ensures.first marks;
      low = known.low;
      high = known.high;
      from_lines = known.place;
      below_lines = lines_below (c.loop-line.number - c.args.first) (whole_lines c.args.text.now) (whole_lines c.loop-line.rest.now) (whole_lines below) line known.place c.in-Some.ensures.first;
      shorter = omega (arith, length-append line below, ap length c.in-Some.ensures.all.0, c.in-Some.ensures.all.1);
    }

pub loop-line-preserved : goal.loop-line-preserved
loop-line-preserved c =
    let line = c.in-Some.line.now in
    let below = c.in-Some.below.now in
    let known = c.loop-line.invariant in
    let marks : is_marker c.args.label.now (without_end line) ≡ false = ap (is_marker c.args.label.now) (sym c.without_end.ensures) ∙ sym c.if-is_marker.ensures in
    let low : c.args.first ≤ c.loop-line.number = known.low in
    let next : c.loop-line.number - c.args.first + 1 ≡ c.loop-line.number + 1 - c.args.first = omega arith in
    record {
      utf8 = search rules;
      low = omega arith;
      high = omega (arith, known.high, length-append line below, ap length c.in-Some.ensures.all.0, c.in-Some.ensures.all.1);
      place = lines_below (c.loop-line.number - c.args.first) (whole_lines c.args.text.now) (whole_lines c.loop-line.rest.now) (whole_lines below) line known.place c.in-Some.ensures.first
          ∙ ap (λ n. drop n (whole_lines c.args.text.now)) next;
      numbers = known.numbers ∙ marker_past c.args.label.now c.loop-line.number c.loop-line.rest.now line below c.in-Some.ensures.first marks;
    }

pub returns : goal.returns
returns c = c.loop-line.invariant.numbers ∙ marker_none c.args.label.now c.loop-line.number c.loop-line.rest.now c.in_default.ensures.first
