use Rattle.std.proofs.Common.{◌≡◌, false, true, drop, length, nat_eq, codes, sym, ap, ◌∙◌, rules}
use Rattle.std.specs.List.{starts_with}
use Rattle.std.proofs.lemmas.List.{take_rest}
use Rattle.sl_model.specs.Text.{skip_blanks, is_quiet}
use Rattle.sl_text.proofs.WordLemmas.{marker_no_label, marker_no_colon, marker_quiet}
use Rattle.sl_text.proofs.marker.is_marker.Goals as goal

pub returns-then-not-starts_with : goal.returns-then-not-starts_with
returns-then-not-starts_with c =
    let spelled : c.skip_blanks-spelled.result.now ≡ skip_blanks c.args.line.now = search rules in
    let absent : starts_with nat_eq c.skip_blanks-spelled.result.now c.args.label.now ≡ false = search rules in
    sym (marker_no_label c.args.label.now c.args.line.now c.skip_blanks-spelled.result.now spelled absent)

pub returns-then-not-starts_with-2 : goal.returns-then-not-starts_with-2
returns-then-not-starts_with-2 c =
    let spelled : c.skip_blanks-spelled.result.now ≡ skip_blanks c.args.line.now = search rules in
    let begins : starts_with nat_eq c.skip_blanks-spelled.result.now c.args.label.now ≡ true = search rules in
    let rest = take_rest c.skip_blanks-spelled.result.now (length c.args.label.now) in
    let absent : starts_with nat_eq (drop (length c.args.label.now) c.skip_blanks-spelled.result.now) (codes ":") ≡ false = rw (← rest) (search rules) in
    sym (marker_no_colon c.args.label.now c.args.line.now c.skip_blanks-spelled.result.now spelled begins absent)

pub returns : goal.returns
returns c =
    let whole = c.skip_blanks-spelled.result.now in
    let size = length c.args.label.now in
    let spelled : whole ≡ skip_blanks c.args.line.now = search rules in
    let begins : starts_with nat_eq whole c.args.label.now ≡ true = search rules in
    let rest = take_rest whole size in
    let colon : starts_with nat_eq (drop size whole) (codes ":") ≡ true = rw (← rest) (search rules) in
    let last : c.is_quiet.result ≡ is_quiet (skip_blanks (drop 1 (drop size whole))) = c.is_quiet.ensures ∙ ap is_quiet (rw (rest, take_rest (drop size whole) 1) at c.skip_blanks.ensures) in
    last ∙ sym (marker_quiet c.args.label.now c.args.line.now whole spelled begins colon)
