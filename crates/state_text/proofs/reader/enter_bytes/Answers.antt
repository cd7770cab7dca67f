use Rattle.std.proofs.Common.{arith, ap, Err, sym, ◌∙◌}
use Rattle.std.proofs.lemmas.Result.{err_from_is_err_and}
use Rattle.std.proofs.lemmas.Bool.Decides.{nat_tests}
use Rattle.state_text.proofs.Entries.{bytes_stop, bytes_go_on, bytes_end, bytes_odd, entry_stops}
use Rattle.state_text.proofs.reader.enter_bytes.Goals as goal

pub returns-in_err-enter_pair : goal.returns-in_err-enter_pair
returns-in_err-enter_pair c =
    let fault = err_from_is_err_and c.from_residual.result c.from_residual.ensures.1 in
    entry_stops c.from_residual.result c.in_err-enter_pair.field-0.0 _ _ c.enter_pair.new.state c.enter_pair.new.state (fault.1 ∙ ap (λ e. Err e) fault.2) c.in_err-enter_pair.ensures.enters
    (λ none. sym c.loop-rest.invariant.same ∙ bytes_stop c.args.arch c.loop-rest.address c.loop-rest.rest.now c.loop-rest.state c.in-len2-up.len_at_least none)

pub loop-rest-preserved : goal.loop-rest-preserved
loop-rest-preserved c = record {
  within = omega (arith, c.in_ok-enter_pair.ensures.within);
  same = bytes_go_on c.args.arch c.loop-rest.address c.loop-rest.rest.now c.loop-rest.state c.enter_pair.new.state c.in-len2-up.len_at_least c.in_ok-enter_pair.ensures.enters
      ∙ c.loop-rest.invariant.same;
}

pub returns-then-is_empty : goal.returns-then-is_empty
returns-then-is_empty c = sym c.loop-rest.invariant.same ∙ bytes_end c.args.arch c.loop-rest.address c.loop-rest.rest.now c.loop-rest.state (grind (arith, nat_tests))

pub returns : goal.returns
returns c = sym c.loop-rest.invariant.same ∙ bytes_odd c.args.arch c.loop-rest.address c.loop-rest.rest.now c.loop-rest.state (grind (arith, nat_tests)) c.in_default.len_below
