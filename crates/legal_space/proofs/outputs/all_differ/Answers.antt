use Rattle.std.proofs.Common.{◌≡◌, ◌+◌, ◌&&◌, not, List, Option, sym, ap, ◌∙◌, drop}
use Rattle.std.specs.List.{list_any}
use Rattle.sl_model.specs.declared.register.Reg.{Reg}
use Rattle.sl_model.specs.Register.{same_reg}
use Rattle.std.proofs.lemmas.List.{at_drop_all, take_rest}
use Rattle.sl_model.specs.Body.{all_differ}
use Rattle.legal_space.proofs.LoopSteps.{regs_of, outs-none, outs-some, all_differ-cons, all_differ-nil}
use Rattle.legal_space.proofs.outputs.all_differ.Goals as goal

pub loop-place-preserved-in_default : goal.loop-place-preserved-in_default
loop-place-preserved-in_default c =
    sym (outs-none all_differ c.args.outs.now c.loop-place.place c.loop-place-test.true c.in_default.is) ∙ c.loop-place.invariant

pub loop-place-preserved : goal.loop-place-preserved
loop-place-preserved c =
    let rest : List (Option Reg) = drop (c.loop-place.place + 1) c.args.outs.now in
    let among : c.is_among.result ≡ list_any (λ out. same_reg out c.in-Some.reg) (regs_of rest) =
    c.is_among.ensures ∙ ap (λ xs. list_any (λ out. same_reg out c.in-Some.reg) (regs_of xs)) (take_rest c.args.outs.now (c.loop-place.place + 1)) in
    sym (outs-some all_differ c.args.outs.now c.loop-place.place c.in-Some.reg c.loop-place-test.true c.in-Some.is
    ∙ all_differ-cons c.in-Some.reg (regs_of rest) c.is_among.result among
    ∙ ap (λ b. not b && all_differ (regs_of rest)) c.if-is_among.false)
    ∙ c.loop-place.invariant

pub returns-then-is_among : goal.returns-then-is_among
returns-then-is_among c =
    let rest : List (Option Reg) = drop (c.loop-place.place + 1) c.args.outs.now in
    let among : c.is_among.result ≡ list_any (λ out. same_reg out c.in-Some.reg) (regs_of rest) =
    c.is_among.ensures ∙ ap (λ xs. list_any (λ out. same_reg out c.in-Some.reg) (regs_of xs)) (take_rest c.args.outs.now (c.loop-place.place + 1)) in
    sym (outs-some all_differ c.args.outs.now c.loop-place.place c.in-Some.reg c.loop-place-test.true c.in-Some.is
    ∙ all_differ-cons c.in-Some.reg (regs_of rest) c.is_among.result among
    ∙ ap (λ b. not b && all_differ (regs_of rest)) c.if-is_among.true)
    ∙ c.loop-place.invariant

pub returns : goal.returns
returns c =
    sym (at_drop_all (λ xs. all_differ (regs_of xs)) c.args.outs.now c.loop-place.place c.loop-place-test.false ∙ all_differ-nil) ∙ c.loop-place.invariant
