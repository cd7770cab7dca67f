use Rattle.std.proofs.Common.{◌≤◌, length, take, sym, ap, subst, IfSome, ◌∙◌}
use Rattle.std.proofs.lemmas.Result.{IfOk-equal}
use Rattle.sl_model.specs.Exec.{exec}
use Rattle.sl_isa.specs.Arch.{stored_by}
use Rattle.machine_sem.specs.Fits.{Fits}
use Rattle.machine_sem.proofs.Stepping.{access_size, loaded_from, length-padded_values, step_from, either_way}
use Rattle.sl_laws.proofs.State.{length-loaded_by}
use Rattle.machine_sem.proofs.Fitting.{operands_fit, exec_fits}
use Rattle.machine_sem.proofs.run.step.Goals as goal

pub load_access-size-requires : goal.load_access-size-requires
load_access-size-requires g c =
    access_size g.A.Arch.language.isa g.met.A.Arch.lawful.set c.args.instr.now c.requires.valid _ c.access-access.result c.access-access.ensures

pub exec-outs-requires-clause-bytes : goal.exec-outs-requires-clause-bytes
exec-outs-requires-clause-bytes g c =
    let isa = g.A.Arch.language.isa in
    let ins = take c.read_operands-count.result c.read_operands-count.new.values in
    ap length (loaded_from isa g.met.A.Arch.lawful.set c.args.instr.now c.requires.valid c.args.state.now c.name-name.result ins _ c.access-access.result
    c.name-name.ensures c.access-access.ensures c.load_access-size.ensures.bytes)
    ∙ length-loaded_by isa c.args.instr.now ins c.args.state.now.memory

pub store_access-requires : goal.store_access-requires
store_access-requires g c =
    let ins = take c.read_operands-count.result c.read_operands-count.new.values in
    subst (λ n. IfSome c.access-access.result (λ a. a.size ≤ n))
    (sym (ap length c.exec-outs.ensures.stored ∙ length-padded_values 32 (stored_by g.A.Arch.language.isa c.args.instr.now ins)))
    (access_size g.A.Arch.language.isa g.met.A.Arch.lawful.set c.args.instr.now c.requires.valid ins c.access-access.result c.access-access.ensures)

pub returns-clause-ok : goal.returns-clause-ok
returns-clause-ok g c =
    let isa = g.A.Arch.language.isa in
    let i = c.args.instr.now in
    let s = c.args.state.now in
    let ins = take c.read_operands-count.result c.read_operands-count.new.values in
    IfOk-equal c.store_access.result _ _ _ c.store_access.ensures.ok
    (step_from isa g.met.A.Arch.lawful.set i c.requires.valid s c.name-name.result ins _ c.exec-outs.result.regs c.exec-outs.result.bytes c.access-access.result
    (operands_fit isa g.met.A.Arch.lawful.set i s c.requires.fitting) c.name-name.ensures c.read_operands-count.ensures.values
    c.access-access.ensures c.load_access-size.ensures.bytes c.exec-outs.ensures.values c.exec-outs.ensures.stored)

pub returns-clause-fits : goal.returns-clause-fits
returns-clause-fits g c =
    let isa = g.A.Arch.language.isa in
    either_way (Fits isa) c.store_access.result c.store_access.new.state (exec isa c.args.instr.now c.args.state.now) c.args.state.now
    (returns-clause-ok g c) c.store_access.ensures.err
    (exec_fits isa g.met.A.Arch.lawful.set c.args.instr.now c.requires.valid c.args.state.now c.requires.fitting) c.requires.fitting
