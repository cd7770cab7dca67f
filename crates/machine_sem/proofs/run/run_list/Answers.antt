use Rattle.std.proofs.Common.{refl, sym, ap, ◌∙◌}
use Rattle.sl_model.specs.Source.{no_instr}
use Rattle.sl_model.specs.Exec.{exec, run}
use Rattle.machine_sem.proofs.Stepping.{run_next}
use Rattle.machine_sem.proofs.run.run_list.Goals as goal

pub loop-instr-init : goal.loop-instr-init
unfolding run
loop-instr-init g c = record { done = refl; fits = c.requires.fitting }

pub loop-instr-preserved : goal.loop-instr-preserved
loop-instr-preserved g c =
    let isa = g.A.Arch.language.isa in
    record {
      done = c.in_ok-step.ensures.ok ∙ ap (exec isa _) c.loop-instr.invariant.done
          ∙ sym (run_next isa c.args.items.now c.loop-instr.instr-index no_instr c.args.state.now c.loop-instr-test.true);
      fits = c.step.ensures.fits;
    }
