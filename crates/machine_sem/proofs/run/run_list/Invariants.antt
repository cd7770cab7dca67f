use Rattle.std.proofs.Common.{◌≡◌, take}
use Rattle.sl_model.specs.Exec.{run}
use Rattle.machine_sem.specs.Fits.{Fits}
use Rattle.machine_sem.proofs.run.run_list.Given as goal

-- the items so far are done
abbrev pub invariant-loop-instr : goal.invariant-loop-instr
invariant-loop-instr g l =
    record {
      done : l.state ≡ run g.A.Arch.language.isa (take l.instr-index l.items) l.fn.state;
      fits : Fits g.A.Arch.language.isa l.state;
    }
