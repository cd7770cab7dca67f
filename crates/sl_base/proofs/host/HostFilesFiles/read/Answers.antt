-- A read moves the reader on by the bytes that it gave.
use Rattle.std.proofs.Common.{◌∙◌, sym, ap}
use Rattle.sl_base.proofs.Left.{left_behind, left_before}
use Rattle.sl_base.proofs.host.HostFilesFiles.read.Goals as goal

pub invariant_of-self : goal.invariant_of-self
invariant_of-self g c =
    left_behind _ _ c.self.inside.given c.in-Ok.count _ _ c.read_some.new.buffer c.in-Ok.ensures.bound.1 c.self.invariant c.in-Ok.ensures.reads

pub returns-clause-ok_left : goal.returns-clause-ok_left
returns-clause-ok_left g c =
    ap (λ s. s.left) (sym c.self.view_is)
    ∙ left_before _ _ c.self.inside.given c.in-Ok.count _ _ c.read_some.new.buffer c.in-Ok.ensures.bound.1 c.self.invariant c.in-Ok.ensures.reads
