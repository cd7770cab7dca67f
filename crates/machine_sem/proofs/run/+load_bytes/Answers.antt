use Rattle.std.proofs.Common.{◌∷◌, ◌%◌, length, sym, ap, ◌∙◌}
use Rattle.sl_model.specs.State.{byte, load}
use Rattle.sl_model.specs.Machine.{space_of}
use Rattle.machine_sem.proofs.Wrapped.{load_next}
use Rattle.machine_sem.proofs.run.+load_bytes.Goals as goal

pub returns : goal.returns
returns t c =
    let space = space_of c.args.name in
    let memory = c.args.state.now.memory in
    ap (λ b. b ∷ c.load_bytes.new.bytes) (c.byte.ensures ∙ ap (byte memory) c.wrapped.ensures)
    ∙ ap (λ rest. byte memory (c.args.address % space) ∷ rest) c.load_bytes.ensures
    ∙ load_next space memory c.args.address c.next_address.result (length c.in-Some.bytes.now) c.next_address.ensures
    ∙ ap (λ bytes. load space memory c.args.address (length bytes)) (sym c.in-Some.ensures.cases.0)
