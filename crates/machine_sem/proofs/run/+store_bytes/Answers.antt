use Rattle.std.proofs.Common.{ℕ, sym, ap, ◌∙◌}
use Rattle.sl_model.specs.State.{State, write_all, store}
use Rattle.sl_model.specs.Machine.{space_of}
use Rattle.machine_sem.proofs.Undo.{put_is_there, byte_back, with_byte}
use Rattle.machine_sem.proofs.Wrapped.{store_next}
use Rattle.machine_sem.proofs.run.+store_bytes.Goals as goal

pub put_back_byte-requires : goal.put_back_byte-requires
put_back_byte-requires t c =
    put_is_there c.wrapped-at.result c.in-Some.byte.now c.args.state.now c.set_byte.new.self c.store_bytes.new.state
    c.in_default-store_bytes.ensures.err c.in_ok-set_byte.ensures.ok

pub returns-in_default-store_bytes-clause-err : goal.returns-in_default-store_bytes-clause-err
returns-in_default-store_bytes-clause-err t c =
    c.put_back_byte.ensures
    ∙ byte_back c.wrapped-at.result c.in-Some.byte.now c.kept_byte-before.result c.args.state.now c.set_byte.new.self c.store_bytes.new.state
    c.in_default-store_bytes.ensures.err c.in_ok-set_byte.ensures.ok c.kept_byte-before.ensures

pub returns-clause-ok : goal.returns-clause-ok
returns-clause-ok t c =
    let space = space_of c.args.name in
    let stored : ℕ → State → State = λ at s. record { regs = s.regs; memory = store space at c.in-Some.rest.now s.memory } in
    c.in-Ok.ensures.ok
    ∙ ap (write_all _ c.args.outputs.values.now)
    (ap (stored c.next_address.result) (c.in_ok-set_byte.ensures.ok ∙ ap (λ at. with_byte at c.in-Some.byte.now c.args.state.now) c.wrapped-at.ensures)
    ∙ ap (λ m. record { regs = c.args.state.now.regs; memory = m })
    (store_next space c.args.address c.next_address.result c.in-Some.byte.now c.in-Some.rest.now c.args.state.now.memory c.next_address.ensures
    ∙ ap (λ bytes. store space c.args.address bytes c.args.state.now.memory) (sym c.in-Some.ensures.cases.0)))
