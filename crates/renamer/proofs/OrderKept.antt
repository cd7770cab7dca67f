-- Registers that aren't written keep their values.
use Rattle.std.proofs.Common.{◌≡◌, ℕ, ◌+◌, true, false, cond, List, [], ◌∷◌, Some, is_some, refl, ◌∙◌, subst, ⊎_elim, true≢false}
use Rattle.std.proofs.lemmas.Bool.{cases_Bool, or_parts}
use Rattle.sl_model.specs.declared.register.Reg.{Reg}
use Rattle.sl_model.specs.declared.instruction.Instr.{Instr}
use Rattle.sl_model.specs.declared.schedule.Choice.{Choice}
use Rattle.sl_model.specs.Register.{same_reg}
use Rattle.sl_model.specs.Source.{place_from, outputs}
use Rattle.sl_model.specs.State.{State, read, write, write_all}
use Rattle.sl_model.specs.Isa.{Isa}
use Rattle.sl_model.specs.Exec.{exec, run, values_of, memory_after, operand_values}
use Rattle.sl_model.specs.Program.{is_one_of}
use Rattle.sl_model.specs.Body.{Body, chosen, applied_item, applied_from}
use Rattle.renamer.specs.Written.{is_chosen}
use Rattle.sl_laws.proofs.State.{read-write_other}

-- Where a register stands nowhere among those written, it keeps its value.
write_all-kept : (k : ℕ) (regs : List Reg) (values : List ℕ) (s : State) (r : Reg) → is_some (place_from k r regs) ≡ false → read (write_all regs values s) r ≡ read s r
unfolding write_all place_from
write_all-kept k [] values s r h = refl
write_all-kept k (q ∷ regs) [] s r h = refl
write_all-kept k (q ∷ regs) (value ∷ values) s r h = ⊎_elim
    (λ (same : same_reg q r ≡ true).
    let none : true ≡ false = subst (λ t. is_some (cond t (Some k) (place_from (k + 1) r regs)) ≡ false) same h in
    absurd (true≢false none))
    (λ (other : same_reg q r ≡ false).
    write_all-kept (k + 1) regs values (write q value s) r (subst (λ t. is_some (cond t (Some k) (place_from (k + 1) r regs)) ≡ false) other h)
    ∙ read-write_other s q r value other)
    (cases_Bool (same_reg q r))

-- An instruction keeps the registers that aren't its outputs.
exec-kept : (isa : Isa) (i : Instr) (s : State) (r : Reg) → is_one_of r (outputs i) ≡ false → read (exec isa i s) r ≡ read s r
unfolding exec read
exec-kept isa i s r h = write_all-kept 0 (outputs i) (values_of isa i (operand_values i s) s.memory) (record { regs = s.regs; memory = memory_after isa i (operand_values i s) s.memory }) r h

-- So does a list of choices: it keeps those that none of them took.
pub applied-kept : (isa : Isa) (body : Body) (done choices : List Choice) (s : State) (r : Reg) → is_chosen r choices ≡ false → read (run isa (applied_from body done choices) s) r ≡ read s r
unfolding run applied_from
applied-kept isa body done [] s r h = refl
applied-kept isa body done (c ∷ choices) s r h =
    let parts = or_parts (is_one_of r (chosen c)) (is_chosen r choices) h in
    applied-kept isa body (c ∷ done) choices (exec isa (applied_item body done c) s) r parts.1 ∙ exec-kept isa (applied_item body done c) s r parts.0
