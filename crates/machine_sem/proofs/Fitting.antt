-- What fits an architecture goes on fitting it.
use Rattle.std.proofs.Common.{◌≡◌, ℕ, zero, suc, ◌+◌, ◌%◌, ◌<◌, ◌≤◌, Bool, true, false, cond, List, [], ◌∷◌, map, Option, Some, None, refl, sym, ap, subst, ◌∙◌, arith, unwrap_or, lit<}
use Rattle.std.proofs.lemmas.Bool.{ltb-true, lt-ltb, and_parts, and_from}
use Rattle.std.proofs.lemmas.Nat.{mod_below}
use Rattle.std.specs.Prelude.{if◌then◌else◌, nat_lt}
use Rattle.std.specs.Ordering.{eq_by_cmp, nat_cmp}
use Rattle.std.specs.Cmp.{Equal-is, nat_cmp_total}
use Rattle.std.specs.Cmp.Lexicographic.{slice_cmp, nat_list_cmp_total}
use Rattle.std.specs.FinMap.{get, get-empty, get-insert, nat_cmp-IsAntisymmetric}
use Rattle.sl_model.specs.declared.register.Bank.{Bank}
use Rattle.sl_model.specs.declared.register.Bank.TheVariants.{General, Vector, Flags, Stack}
use Rattle.sl_model.specs.declared.register.Reg.{Reg}
use Rattle.sl_model.specs.declared.instruction.ArchName.{ArchName}
use Rattle.sl_model.specs.declared.instruction.ArchName.TheVariants.{Arm64, M4}
use Rattle.sl_model.specs.declared.instruction.Instr.{Instr}
use Rattle.sl_model.specs.Source.{operands, outputs}
use Rattle.sl_model.specs.State.{State, reg_key, is_zero, read, write, write_all, byte, put, load, store}
use Rattle.sl_model.specs.Machine.{limit_of, space_of}
use Rattle.sl_model.specs.Isa.{Isa, op_of}
use Rattle.sl_model.specs.Exec.{is_load, is_store, address_of, loaded_by, values_of, memory_after, operand_values, exec}
use Rattle.sl_model.specs.Lawful.{IsValid, IsLawful, fit, are_bytes}
use Rattle.sl_isa.specs.Arch.{AreOperands}
use Rattle.machine_sem.specs.Fits.{Fits}
use Rattle.machine_sem.specs.StateCode.{new_state}
use Rattle.sl_laws.proofs.Machines.{space-some}
use Rattle.std.proofs.lemmas.List.{length-map}
use Rattle.sl_laws.proofs.State.{key_same, same_key, length-loaded_by}

limit_positive : (name : ArchName) (bank : Bank) → 0 < limit_of name bank
limit_positive Arm64 General = lit< tt
limit_positive Arm64 Vector = lit< tt
limit_positive Arm64 Flags = lit< tt
limit_positive Arm64 Stack = lit< tt
limit_positive M4 General = lit< tt
limit_positive M4 Vector = lit< tt
limit_positive M4 Flags = lit< tt
limit_positive M4 Stack = lit< tt

-- registers of one key are of one bank
same_bank : (q r : Reg) → eq_by_cmp (slice_cmp nat_cmp) (reg_key q) (reg_key r) ≡ true → q.bank ≡ r.bank
same_bank q r e = ap (λ (reg : Reg). reg.bank) (same_key q r (key_same (reg_key q) (reg_key r) e))

value_fits : (zeroed same : Bool) (v : ℕ) (old : Option ℕ) (limit : ℕ) → 0 < limit → (same ≡ true → v < limit) → (if zeroed then 0 else unwrap_or old 0) < limit → (if zeroed then 0 else unwrap_or (cond same (Some v) old) 0) < limit
value_fits true same v old limit positive small fits = positive
value_fits false true v old limit positive small fits = small refl
value_fits false false v old limit positive small fits = fits

none_fits : (zeroed : Bool) (limit : ℕ) → 0 < limit → (if zeroed then 0 else 0) < limit
none_fits true limit positive = positive
none_fits false limit positive = positive

byte_fits : (same : Bool) (b : ℕ) (old : Option ℕ) → b < 256 → unwrap_or old 0 < 256 → unwrap_or (cond same (Some b) old) 0 < 256
byte_fits true b old small fits = small
byte_fits false b old small fits = fits

stays_out : (same : Bool) (b : ℕ) (old : Option ℕ) → (same ≡ true → ⊥) → old ≡ None → cond same (Some b) old ≡ None
stays_out true b old other fits = absurd (other refl)
stays_out false b old other fits = fits

not_within : (a address space : ℕ) → a ≡ address → address < space → space ≤ a → ⊥
not_within a address space same within far = omega (arith, same)

module _ (isa : Isa) (lawful : IsLawful isa) where
  positive : (bank : Bank) → 0 < limit_of isa.name bank
  positive bank = limit_positive isa.name bank

  fit_read : (s : State) → Fits isa s → (regs : List Reg) → fit isa regs (map (read s) regs) ≡ true
  fit_read s fits [] = refl
  fit_read s fits (r ∷ regs) = and_from _ _ (lt-ltb _ _ (fits.values r)) (fit_read s fits regs)

  pub operands_fit : (i : Instr) (s : State) → Fits isa s → AreOperands isa i (operand_values i s)
  operands_fit i s fits = record { count = length-map (operands i) (read s); fitting = fit_read s fits (operands i) }

  -- the new state
  pub new_fits : Fits isa new_state
  unfolding read byte
  new_fits = record {
    values = λ q. subst (λ o. (if is_zero q then 0 else unwrap_or o 0) < limit_of isa.name q.bank) (sym (get-empty (slice_cmp nat_cmp) (reg_key q))) (none_fits (is_zero q) _ (positive q.bank));
    bytes = λ a. subst (λ o. unwrap_or o 0 < 256) (sym (get-empty nat_cmp a)) (lit< tt);
    addresses = λ a far. get-empty nat_cmp a;
  }

  pub write_fits : (r : Reg) (v : ℕ) (s : State) → v < limit_of isa.name r.bank → Fits isa s → Fits isa (write r v s)
  unfolding write read
  write_fits r v s small fits = record {
    values = λ q. subst (λ o. (if is_zero q then 0 else unwrap_or o 0) < limit_of isa.name q.bank) (sym (get-insert nat_list_cmp_total s.regs (reg_key r) v (reg_key q)))
        (value_fits (is_zero q) (eq_by_cmp (slice_cmp nat_cmp) (reg_key q) (reg_key r)) v (get s.regs (reg_key q)) (limit_of isa.name q.bank) (positive q.bank)
        (λ same. subst (λ bank. v < limit_of isa.name bank) (sym (same_bank q r same)) small) (fits.values q));
    bytes = fits.bytes;
    addresses = fits.addresses;
  }

  write_all_fits : (regs : List Reg) (values : List ℕ) (s : State) → fit isa regs values ≡ true → Fits isa s → Fits isa (write_all regs values s)
  unfolding write_all
  write_all_fits [] values s h fits = fits
  write_all_fits (r ∷ regs) [] s h fits = fits
  write_all_fits (r ∷ regs) (v ∷ values) s h fits =
      let parts = and_parts (nat_lt v (limit_of isa.name r.bank)) _ h in
      write_all_fits regs values (write r v s) parts.1 (write_fits r v s (ltb-true _ _ parts.0) fits)

  pub put_fits : (address b : ℕ) (s : State) → address < (space_of isa.name) → b < 256 → Fits isa s → Fits isa (record { regs = s.regs; memory = put address b s.memory })
  unfolding put byte read
  put_fits address b s within small fits = record {
    values = fits.values;
    bytes = λ a. subst (λ o. unwrap_or o 0 < 256) (sym (get-insert nat_cmp_total s.memory address b a)) (byte_fits (eq_by_cmp nat_cmp a address) b (get s.memory a) small (fits.bytes a));
    addresses = λ a far. get-insert nat_cmp_total s.memory address b a ∙ stays_out (eq_by_cmp nat_cmp a address) b (get s.memory a)
        (λ same. not_within a address (space_of isa.name) (nat_cmp-IsAntisymmetric a address ((Equal-is (nat_cmp a address)).0 same)) within far) (fits.addresses a far);
  }

  store_fits : (address : ℕ) (bytes : List ℕ) (s : State) → are_bytes bytes ≡ true → Fits isa s → Fits isa (record { regs = s.regs; memory = store (space_of isa.name) address bytes s.memory })
  unfolding store
  store_fits address [] s h fits = fits
  store_fits address (b ∷ bytes) s h fits =
      let parts = and_parts (nat_lt b 256) _ h in
      let within : address % (space_of isa.name) < (space_of isa.name) = mod_below address (space_of isa.name) (space-some isa.name) in
      store_fits (address + 1) bytes (record { regs = s.regs; memory = put (address % (space_of isa.name)) b s.memory }) parts.1
      (put_fits (address % (space_of isa.name)) b s within (ltb-true _ _ parts.0) fits)

  memory_fits : (i : Instr) → IsValid isa i → (s : State) → Fits isa s → Fits isa (record { regs = s.regs; memory = memory_after isa i (operand_values i s) s.memory })
  unfolding memory_after
  memory_fits i valid s fits =
      let ins = operand_values i s in
      elim (is_store (isa.info i.form)) as (λ b. is_store (isa.info i.form) ≡ b → Fits isa (record { regs = s.regs; memory = if b then store (space_of isa.name) (address_of isa i ins) (isa.stored (op_of i) ins) s.memory else s.memory })) [
        | true ↦ λ is. store_fits (address_of isa i ins) (isa.stored (op_of i) ins) s (lawful.stored_fit i ins valid is (length-map (operands i) (read s))) fits
        | false ↦ λ _. fits
      ] refl

  load_fits : (s : State) → Fits isa s → (address size : ℕ) → are_bytes (load (space_of isa.name) s.memory address size) ≡ true
  unfolding load
  load_fits s fits address zero = refl
  load_fits s fits address (suc size) = and_from _ _ (lt-ltb _ _ (fits.bytes (address % (space_of isa.name)))) (load_fits s fits (address + 1) size)

  loaded_fits : (i : Instr) (ins : List ℕ) (s : State) → Fits isa s → are_bytes (loaded_by isa i ins s.memory) ≡ true
  unfolding loaded_by
  loaded_fits i ins s fits =
      elim (is_load (isa.info i.form)) as (λ b. are_bytes (if b then load (space_of isa.name) s.memory (address_of isa i ins) (isa.info i.form).size else []) ≡ true) [
        | true ↦ load_fits s fits (address_of isa i ins) (isa.info i.form).size
        | false ↦ refl
      ]

  -- after a step
  pub exec_fits : (i : Instr) → IsValid isa i → (s : State) → Fits isa s → Fits isa (exec isa i s)
  unfolding exec values_of
  exec_fits i valid s fits =
      let ins = operand_values i s in
      let are = operands_fit i s fits in
      write_all_fits (outputs i) _ _
      (lawful.values_fit i ins (loaded_by isa i ins s.memory) valid are.count (length-loaded_by isa i ins s.memory) are.fitting (loaded_fits i ins s fits))
      (memory_fits i valid s fits)
