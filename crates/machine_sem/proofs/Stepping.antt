-- What a step does is what `exec` says.
use Rattle.std.proofs.Common.{◌≡◌, ℕ, zero, suc, ◌+◌, ◌≤◌, ◌<◌, Bool, true, false, not, List, [], ◌∷◌, length, take, Option, Some, None, IfSome, Result, Ok, Err, OnOk, OnErr, slice_index_or, add-one, refl, sym, ap, subst, ◌∙◌, arith}
use Rattle.std.specs.Prelude.{if◌then◌else◌}
use Rattle.std.specs.Ordering.{nat_cmp}
use Rattle.std.specs.FinMap.{FinMap}
use Rattle.sl_model.specs.declared.register.Reg.{Reg}
use Rattle.sl_model.specs.declared.instruction.Access.{Access}
use Rattle.sl_model.specs.declared.instruction.ArchName.{ArchName}
use Rattle.sl_model.specs.declared.instruction.Instr.{Instr}
use Rattle.sl_model.specs.Source.{outputs}
use Rattle.sl_model.specs.State.{State, write, write_all, load, store}
use Rattle.sl_model.specs.Machine.{space_of}
use Rattle.sl_model.specs.Isa.{Isa, op_of}
use Rattle.sl_model.specs.Exec.{has_access, is_store, address_of, loaded_by, values_of, memory_after, operand_values, exec, run}
use Rattle.sl_model.specs.Lawful.{IsValid, IsLawful}
use Rattle.sl_isa.specs.Arch.{padded_values, access_of, stored_by, AreOperands}
use Rattle.machine_sem.specs.Moves.{loaded_at, stored_at}
use Rattle.sl_laws.proofs.Padded.{length-padded}
use Rattle.sl_laws.proofs.Elements.{length-filter_map}
use Rattle.sl_laws.proofs.State.{length-loaded_by}

-- the access that a form has
abbrev pub access_if : Bool → Bool → ℕ → ℕ → Option Access
access_if has is_store address size = if has then Some (record { store = is_store; address = address; size = size }) else None

loaded_cases : (has is_store : Bool) (space address size : ℕ) (m : FinMap nat_cmp ℕ) → loaded_at space (access_if has is_store address size) m ≡ (if (if has then not is_store else false) then load space m address size else [])
unfolding loaded_at
loaded_cases true true space address size m = refl
loaded_cases true false space address size m = refl
loaded_cases false s space address size m = refl

stored_cases : (has is_store : Bool) (space address size : ℕ) (bytes : List ℕ) (m : FinMap nat_cmp ℕ) → ((if has then is_store else false) ≡ true → take size (padded_values 32 bytes) ≡ bytes) → stored_at space (access_if has is_store address size) (padded_values 32 (if (if has then is_store else false) then bytes else [])) m ≡ (if (if has then is_store else false) then store space address bytes m else m)
unfolding stored_at
stored_cases true true space address size bytes m h = ap (λ b. store space address b m) (h refl)
stored_cases true false space address size bytes m h = refl
stored_cases false s space address size bytes m h = refl

none_below : {n : ℕ} → suc n ≤ 0 → ⊥
none_below h = omega (arith, h)

below_both : {m n : ℕ} → suc m ≤ suc n → m ≤ n
below_both h = omega (arith, h)

same_both : {m n : ℕ} → suc m ≡ suc n → m ≡ n
same_both h = omega (arith, h)

none_is : {n : ℕ} → 0 ≡ suc n → ⊥
none_is h = omega (arith, h)

take_padded : (n : ℕ) (xs : List ℕ) → length xs ≤ n → take (length xs) (padded_values n xs) ≡ xs
unfolding padded_values
take_padded n [] h = refl
take_padded zero (x ∷ xs) h = absurd (none_below h)
take_padded (suc n) (x ∷ xs) h = ap (λ rest. x ∷ rest) (take_padded n xs (below_both h))

write_padded : (n : ℕ) (regs : List Reg) (values : List ℕ) (s : State) → length values ≡ length regs → length values ≤ n → write_all regs (padded_values n values) s ≡ write_all regs values s
unfolding padded_values write_all
write_padded n [] values s e h = refl
write_padded n (r ∷ regs) [] s e h = absurd (none_is e)
write_padded zero (r ∷ regs) (value ∷ values) s e h = absurd (none_below h)
write_padded (suc n) (r ∷ regs) (value ∷ values) s e h = write_padded n regs values (write r value s) (same_both e) (below_both h)

module _ (isa : Isa) (lawful : IsLawful isa) (i : Instr) (valid : IsValid isa i) where
  pub loaded_is : (ins : List ℕ) (m : FinMap nat_cmp ℕ) → loaded_at (space_of isa.name) (access_of isa i ins) m ≡ loaded_by isa i ins m
  unfolding access_of loaded_by
  loaded_is ins m =
      loaded_cases (has_access (isa.info i.form)) (isa.info i.form).store (space_of isa.name) (address_of isa i ins) (isa.info i.form).size m

  pub stored_is : (ins : List ℕ) (m : FinMap nat_cmp ℕ) → AreOperands isa i ins → stored_at (space_of isa.name) (access_of isa i ins) (padded_values 32 (stored_by isa i ins)) m ≡ memory_after isa i ins m
  unfolding access_of stored_by memory_after
  stored_is ins m are =
      stored_cases (has_access (isa.info i.form)) (isa.info i.form).store (space_of isa.name) (address_of isa i ins) (isa.info i.form).size (isa.stored (op_of i) ins) m (λ is.
      let count : length (isa.stored (op_of i) ins) ≡ (isa.info i.form).size = lawful.stored_count i ins valid is are.count in
      let few : length (isa.stored (op_of i) ins) ≤ 32 = subst (λ n. n ≤ 32) (sym count) (lawful.sizes i.form) in
      ap (λ n. take n (padded_values 32 (isa.stored (op_of i) ins))) (sym count) ∙ take_padded 32 (isa.stored (op_of i) ins) few)

  outputs_few : length (outputs i) ≤ 3
  outputs_few = subst (λ n. length (outputs i) ≤ n) (ap length valid.outs_shape ∙ length-padded 3 (outputs i)) (length-filter_map (λ r. r) i.outs)

  -- the outputs and the bytes that an architecture gives, written to a state
  pub step_is : (s : State) → AreOperands isa i (operand_values i s) → write_all (outputs i) (padded_values 3 (isa.values (op_of i) (operand_values i s) (loaded_by isa i (operand_values i s) s.memory))) (record { regs = s.regs; memory = memory_after isa i (operand_values i s) s.memory }) ≡ exec isa i s
  unfolding exec values_of
  step_is s are =
      let ins = operand_values i s in
      let values = isa.values (op_of i) ins (loaded_by isa i ins s.memory) in
      let count : length values ≡ length (outputs i) = lawful.value_count i ins (loaded_by isa i ins s.memory) valid are.count (length-loaded_by isa i ins s.memory) in
      write_padded 3 (outputs i) values _ count (subst (λ n. n ≤ 3) (sym count) outputs_few)

  access_size_cases : (has is_store : Bool) (address size : ℕ) → size ≤ 32 → IfSome (access_if has is_store address size) (λ a. a.size ≤ 32)
  access_size_cases true s address size h = h
  access_size_cases false s address size h = tt

  -- an access takes at most 32 bytes
  pub access_size : (ins : List ℕ) (access : Option Access) → access ≡ access_of isa i ins → IfSome access (λ a. a.size ≤ 32)
  unfolding access_of
  access_size ins access is =
      subst (λ a. IfSome a (λ a. a.size ≤ 32)) (sym is) (access_size_cases (has_access (isa.info i.form)) (isa.info i.form).store (address_of isa i ins) (isa.info i.form).size (lawful.sizes i.form))

  -- what was loaded, of the operands' values and the access
  pub loaded_from : (s : State) (name : ArchName) (ins loaded : List ℕ) (access : Option Access) → name ≡ isa.name → access ≡ access_of isa i ins → loaded ≡ loaded_at (space_of name) access s.memory → loaded ≡ loaded_by isa i ins s.memory
  loaded_from s name ins loaded access named is from =
      from ∙ ap (λ n. loaded_at (space_of n) access s.memory) named ∙ ap (λ a. loaded_at (space_of isa.name) a s.memory) is ∙ loaded_is ins s.memory

  -- A step from what the architecture answered.
  pub step_from : (s : State) (name : ArchName) (ins loaded regs bytes : List ℕ) (access : Option Access) → AreOperands isa i (operand_values i s) → name ≡ isa.name → ins ≡ operand_values i s → access ≡ access_of isa i ins → loaded ≡ loaded_at (space_of name) access s.memory
      → regs ≡ padded_values 3 (isa.values (op_of i) ins loaded) → bytes ≡ padded_values 32 (stored_by isa i ins)
      → write_all (outputs i) regs (record { regs = s.regs; memory = stored_at (space_of name) access bytes s.memory }) ≡ exec isa i s
  step_from s name ins loaded regs bytes access are named read_are is from gives stores =
      let given : List ℕ → List ℕ → List ℕ = λ xs bs. padded_values 3 (isa.values (op_of i) xs bs) in
      let values : regs ≡ given (operand_values i s) (loaded_by isa i (operand_values i s) s.memory) =
      gives ∙ ap (given ins) (loaded_from s name ins loaded access named is from) ∙ ap (λ xs. given xs (loaded_by isa i xs s.memory)) read_are in
      let memory : stored_at (space_of name) access bytes s.memory ≡ memory_after isa i (operand_values i s) s.memory =
      ap (λ b. stored_at (space_of name) access b s.memory) stores
      ∙ ap (λ n. stored_at (space_of n) access (padded_values 32 (stored_by isa i ins)) s.memory) named
      ∙ ap (λ a. stored_at (space_of isa.name) a (padded_values 32 (stored_by isa i ins)) s.memory) is
      ∙ ap (λ xs. stored_at (space_of isa.name) (access_of isa i xs) (padded_values 32 (stored_by isa i xs)) s.memory) read_are
      ∙ stored_is (operand_values i s) s.memory are in
      let state_with : FinMap nat_cmp ℕ → State = λ m. record { regs = s.regs; memory = m } in
      ap (λ r. write_all (outputs i) r (state_with (stored_at (space_of name) access bytes s.memory))) values
      ∙ ap (λ m. write_all (outputs i) (given (operand_values i s) (loaded_by isa i (operand_values i s) s.memory)) (state_with m)) memory
      ∙ step_is s are

-- the length of what is padded
pub length-padded_values : (n : ℕ) (values : List ℕ) → length (padded_values n values) ≡ n
unfolding padded_values
length-padded_values zero values = refl
length-padded_values (suc n) [] = ap suc (length-padded_values n [])
length-padded_values (suc n) (value ∷ values) = ap suc (length-padded_values n values)

-- what holds of both ends of a call that left one of them
pub either_way : {T E X : Type 0} (P : X → Type 0) (r : Result T E) (new ok err : X) → OnOk r (new ≡ ok) → OnErr r (new ≡ err) → P ok → P err → P new
either_way P (Ok x) new ok err is_ok is_err at_ok at_err = subst P (sym is_ok) at_ok
either_way P (Err e) new ok err is_ok is_err at_ok at_err = subst P (sym is_err) at_err

one_more : (isa : Isa) (items : List Instr) (k : ℕ) (none : Instr) (s : State) → k < length items → run isa (take (suc k) items) s ≡ exec isa (slice_index_or items k none) (run isa (take k items) s)
unfolding run
one_more isa [] k none s h = absurd (none_below h)
one_more isa (i ∷ items) zero none s h = refl
one_more isa (i ∷ items) (suc k) none s h = one_more isa items k none (exec isa i s) (below_both h)

-- one item more
pub run_next : (isa : Isa) (items : List Instr) (k : ℕ) (none : Instr) (s : State) → k < length items → run isa (take (k + 1) items) s ≡ exec isa (slice_index_or items k none) (run isa (take k items) s)
run_next isa items k none s h = ap (λ n. run isa (take n items) s) (add-one k) ∙ one_more isa items k none s h
