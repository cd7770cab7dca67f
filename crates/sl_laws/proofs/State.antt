-- The laws of registers and memory: what is read after a write.
use Rattle.std.proofs.Common.{◌≡◌, ℕ, zero, suc, ◌+◌, ◌%◌, ◌<◌, Bool, true, false, not, cond, eqb, List, [], ◌∷◌, length, Option, Some, None, unwrap_or, refl, sym, ◌∙◌, ap, ap₂, subst, ⊎_elim, arith, slice_index, add-one, add-zero, true≢false}
use Rattle.std.specs.Ordering.{nat_cmp, is_eq, eq_by_cmp}
use Rattle.std.specs.FinMap.{FinMap, get, insert, get-insert, slice_cmp-IsAntisymmetric, nat_cmp-IsAntisymmetric}
use Rattle.std.specs.Cmp.Lexicographic.{slice_cmp, nat_list_cmp_total}
use Rattle.std.specs.Cmp.{nat_cmp_total, tied_itself, Equal-is}
use Rattle.std.specs.List.{list_any}
use Rattle.std.specs.Option.{is_some, option_map}
use Rattle.std.proofs.lemmas.Bool.{cases_Bool, and_parts, or_parts, not-true, both_ways, false_from_ne_true, eqb-true, eqb-false, cond-true, cond-false}
use Rattle.sl_model.specs.declared.register.Reg.{Reg}
use Rattle.sl_model.specs.Register.{same_reg}
use Rattle.sl_model.specs.Source.{place_from}
use Rattle.sl_model.specs.Body.{all_differ}
use Rattle.sl_model.specs.State.{State, reg_key, read, write, byte, put, is_zero, write_all, load, store}
use Rattle.sl_model.specs.declared.instruction.Instr.{Instr}
use Rattle.sl_model.specs.Source.{operands, outputs}
use Rattle.sl_model.specs.Isa.{Isa}
use Rattle.sl_model.specs.Exec.{is_load, address_of, loaded_by, values_of}
use Rattle.sl_model.specs.Lawful.{IsLawful, IsValid, load_size}
use Rattle.sl_laws.proofs.Registers.{same_bank, same_reg-true, same_reg-refl, place_from-next}
use Rattle.sl_laws.proofs.Tests.{is_none_from}
use Rattle.sl_model.specs.Machine.{space_of}

-- only equal addresses tie
pub nat_key_same : (a b : ℕ) → eq_by_cmp nat_cmp a b ≡ true → a ≡ b
nat_key_same a b e = nat_cmp-IsAntisymmetric a b ((Equal-is (nat_cmp a b)).0 e)

-- only equal keys of registers tie
pub key_same : (a b : List ℕ) → eq_by_cmp (slice_cmp nat_cmp) a b ≡ true → a ≡ b
key_same a b e = slice_cmp-IsAntisymmetric nat_cmp-IsAntisymmetric a b ((Equal-is (slice_cmp nat_cmp a b)).0 e)

-- a byte that was put
pub byte-put_same : (memory : FinMap nat_cmp ℕ) (address value : ℕ) → byte (put address value memory) address ≡ value
unfolding byte put
byte-put_same memory address value =
    let tied : eq_by_cmp nat_cmp address address ≡ true = ap is_eq (tied_itself nat_cmp_total address) in
    rw (get-insert nat_cmp_total memory address value address, tied) refl

-- other bytes
pub byte-put_other : (memory : FinMap nat_cmp ℕ) (address value at : ℕ) → eqb address at ≡ false → byte (put address value memory) at ≡ byte memory at
unfolding byte put
byte-put_other memory address value at other =
    let untied : eq_by_cmp nat_cmp at address ≡ false = false_from_ne_true _ (λ (tied : eq_by_cmp nat_cmp at address ≡ true). eqb-false address at other (sym (nat_key_same at address tied))) in
    rw (get-insert nat_cmp_total memory address value at, untied) refl

-- a register that was written
pub read-write_same : (s : State) (r : Reg) (value : ℕ) → is_zero r ≡ false → read (write r value s) r ≡ value
unfolding read write
read-write_same s r value written =
    let tied : eq_by_cmp (slice_cmp nat_cmp) (reg_key r) (reg_key r) ≡ true = ap is_eq (tied_itself nat_list_cmp_total (reg_key r)) in
    let found : get (insert s.regs (reg_key r) value) (reg_key r) ≡ Some value = get-insert nat_list_cmp_total s.regs (reg_key r) value (reg_key r) ∙ cond-true _ (Some value) (get s.regs (reg_key r)) tied in
    cond-false (is_zero r) 0 (unwrap_or (get (insert s.regs (reg_key r) value) (reg_key r)) 0) written ∙ ap (λ o. unwrap_or o 0) found

-- the middle number of a key tells whether the register is symbolic
same_symbolic : (a b : Bool) → ◌≡◌ {A = ℕ} (cond a 1 0) (cond b 1 0) → a ≡ b
same_symbolic true true e = refl
same_symbolic false false e = refl
same_symbolic true false e = absurd (omega arith)
same_symbolic false true e = absurd (omega arith)

-- registers with equal keys are equal
pub same_key : (a b : Reg) → reg_key a ≡ reg_key b → a ≡ b
same_key a b e =
    let bank : a.bank ≡ b.bank = same_bank a.bank b.bank (ap (λ xs. slice_index xs 0) e) in
    let symbolic : a.symbolic ≡ b.symbolic = same_symbolic a.symbolic b.symbolic (ap (λ xs. slice_index xs 1) e) in
    let number : a.number ≡ b.number = ap (λ xs. slice_index xs 2) e in
    λ i. record { bank = bank i; symbolic = symbolic i; number = number i }

-- other registers
pub read-write_other : (s : State) (r q : Reg) (value : ℕ) → same_reg r q ≡ false → read (write r value s) q ≡ read s q
unfolding read write
read-write_other s r q value other =
    let untied : eq_by_cmp (slice_cmp nat_cmp) (reg_key q) (reg_key r) ≡ false = false_from_ne_true _ (λ (tied : eq_by_cmp (slice_cmp nat_cmp) (reg_key q) (reg_key r) ≡ true).
    both_ways (same_reg r q) other (subst (λ x. same_reg r x ≡ true) (sym (same_key q r (key_same (reg_key q) (reg_key r) tied))) (same_reg-refl r))) in
    let found : get (insert s.regs (reg_key r) value) (reg_key q) ≡ get s.regs (reg_key q) = get-insert nat_list_cmp_total s.regs (reg_key r) value (reg_key q) ∙ cond-false _ (Some value) (get s.regs (reg_key q)) untied in
    ap (λ o. cond (is_zero q) 0 (unwrap_or o 0)) found

-- what is read where values landed: the value at a place, or else what was there
abbrev pub landed : Option ℕ → List ℕ → ℕ → ℕ
landed None values old = old
landed (Some place) values old = slice_index values place

-- the same behind one more value
landed-next : (o : Option ℕ) (value : ℕ) (values : List ℕ) (old : ℕ) → landed (option_map (λ j. j + 1) o) (value ∷ values) old ≡ landed o values old
landed-next None value values old = refl
landed-next (Some j) value values old = ap (λ n. slice_index (value ∷ values) n) (add-one j)

-- A register that stands among those written has the value at its place, and others keep theirs.
pub read-write_all : (regs : List Reg) (values : List ℕ) (s : State) (r : Reg) → list_any is_zero regs ≡ false → all_differ regs ≡ true → length regs ≡ length values → read (write_all regs values s) r ≡ landed (place_from 0 r regs) values (read s r)
unfolding write_all place_from all_differ
read-write_all [] values s r writable differ sizes = refl
read-write_all (q ∷ regs) [] s r writable differ sizes = absurd (omega arith)
read-write_all (q ∷ regs) (value ∷ values) s r writable differ sizes =
    let zeros = or_parts (is_zero q) (list_any is_zero regs) writable in
    let parts = and_parts (not (is_some (place_from 0 q regs))) (all_differ regs) differ in
    let rest : read (write_all regs values (write q value s)) r ≡ landed (place_from 0 r regs) values (read (write q value s) r) = read-write_all regs values (write q value s) r zeros.1 parts.1 (omega arith) in
    ⊎_elim
    (λ (same : same_reg q r ≡ true).
    let is : q ≡ r = same_reg-true q r same in
    let none : place_from 0 q regs ≡ None = is_none_from (place_from 0 q regs) (not-true _ parts.0) in
    let nowhere : place_from 0 r regs ≡ None = subst (λ x. place_from 0 x regs ≡ None) is none in
    let here : read (write q value s) r ≡ value = subst (λ x. read (write q value s) x ≡ value) is (read-write_same s q value zeros.0) in
    let goal : landed (cond (same_reg q r) (Some 0) (place_from 1 r regs)) (value ∷ values) (read s r) ≡ value = ap (λ o. landed o (value ∷ values) (read s r)) (cond-true (same_reg q r) (Some 0) (place_from 1 r regs) same) in
    rest ∙ ap (λ o. landed o values (read (write q value s) r)) nowhere ∙ here ∙ sym goal)
    (λ (other : same_reg q r ≡ false).
    let there : read (write q value s) r ≡ read s r = read-write_other s q r value other in
    let goal : landed (cond (same_reg q r) (Some 0) (place_from 1 r regs)) (value ∷ values) (read s r) ≡ landed (place_from 0 r regs) values (read s r) =
    ap (λ o. landed o (value ∷ values) (read s r)) (cond-false (same_reg q r) (Some 0) (place_from 1 r regs) other ∙ place_from-next 0 r regs) ∙ landed-next (place_from 0 r regs) value values (read s r) in
    rest ∙ ap (λ v. landed (place_from 0 r regs) values v) there ∙ sym goal)
    (cases_Bool (same_reg q r))

-- Writing registers leaves memory.
pub write_all-memory : (regs : List Reg) (values : List ℕ) (s : State) → (write_all regs values s).memory ≡ s.memory
unfolding write_all write
write_all-memory [] values s = refl
write_all-memory (r ∷ regs) [] s = refl
write_all-memory (r ∷ regs) (value ∷ values) s = write_all-memory regs values (write r value s)

-- a value, or else another one
abbrev pub otherwise : Option ℕ → Option ℕ → Option ℕ
otherwise None o = o
otherwise (Some v) o = Some v

-- the last of some bytes, stored from an address on, that goes to an address
unfoldable pub stored_at : ℕ → ℕ → List ℕ → ℕ → Option ℕ
stored_at space address [] at = None
stored_at space address (b ∷ bytes) at = otherwise (stored_at space (address + 1) bytes at) (cond (eqb (address % space) at) (Some b) None)

-- a byte after the first of some bytes and the rest are stored
byte-store_step : (o : Option ℕ) (space address b at : ℕ) (memory : FinMap nat_cmp ℕ) → unwrap_or o (byte (put (address % space) b memory) at) ≡ unwrap_or (otherwise o (cond (eqb (address % space) at) (Some b) None)) (byte memory at)
byte-store_step (Some v) space address b at memory = refl
byte-store_step None space address b at memory = ⊎_elim
    (λ (same : eqb (address % space) at ≡ true). rw same (subst (λ x. byte (put (address % space) b memory) x ≡ b) (eqb-true _ _ same) (byte-put_same memory (address % space) b)))
    (λ (other : eqb (address % space) at ≡ false). rw other (byte-put_other memory (address % space) b at other))
    (cases_Bool (eqb (address % space) at))

-- a byte after a store: the last one stored there, or else what was there
pub byte-store : (space address : ℕ) (bytes : List ℕ) (memory : FinMap nat_cmp ℕ) (at : ℕ) → byte (store space address bytes memory) at ≡ unwrap_or (stored_at space address bytes at) (byte memory at)
unfolding store stored_at
byte-store space address [] memory at = refl
byte-store space address (b ∷ bytes) memory at = byte-store space (address + 1) bytes (put (address % space) b memory) at ∙ byte-store_step (stored_at space (address + 1) bytes at) space address b at memory

-- Bytes at the same addresses are loaded alike.
pub load-same : (space : ℕ) (m n : FinMap nat_cmp ℕ) (address size : ℕ) → ((j : ℕ) → j < size → byte m ((address + j) % space) ≡ byte n ((address + j) % space)) → load space m address size ≡ load space n address size
unfolding load
load-same space m n address zero same = refl
load-same space m n address (suc size) same =
    let here : byte m (address % space) ≡ byte n (address % space) = subst (λ x. byte m (x % space) ≡ byte n (x % space)) (add-zero address) (same 0 (omega arith)) in
    let rest : load space m (address + 1) size ≡ load space n (address + 1) size = load-same space m n (address + 1) size (λ j below.
    let shifted : address + (j + 1) ≡ address + 1 + j = omega arith in
    subst (λ x. byte m (x % space) ≡ byte n (x % space)) shifted (same (j + 1) (omega arith))) in
    ap₂ (λ x xs. x ∷ xs) here rest

-- as many bytes are loaded as asked for
pub length-load : (space : ℕ) (memory : FinMap nat_cmp ℕ) (address size : ℕ) → length (load space memory address size) ≡ size
unfolding load
length-load space memory address zero = refl
length-load space memory address (suc size) = ap suc (length-load space memory (address + 1) size)

-- As many bytes are loaded as the form says.
pub length-loaded_by : (isa : Isa) (i : Instr) (ins : List ℕ) (memory : FinMap nat_cmp ℕ) → length (loaded_by isa i ins memory) ≡ load_size isa i.form
unfolding loaded_by
length-loaded_by isa i ins memory = ⊎_elim
    (λ (loads : is_load (isa.info i.form) ≡ true).
    ap length (cond-true (is_load (isa.info i.form)) (load (space_of isa.name) memory (address_of isa i ins) (isa.info i.form).size) [] loads)
    ∙ length-load (space_of isa.name) memory (address_of isa i ins) (isa.info i.form).size
    ∙ sym (cond-true (is_load (isa.info i.form)) (isa.info i.form).size 0 loads))
    (λ (quiet : is_load (isa.info i.form) ≡ false).
    ap length (cond-false (is_load (isa.info i.form)) (load (space_of isa.name) memory (address_of isa i ins) (isa.info i.form).size) [] quiet)
    ∙ sym (cond-false (is_load (isa.info i.form)) (isa.info i.form).size 0 quiet))
    (cases_Bool (is_load (isa.info i.form)))

-- so there is a value for each output
pub length-values_of : (isa : Isa) (i : Instr) (ins : List ℕ) (memory : FinMap nat_cmp ℕ) → IsLawful isa → IsValid isa i → length ins ≡ length (operands i)
    → length (values_of isa i ins memory) ≡ length (outputs i)
unfolding values_of
length-values_of isa i ins memory lawful valid count =
    lawful.value_count i ins (loaded_by isa i ins memory) valid count (length-loaded_by isa i ins memory)

-- an address that a byte of a store goes to
pub record IsWithin (space address size at : ℕ) : Type 0 where
  pub place : ℕ
  pub below : place < size
  pub is : (address + place) % space ≡ at

-- where a byte goes, with one more byte before the rest
stored_at_step : (o : Option ℕ) (space address b at size : ℕ) → (is_some o ≡ true → IsWithin space (address + 1) size at) → is_some (otherwise o (cond (eqb (address % space) at) (Some b) None)) ≡ true → IsWithin space address (suc size) at
stored_at_step (Some v) space address b at size rest found =
    let w : IsWithin space (address + 1) size at = rest refl in
    record { place = w.place + 1; below = omega arith; is = (let shifted : address + (w.place + 1) ≡ address + 1 + w.place = omega arith in ap (λ x. x % space) shifted ∙ w.is) }
stored_at_step None space address b at size rest found = ⊎_elim
    (λ (same : eqb (address % space) at ≡ true). record { place = 0; below = omega arith; is = ap (λ x. x % space) (add-zero address) ∙ eqb-true _ _ same })
    (λ (other : eqb (address % space) at ≡ false).
    let none : false ≡ true = subst (λ t. is_some (cond t (Some b) None) ≡ true) other found in
    absurd (true≢false (sym none)))
    (cases_Bool (eqb (address % space) at))

-- A byte that was stored at an address goes there from a place of the store.
pub stored_at-within : (space address : ℕ) (bytes : List ℕ) (at : ℕ) → is_some (stored_at space address bytes at) ≡ true → IsWithin space address (length bytes) at
unfolding stored_at
stored_at-within space address [] at found = absurd (true≢false (sym found))
stored_at-within space address (b ∷ bytes) at found = stored_at_step (stored_at space (address + 1) bytes at) space address b at (length bytes) (stored_at-within space (address + 1) bytes at) found
