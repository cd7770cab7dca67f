-- What was set in a state is put back.
use Rattle.std.proofs.Common.{◌≡◌, ℕ, cond, Option, Some, IsSome, refl, sym, ap, subst, ◌∙◌}
use Rattle.std.specs.declared.cmp.Ordering.{Ordering}
use Rattle.std.specs.Ordering.{is_eq, nat_cmp}
use Rattle.std.specs.Cmp.{IsTotalOrder, tied_itself, nat_cmp_total}
use Rattle.std.specs.Cmp.Lexicographic.{nat_list_cmp_total}
use Rattle.std.specs.FinMap.{FinMap, get, insert, get-insert, nat_cmp-IsAntisymmetric}
use Rattle.sl_model.specs.declared.register.Reg.{Reg}
use Rattle.sl_model.specs.State.{State, reg_key, write, put}
use Rattle.machine_sem.specs.StateCode.{restored}
use Rattle.machine_sem.proofs.Maps.{undone, keys_differ}

set_is_there : {K : Type 0} {R : K → K → Ordering} → IsTotalOrder R → (m : FinMap R ℕ) (k : K) (v : ℕ) → IsSome (get (insert m k v) k)
set_is_there {R = R} o m k v =
    subst IsSome (sym (get-insert o m k v k ∙ ap (λ r. cond (is_eq r) (Some v) (get m k)) (tied_itself o k))) refl

-- a register that was written is there
pub written_is_there : (r : Reg) (v : ℕ) (s t u : State) → u ≡ t → t ≡ write r v s → IsSome (get u.regs (reg_key r))
unfolding write
written_is_there r v s t u same is =
    let there : IsSome (get (write r v s).regs (reg_key r)) = set_is_there nat_list_cmp_total s.regs (reg_key r) v in
    subst (λ x. IsSome (get x.regs (reg_key r))) (sym (same ∙ is)) there

-- and is put back
pub written_back : (r : Reg) (v : ℕ) (before : Option ℕ) (s t u : State) → u ≡ t → t ≡ write r v s → before ≡ get s.regs (reg_key r) → ◌≡◌ {A = State} (record { regs = restored u.regs (reg_key r) before; memory = u.memory }) s
unfolding write
written_back r v before s t u same is was =
    let back : State → Option ℕ → State = λ x b. record { regs = restored x.regs (reg_key r) b; memory = x.memory } in
    let with_regs : FinMap _ ℕ → State = λ m. record { regs = m; memory = s.memory } in
    ap (λ x. back x before) (same ∙ is) ∙ ap (back (write r v s)) was
    ∙ ap with_regs (undone nat_list_cmp_total keys_differ s.regs (reg_key r) v)

-- a state with a byte
abbrev pub with_byte : ℕ → ℕ → State → State
with_byte address value s = record { regs = s.regs; memory = put address value s.memory }

-- a byte that was put is there
pub put_is_there : (address v : ℕ) (s t u : State) → u ≡ t → t ≡ with_byte address v s → IsSome (get u.memory address)
unfolding put
put_is_there address v s t u same is =
    let there : IsSome (get (with_byte address v s).memory address) = set_is_there nat_cmp_total s.memory address v in
    subst (λ x. IsSome (get x.memory address)) (sym (same ∙ is)) there

-- and is put back
pub byte_back : (address v : ℕ) (before : Option ℕ) (s t u : State) → u ≡ t → t ≡ with_byte address v s → before ≡ get s.memory address → ◌≡◌ {A = State} (record { regs = u.regs; memory = restored u.memory address before }) s
unfolding put
byte_back address v before s t u same is was =
    let back : State → Option ℕ → State = λ x b. record { regs = x.regs; memory = restored x.memory address b } in
    let with_memory : FinMap nat_cmp ℕ → State = λ m. record { regs = s.regs; memory = m } in
    ap (λ x. back x before) (same ∙ is) ∙ ap (back (with_byte address v s)) was
    ∙ ap with_memory (undone nat_cmp_total nat_cmp-IsAntisymmetric s.memory address v)
