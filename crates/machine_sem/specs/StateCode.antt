-- How a state is kept as a value, and what an entry of a map is put back to.
use Rattle.std.specs.Prelude.{ℕ, refl, Option, None, Some}
use Rattle.std.specs.Coded.{Coded, code_by, coded×, coded_ℕ, coded_list}
use Rattle.std.specs.Ordering.{nat_cmp}
use Rattle.std.specs.Cmp.Lexicographic.{slice_cmp}
use Rattle.std.specs.declared.cmp.Ordering.{Ordering}
use Rattle.std.specs.FinMap.{FinMap, code, empty, insert, remove}
use Rattle.sl_model.specs.State.{State}

-- the code of a state: that of its two maps
abbrev pub state_code : Coded State
state_code = code_by (FinMap (slice_cmp nat_cmp) ℕ × FinMap nat_cmp ℕ)
    (coded× (code (coded_list coded_ℕ) coded_ℕ) (code coded_ℕ coded_ℕ))
    (λ s. (s.regs, s.memory)) (λ p. record { regs = p.0; memory = p.1 }) (λ _. refl)

-- the state in which nothing was set
abbrev pub new_state : State
new_state = record { regs = empty; memory = empty }

-- a map in which a key has what it had before
unfoldable pub restored : {K : Type 0} {R : K → K → Ordering} → FinMap R ℕ → K → Option ℕ
    → FinMap R ℕ
restored m key None = remove m key
restored m key (Some value) = insert m key value
