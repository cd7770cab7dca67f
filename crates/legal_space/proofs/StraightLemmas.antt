-- A straight problem, item by item.
use Rattle.std.proofs.Common.{◌≡◌, ℕ, ◌≤◌, List, ◌++◌, length, filter, drop, not, Option, sym, ◌∙◌, ap}
use Rattle.std.specs.List.{filter_map}
use Rattle.std.proofs.lemmas.List.{append-nil, drop_all}
use Rattle.sl_model.specs.declared.register.Reg.{Reg}

-- where no output is left, all are there
pub outputs-done : (outs : List (Option Reg)) (k : ℕ) (regs all : List Reg) → length outs ≤ k → regs ++ filter (λ r. not r.symbolic) (filter_map (λ r. r) (drop k outs)) ≡ all → regs ≡ all
outputs-done outs k regs all past so_far =
    sym (append-nil regs) ∙ ap (λ rest. regs ++ filter (λ r. not r.symbolic) (filter_map (λ r. r) rest)) (sym (drop_all k outs past)) ∙ so_far
