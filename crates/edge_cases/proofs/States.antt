-- What is read of a state that was written.
use Rattle.std.proofs.Common.{◌≡◌, ◌*◌, ◌%◌, ◌^◌, refl}
use Rattle.std.specs.FinMap.{insert, get-insert}
use Rattle.std.specs.Cmp.Lexicographic.{nat_list_cmp_total}
use Rattle.sl_model.specs.State.{State, reg_key, read, write, write_all}
use Rattle.sl_model.specs.Exec.{exec, values_of, memory_after, loaded_by}
use Rattle.edge_cases.specs.Edges.{exchanging_isa, exchange, x}

-- the register written first keeps its value under the second
pub first-value : (s : State) → read (exec exchanging_isa (exchange (x 1) (x 2) (x 1) (x 2)) s) (x 1) ≡ read s (x 2)
unfolding exec values_of memory_after loaded_by write_all write read
first-value s =
    rw (
      get-insert nat_list_cmp_total (insert s.regs (reg_key (x 1)) (read s (x 2))) (reg_key (x 2)) ((2 * read s (x 1)) % 2 ^ 64) (reg_key (x 1)),
      get-insert nat_list_cmp_total s.regs (reg_key (x 1)) (read s (x 2)) (reg_key (x 1)),
    ) refl

pub second-value : (s : State) → read (exec exchanging_isa (exchange (x 1) (x 2) (x 1) (x 2)) s) (x 2) ≡ (2 * read s (x 1)) % 2 ^ 64
unfolding exec values_of memory_after loaded_by write_all write read
second-value s =
    rw (get-insert nat_list_cmp_total (insert s.regs (reg_key (x 1)) (read s (x 2))) (reg_key (x 2)) ((2 * read s (x 1)) % 2 ^ 64) (reg_key (x 2))) refl
