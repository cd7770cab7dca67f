-- Outputs one at a time: the choices that begin with some registers, and which registers needn't be
-- tried for the next output. Source: reducedness, as a test that looks at no later output.
use Rattle.std.specs.Prelude.{ℕ, Bool, ◌-◌, ◌==◌, ◌&&◌, ◌||◌, not, nat_lt, map, List, ◌++◌, length, slice_index_or, if◌then◌else◌}
use Rattle.std.specs.List.{list_any}
use Rattle.sl_model.specs.declared.register.Bank.TheVariants.{General, Vector, Flags, Stack}
use Rattle.sl_model.specs.declared.register.Reg.{Reg}
use Rattle.sl_model.specs.declared.register.RegSet.{RegSet}
use Rattle.sl_model.specs.declared.schedule.Choice.{Choice}
use Rattle.sl_model.specs.Register.{same_reg}
use Rattle.sl_model.specs.RegSets.{bit_of}
use Rattle.sl_model.specs.Source.{outputs, item_at}
use Rattle.sl_model.specs.Body.{given}
use Rattle.sl_model.specs.Legal.{Problem, sources_in, info_in, suits_output, may_overwrite, is_flags, is_register}
use Rattle.sl_model.specs.Space.{same_kind, is_final_output, is_tied_output}
use Rattle.search_space.specs.Next.{machine_reg, machine_regs, reg_lists, choice_in}

-- the register with a bit in a set
abbrev pub reg_of_bit : ℕ → Reg
reg_of_bit bit =
    if nat_lt bit 32 then machine_reg General bit else
    if nat_lt bit 64 then machine_reg Vector (bit - 32) else
    if bit == 64 then machine_reg Flags 0 else machine_reg Stack 0

-- how many registers the machine has
abbrev pub reg_count : ℕ
reg_count = 66

-- the choices of an item on a unit that begin with some registers, and have so many more
abbrev pub beginning : ℕ → ℕ → List Reg → ℕ → List Choice
beginning item unit front left = map (λ regs. choice_in item unit (front ++ regs)) (reg_lists left)

-- the class of an item's output at a place
abbrev pub class_at : Problem → ℕ → ℕ → RegSet
class_at problem item place =
    slice_index_or (info_in problem item).out_sets place (record { bits = 0 })

-- the register of an item's output at a place, as it was before
abbrev pub own_at : Problem → ℕ → ℕ → Reg
own_at problem item place =
    slice_index_or (outputs (item_at problem.graph.items item)) place (machine_reg General 0)

-- May an item's output at a place go to a register, as far as L4 says of it alone, and L7?
unfoldable pub may_go : Problem → List Choice → ℕ → ℕ → Reg → Bool
may_go problem done item place r =
    suits_output problem item (place, ((r, class_at problem item place), own_at problem item place))
    && may_overwrite problem done item r

-- Is a register given to a source of an item?
abbrev pub is_read_from : Problem → List Choice → ℕ → Reg → Bool
is_read_from problem done item r =
    list_any (λ s. is_register r (given done s)) (sources_in problem item)

-- Is there a lower register of its kind to which the output behind some others may go, none of
-- these, and none that the item reads?
unfoldable pub has_lower : Problem → List Choice → ℕ → List Reg → Reg → Bool
has_lower problem done item front r =
    list_any (λ other. nat_lt (bit_of other.bank other.number) (bit_of r.bank r.number)
    && (same_kind problem r other && (may_go problem done item (length front) other
    && (not (list_any (λ q. same_reg q other) front)
    && not (is_read_from problem done item other))))) machine_regs

-- Is an item's output at a place free to choose, where it goes to a register?
abbrev pub is_free_at : Problem → ℕ → ℕ → Reg → Bool
is_free_at problem item place r =
    not (is_final_output problem item place)
    && (not (is_tied_output problem item place) && not (is_flags r))

-- Needn't a register be tried for the output behind some others: it may not go there, or it is free
-- to choose and there is a lower one?
unfoldable pub is_hopeless : Problem → List Choice → ℕ → List Reg → Reg → Bool
is_hopeless problem done item front r =
    not (may_go problem done item (length front) r)
    || (is_free_at problem item (length front) r && has_lower problem done item front r)
