-- Where the value of an operand comes from: the last output in its register above it, or what the
-- register held before the first item. Source: reaching definitions, for a straight list.
use Rattle.std.specs.Prelude.{ℕ, zero, suc, ◌+◌, List, [], ◌∷◌, ◌++◌, length, take, map, reverse, slice_index_or, Option, None, Some, false, if◌then◌else◌}
use Rattle.std.specs.List.{filter_map}
use Rattle.sl_model.specs.declared.register.Reg.{Reg}
use Rattle.sl_model.specs.declared.instruction.Instr.{Instr}
use Rattle.sl_model.specs.declared.schedule.Source.{Source}
use Rattle.sl_model.specs.declared.schedule.Source.TheVariants.{Entry, Item}
use Rattle.sl_model.specs.Register.{same_reg}

-- the registers that an instruction reads, in their order
abbrev pub operands : Instr → List Reg
operands i = filter_map (λ r. r) i.ins

-- the registers that it writes, in their order
abbrev pub outputs : Instr → List Reg
outputs i = filter_map (λ r. r) i.outs

-- registers in so many places, as an instruction has them: where there are
-- fewer, the last places are empty
abbrev pub padded : ℕ → List Reg → List (Option Reg)
padded zero regs = []
padded (suc n) [] = None ∷ padded n []
padded (suc n) (r ∷ regs) = Some r ∷ padded n regs

-- at which place, counted from k, a register stands among outputs
unfoldable pub place_from : ℕ → Reg → List Reg → Option ℕ
place_from k r [] = None
place_from k r (out ∷ outs) = if same_reg out r then Some k else place_from (k + 1) r outs

-- an output of an item, where it has one at a place, else an earlier source
abbrev pub output_or : ℕ → Option ℕ → Source → Source
output_or item None earlier = earlier
output_or item (Some place) earlier = Item item place

-- The source of a register below the items above, which are listed from the last to the first: so
-- the number of each is the count of those behind it.
unfoldable pub source_of : Reg → List Instr → Source
source_of r [] = Entry r
source_of r (i ∷ above) = output_or (length above) (place_from 0 r (outputs i)) (source_of r above)

-- the instruction of no item
abbrev pub no_instr : Instr
no_instr = record {
  form = 0;
  wide = false;
  imms = [];
  ins = [];
  outs = [];
  tag = None;
  early = false;
  late = false;
  line = 0;
}

-- the item with a number
abbrev pub item_at : List Instr → ℕ → Instr
item_at items p = slice_index_or items p no_instr

-- the numbers below a number
unfoldable pub numbers_below : ℕ → List ℕ
numbers_below zero = []
numbers_below (suc n) = numbers_below n ++ n ∷ []

-- the sources of the operands of an item, in a straight list
unfoldable pub list_sources : List Instr → ℕ → List Source
list_sources items p = map (λ r. source_of r (reverse (take p items))) (operands (item_at items p))

-- what stands in a register at the end of a list
abbrev pub last_source : List Instr → Reg → Source
last_source items r = source_of r (reverse items)
