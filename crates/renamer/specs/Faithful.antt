-- What it means that a list of choices computes what its body computes.
use Rattle.std.specs.Prelude.{ℕ, ◌≡◌, true, [], List, length, reverse}
use Rattle.std.specs.List.{list_all}
use Rattle.sl_model.specs.declared.register.Reg.{Reg}
use Rattle.sl_model.specs.declared.instruction.Instr.{Instr}
use Rattle.sl_model.specs.declared.schedule.Choice.{Choice}
use Rattle.sl_model.specs.Source.{operands, item_at, last_source, list_sources, numbers_below}
use Rattle.sl_model.specs.State.{State, read, byte}
use Rattle.sl_model.specs.Graph.{IsOnce, comes_from}
use Rattle.sl_model.specs.Isa.{Isa}
use Rattle.sl_model.specs.Exec.{Touch, run, touches}
use Rattle.sl_model.specs.Body.{Body, flow_of, source_value, held, applied, above, stands_in, IsFaithfulFrom, is_full}
use Rattle.sl_model.specs.Lawful.{IsLawful, IsValid}
use Rattle.sl_model.specs.Program.{times_of, TagsHoldOf}
use Rattle.sl_model.specs.Machine.{space_of}

-- What a body needs to have a meaning: its items are instructions of the set, each has a source for
-- each operand, each source is an entry or stands above, and no item stands twice.
pub record IsSound (isa : Isa) (body : Body) : Type 0 where
  pub items : (p : ℕ) → stands_in p body.order ≡ true → IsValid isa (body.instr p)
  pub operands_have : (p : ℕ) → stands_in p body.order ≡ true
      → length (body.sources p) ≡ length (operands (body.instr p))
  pub sources_above : (p : ℕ) → stands_in p body.order ≡ true
      → list_all (comes_from (above p body.order)) (body.sources p) ≡ true
  pub once : IsOnce body.order

-- The run of a schedule's instructions leaves, from a state, what the body's flow gives:
-- each register has the value of the source that it holds, each address reads the same byte,
-- and each access is made as often.
pub record Carries (isa : Isa) (body : Body) (schedule : List Choice) (s : State) : Type 0 where
  pub registers : (r : Reg)
      → read (run isa (applied body schedule) s) r
      ≡ source_value s (flow_of isa body s).values (held (reverse schedule) r)
  pub bytes : (address : ℕ)
      → byte (run isa (applied body schedule) s).memory address
      ≡ byte (flow_of isa body s).memory address
  pub access_counts : (a : Touch)
      → times_of a (touches isa (applied body schedule) s) ≡ times_of a (flow_of isa body s).touches

-- A full list of faithful choices carries out the body, from every state in which accesses of the
-- body's flow that are tagged apart share no byte.
abbrev pub FaithfulOrderCarries : Type 0
FaithfulOrderCarries =
    (isa : Isa) (body : Body) (schedule : List Choice) (s : State) → IsLawful isa → IsSound isa body
    → IsFaithfulFrom isa body [] schedule → is_full body.order schedule ≡ true
    → TagsHoldOf (space_of isa.name) (flow_of isa body s).touches → Carries isa body schedule s

-- a list of items as a body, in its own order with its own sources
abbrev pub own_body : List Instr → Body
own_body items =
    record {
      instr = item_at items;
      sources = list_sources items;
      order = numbers_below (length items);
    }

-- The flow of a list's own body is its run: each register has the value of its last source, the
-- memory and the accesses are the same.
pub record FlowIsRun (isa : Isa) (items : List Instr) (s : State) : Type 0 where
  pub registers : (r : Reg)
      → read (run isa items s) r
      ≡ source_value s (flow_of isa (own_body items) s).values (last_source items r)
  pub memory : (run isa items s).memory ≡ (flow_of isa (own_body items) s).memory
  pub accesses : touches isa items s ≡ (flow_of isa (own_body items) s).touches
