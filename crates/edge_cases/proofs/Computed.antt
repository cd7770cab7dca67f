-- The values at the edges, computed.
use Rattle.std.proofs.Common.{refl, arith}
use Rattle.sl_model.specs.Register.{same_reg}
use Rattle.sl_model.specs.RegSets.{set_has, set_of, regs_in, machine_regs}
use Rattle.sl_model.specs.Source.{place_from, source_of, list_sources, numbers_below}
use Rattle.sl_model.specs.State.{read, load, store}
use Rattle.sl_model.specs.Isa.{address_at}
use Rattle.sl_model.specs.Exec.{run, touches}
use Rattle.sl_model.specs.Cycles.{issued_at, first_slot, unit_free, next_cycle, issued_from}
use Rattle.sl_model.specs.Body.{are_apart, conflict, is_placed, held, placed_in, is_still_held, above, stands_in, all_differ}
use Rattle.sl_model.specs.Legal.{first_broken}
use Rattle.edge_cases.specs.Edges.{OfNothing, OfZero, OfLastAddress, OfWidths, OfOneItem, OfFrames, OfAccesses}
use Rattle.edge_cases.proofs.States.{first-value, second-value}

pub of-nothing : OfNothing
unfolding run touches source_of numbers_below
of-nothing = record {
  no_cycle = refl;
  no_stall = λ width. omega arith;
  same_state = λ isa s. refl;
  no_access = λ isa s. refl;
  entries_stay = λ r. refl;
  schedule = λ isa frame costs. record { legal = tt; full = refl };
}

pub of-zero : OfZero
unfolding read
of-zero = record { reads_zero = λ s. refl; stays_zero = λ value s. refl; vector = refl; symbol = refl; stack = refl }

pub of-last-address : OfLastAddress
unfolding load store address_at
of-last-address = record {
  behind = refl;
  before = refl;
  loaded = λ memory. refl;
  stored = λ memory a b. refl;
  shared = (1, 0, omega arith, omega arith, refl);
  turns = refl;
}

pub of-widths : OfWidths
unfolding issued_at first_slot unit_free next_cycle issued_from
of-widths = record { one = refl; one_full = refl; eight = refl; eight_full = refl; one_unit = refl; in_order = refl; waited = refl }

pub of-one-item : OfOneItem
unfolding set_has set_of regs_in machine_regs all_differ place_from same_reg source_of list_sources are_apart conflict is_placed held placed_in is_still_held above stands_in first_broken numbers_below
of-one-item = record {
  first_reads = refl;
  second_reads = refl;
  last = refl;
  first_value = first-value;
  second_value = second-value;
  outputs_held = refl;
  may_overwrite = refl;
  not_before = refl;
  in_one_register = refl;
  schedule = record {
    legal = (record { of = record { known = refl; shape = refl; outputs_given = refl }; rules = refl }, (record { of = record { known = refl; shape = refl; outputs_given = refl }; rules = refl }, tt));
    full = refl;
  };
}

pub of-frames : OfFrames
unfolding set_has set_of regs_in machine_regs numbers_below place_from same_reg source_of
of-frames = record {
  ascending = refl;
  live_unless_given = refl;
  live_given = refl;
  none_live = refl;
  allowed = refl;
  free = refl;
  free_not_live = refl;
  symbolic = refl;
  finals = refl;
  counter = refl;
  kept = λ decrement. refl;
}

pub of-accesses : OfAccesses
unfolding place_from same_reg source_of list_sources are_apart conflict numbers_below
of-accesses = record {
  touching = refl;
  by_one_byte = refl;
  with_a_load = refl;
  two_loads = refl;
  no_access = refl;
  another_base = refl;
  one_tag = refl;
  tags_differ = refl;
}
