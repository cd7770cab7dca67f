-- A lower register of one kind that would do, as a test of one register.
use Rattle.std.proofs.Common.{ℕ, Bool, ◌&&◌, not, nat_lt, List, length}
use Rattle.std.specs.List.{list_any}
use Rattle.sl_model.specs.declared.register.Reg.{Reg}
use Rattle.sl_model.specs.declared.schedule.Choice.{Choice}
use Rattle.sl_model.specs.Register.{same_reg}
use Rattle.sl_model.specs.RegSets.{bit_of}
use Rattle.sl_model.specs.Legal.{Problem}
use Rattle.sl_model.specs.Space.{same_kind, could_take, is_taken}
use Rattle.search_space.specs.Trials.{may_go, is_read_from}

-- could an output of a choice go to it?
abbrev pub could_go : Problem → List Choice → Choice → ℕ → Reg → Reg → Bool
could_go problem done c place r other =
    nat_lt (bit_of other.bank other.number) (bit_of r.bank r.number)
    && (same_kind problem r other && (could_take problem done c place other && not (is_taken problem c place other)))

-- could the output behind some others?
abbrev pub is_better : Problem → List Choice → ℕ → List Reg → Reg → Reg → Bool
is_better problem done item front r other =
    nat_lt (bit_of other.bank other.number) (bit_of r.bank r.number)
    && (same_kind problem r other && (may_go problem done item (length front) other
    && (not (list_any (λ q. same_reg q other) front) && not (is_read_from problem done item other))))
