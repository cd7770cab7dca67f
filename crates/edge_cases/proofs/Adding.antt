-- The example is lawful, its items valid, its schedule legal.
use Rattle.std.proofs.Common.{◌≡◌, ℕ, zero, suc, ◌+◌, ◌^◌, ◌<◌, true, ◌&&◌, List, [], ◌∷◌, refl, sym, ap, true≢false, arith, mod-lt, lt-ltb, slice_index}
use Rattle.std.proofs.lemmas.Bool.{and_parts, ltb-true}
use Rattle.std.specs.Prelude.{Bool, false, nat_lt}
use Rattle.std.specs.List.{list_all, zip}
use Rattle.sl_model.specs.declared.register.Bank.{Bank}
use Rattle.sl_model.specs.declared.register.Bank.TheVariants.{General, Vector, Flags, Stack}
use Rattle.sl_model.specs.declared.register.Reg.{Reg}
use Rattle.sl_model.specs.declared.instruction.ArchName.TheVariants.{M4}
use Rattle.sl_model.specs.Machine.{limit_of}
use Rattle.sl_model.specs.Register.{same_reg}
use Rattle.sl_model.specs.RegSets.{set_has, set_count, set_of, regs_in, machine_regs}
use Rattle.sl_model.specs.Source.{outputs, place_from, source_of, list_sources, numbers_below}
use Rattle.sl_model.specs.Body.{applied, applied_from, are_apart, conflict, is_placed, held, placed_in, is_still_held, above, stands_in, all_differ}
use Rattle.sl_model.specs.Lawful.{IsLawful, AreValid, fit, suits_set}
use Rattle.sl_model.specs.Graph.{body_of}
use Rattle.sl_model.specs.Legal.{IsFullLegal, first_broken}
use Rattle.edge_cases.specs.Example.{adding_isa, adding_form, all_general, adding_items, adding_problem, adding_schedule, add, general, BreakRules}

-- a register where a general one may stand takes a value of 32 bits
fit-bank : (bank : Bank) (symbolic : Bool) (number value : ℕ) → suits_set (record { bank = bank; symbolic = symbolic; number = number }, all_general) ≡ true → value < 2 ^ 32 → nat_lt value (limit_of M4 bank) ≡ true
unfolding set_has
fit-bank General symbolic number value suits lt = lt-ltb value (2 ^ 32) lt
fit-bank Vector symbolic number value suits lt = lt-ltb value (2 ^ 32) lt
fit-bank Flags true number value suits lt = absurd (true≢false (sym suits))
fit-bank Flags false number value suits lt = absurd (true≢false (sym suits))
fit-bank Stack symbolic number value suits lt = lt-ltb value (2 ^ 32) lt

-- one value fits where it is below the limit
fit-one : (regs : List Reg) (value : ℕ) → value < 2 ^ 32 → list_all suits_set (zip regs adding_form.out_sets) ≡ true → fit adding_isa regs (value ∷ []) ≡ true
fit-one [] value lt suits = refl
fit-one (r ∷ []) value lt suits = ap (λ b. b && true) (fit-bank r.bank r.symbolic r.number value (and_parts _ _ suits).0 lt)
fit-one (r ∷ q ∷ regs) value lt suits = ap (λ b. b && true) (fit-bank r.bank r.symbolic r.number value (and_parts _ _ suits).0 lt)

-- registers have values
lt_two_pow : 0 < 2 ^ 32
lt_two_pow = omega arith

-- the set is lawful
pub adding-lawful : IsLawful adding_isa
unfolding set_has set_count
adding-lawful = record {
  known = λ op valid. ltb-true op.form 1 valid;
  sizes = λ form. omega arith;
  offset_low = λ op valid. omega arith;
  offset_high = λ op valid. omega arith;
  writable = λ form. refl;
  base = λ form has. absurd (true≢false (sym has));
  value_count = λ i ins loaded valid given found. sym valid.output_count;
  values_fit = λ i ins loaded valid given found fits bytes. fit-one (outputs i) _ (mod-lt (slice_index ins 0 + slice_index ins 1) lt_two_pow) valid.output_classes;
  stored_count = λ i ins valid stores given. absurd (true≢false (sym stores));
  stored_fit = λ i ins valid stores given. refl;
}

-- the items are valid
pub adding-valid : AreValid adding_isa adding_items
unfolding set_has set_count all_differ place_from same_reg
adding-valid zero within = record { op = refl; ins_shape = refl; outs_shape = refl; operand_count = refl; output_count = refl; operand_classes = refl; output_classes = refl; distinct = refl; tied = refl; base_apart = refl }
adding-valid (suc zero) within = record { op = refl; ins_shape = refl; outs_shape = refl; operand_count = refl; output_count = refl; operand_classes = refl; output_classes = refl; distinct = refl; tied = refl; base_apart = refl }
adding-valid (suc (suc zero)) within = record { op = refl; ins_shape = refl; outs_shape = refl; operand_count = refl; output_count = refl; operand_classes = refl; output_classes = refl; distinct = refl; tied = refl; base_apart = refl }
adding-valid (suc (suc (suc p))) within = absurd (omega arith)

-- the schedule is legal and full
pub adding-legal : IsFullLegal adding_problem adding_schedule
unfolding set_has set_of regs_in machine_regs all_differ place_from same_reg source_of list_sources are_apart conflict is_placed held placed_in is_still_held above stands_in first_broken numbers_below
adding-legal =
    record {
      legal = (record { of = record { known = refl; shape = refl; outputs_given = refl }; rules = refl }, (record { of = record { known = refl; shape = refl; outputs_given = refl }; rules = refl }, (record { of = record { known = refl; shape = refl; outputs_given = refl }; rules = refl }, tt)));
      full = refl;
    }

-- and this is what it applies to
pub adding-applied : applied (body_of adding_problem.graph) adding_schedule ≡ add (general 4) (general 0) (general 0) ∷ add (general 3) (general 0) (general 0) ∷ add (general 2) (general 3) (general 3) ∷ []
unfolding place_from same_reg source_of list_sources placed_in applied_from numbers_below
adding-applied = refl

-- choices that break a rule
pub adding-broken : BreakRules
unfolding set_has set_of regs_in machine_regs all_differ place_from same_reg source_of list_sources are_apart conflict is_placed held placed_in is_still_held above stands_in first_broken numbers_below
adding-broken = record { twice = refl; too_early = refl; foreign = refl; over_final = refl }
