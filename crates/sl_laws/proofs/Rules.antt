-- What a choice keeps that breaks no rule.
use Rattle.std.proofs.Common.{◌≡◌, Bool, true, false, not, List, Option, None, Some, if◌then◌else◌, refl}
use Rattle.sl_model.specs.declared.schedule.Choice.{Choice}
use Rattle.sl_model.specs.declared.rules.Rule.{Rule}
use Rattle.sl_model.specs.declared.rules.Rule.TheVariants.{L1, L2, L3, L4, L5, L6, L7}
use Rattle.sl_model.specs.Legal.{Problem, first_broken, keeps_l1, keeps_l2, keeps_l3, keeps_l4, keeps_l5, keeps_l6, keeps_l7}

-- all rules hold of a choice
pub record KeepsRules (problem : Problem) (done : List Choice) (c : Choice) : Type 0 where
  pub l1 : keeps_l1 problem done c ≡ true
  pub l2 : keeps_l2 problem done c ≡ true
  pub l3 : keeps_l3 problem done c ≡ true
  pub l4 : keeps_l4 problem c ≡ true
  pub l5 : keeps_l5 problem done c ≡ true
  pub l6 : keeps_l6 problem c ≡ true
  pub l7 : keeps_l7 problem done c ≡ true

-- where a rule isn't named as broken, it holds, and no later one is broken
rule_kept : (a : Bool) (rule : Rule) (later : Option Rule) → (if not a then Some rule else later) ≡ None → (a ≡ true) × (later ≡ None)
rule_kept true rule later e = (refl, e)
rule_kept false rule later e = absurd (cc)

-- a choice that breaks no rule keeps all
pub keeps_rules : (problem : Problem) (done : List Choice) (c : Choice) → first_broken problem done c ≡ None → KeepsRules problem done c
unfolding first_broken
keeps_rules problem done c none =
    let r1 = rule_kept (keeps_l1 problem done c) L1 _ none in
    let r2 = rule_kept (keeps_l2 problem done c) L2 _ r1.1 in
    let r3 = rule_kept (keeps_l3 problem done c) L3 _ r2.1 in
    let r4 = rule_kept (keeps_l4 problem c) L4 _ r3.1 in
    let r5 = rule_kept (keeps_l5 problem done c) L5 _ r4.1 in
    let r6 = rule_kept (keeps_l6 problem c) L6 _ r5.1 in
    let r7 = rule_kept (keeps_l7 problem done c) L7 _ r6.1 in
    record { l1 = r1.0; l2 = r2.0; l3 = r3.0; l4 = r4.0; l5 = r5.0; l6 = r6.0; l7 = r7.0 }
