use Rattle.std.proofs.Common.{ℕ, ◌<◌, ◌^◌, ◌≡◌, sym, subst, rules}
use Rattle.sl_model.specs.declared.register.Bank.{Bank}
use Rattle.sl_model.specs.declared.register.Bank.TheVariants.{General}
use Rattle.sample_set.specs.FewForms.{few, few_isa}
use Rattle.sample_set.specs.Laws.{few_language}
use Rattle.text_tests.proofs.running.start.Goals as goal
use Rattle.sl_model.specs.Machine.{limit_of}

small : (bank : Bank) (value : ℕ) → bank ≡ General → value < 2 ^ 64 → value < limit_of few.isa.name bank
unfolding few few_isa
small bank value is fits = subst (λ b. value < limit_of few.isa.name b) (sym is) fits

pub returns : goal.returns
returns c =
    c.set_reg-2.ensures.fits few.isa few_language.set (small _ _ c.x-2.ensures (search rules))
    (c.set_reg.ensures.fits few.isa few_language.set (small _ _ c.x.ensures (search rules))
    (c.new-state.ensures.fits few.isa few_language.set))
