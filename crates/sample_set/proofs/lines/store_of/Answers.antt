use Rattle.std.proofs.Common.{sym, subst}
use Rattle.sl_model.specs.Lawful.{IsValid}
use Rattle.sample_set.specs.FewForms.{few}
use Rattle.sample_set.proofs.FewLemmas.{store_valid}
use Rattle.sample_set.proofs.lines.store_of.Goals as goal

pub returns-clause-valid : goal.returns-clause-valid
unfolding few
returns-clause-valid c = subst (IsValid few.isa) (sym c.plain_store.ensures) (store_valid c.args.value c.args.base c.args.step c.args.tag c.requires.value c.requires.base c.requires.apart c.requires.step)
