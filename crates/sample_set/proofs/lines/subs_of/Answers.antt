use Rattle.std.proofs.Common.{sym, subst}
use Rattle.sl_model.specs.Lawful.{IsValid}
use Rattle.sample_set.specs.FewForms.{few}
use Rattle.sample_set.proofs.FewLemmas.{subs_valid}
use Rattle.sample_set.proofs.lines.subs_of.Goals as goal

pub returns-clause-valid : goal.returns-clause-valid
unfolding few
returns-clause-valid c = subst (IsValid few.isa) (sym c.plain_subs.ensures) (subs_valid c.args.out c.args.from c.args.number c.requires.out c.requires.from c.requires.number)
