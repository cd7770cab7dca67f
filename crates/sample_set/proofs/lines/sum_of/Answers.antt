use Rattle.std.proofs.Common.{sym, subst}
use Rattle.sl_model.specs.Lawful.{IsValid}
use Rattle.sample_set.specs.FewForms.{few}
use Rattle.sample_set.proofs.FewLemmas.{sum_valid}
use Rattle.sample_set.proofs.lines.sum_of.Goals as goal

pub returns-clause-valid : goal.returns-clause-valid
unfolding few
returns-clause-valid c = subst (IsValid few.isa) (sym c.plain_sum.ensures) (sum_valid c.args.out c.args.left c.args.right c.requires.out c.requires.left c.requires.right)
