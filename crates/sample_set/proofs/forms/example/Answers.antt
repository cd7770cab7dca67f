use Rattle.std.proofs.Common.{sym, subst}
use Rattle.sl_model.specs.Lawful.{IsValid}
use Rattle.sample_set.specs.FewForms.{few}
use Rattle.sample_set.proofs.FewLemmas.{example_valid}
use Rattle.sample_set.proofs.forms.example.Goals as goal

pub returns : goal.returns
unfolding few
returns c = subst (IsValid few.isa) (sym c.example_of.ensures) (example_valid c.args.form c.args.number c.requires.known c.requires.small)
