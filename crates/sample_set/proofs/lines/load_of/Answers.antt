use Rattle.std.proofs.Common.{sym, subst}
use Rattle.sl_model.specs.Lawful.{IsValid}
use Rattle.sample_set.specs.FewForms.{few}
use Rattle.sample_set.proofs.FewLemmas.{load_valid}
use Rattle.sample_set.proofs.lines.load_of.Goals as goal

pub returns-clause-valid : goal.returns-clause-valid
unfolding few
returns-clause-valid c = subst (IsValid few.isa) (sym c.plain_load.ensures) (load_valid c.args.out c.args.base c.args.offset c.args.tag c.requires.out c.requires.base c.requires.offset)
