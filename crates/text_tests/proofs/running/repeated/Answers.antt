use Rattle.std.proofs.Common.{rules, ◌≡◌, replicate, sym, subst}
use Rattle.std.specs.List.{AllByRecursion}
use Rattle.sl_model.specs.Lawful.{IsValid}
use Rattle.sample_set.specs.FewForms.{few}
use Rattle.text_tests.proofs.Repeated.{all_replicate}
use Rattle.text_tests.proofs.running.repeated.Goals as goal

pub returns : goal.returns
returns c =
    let are : c.in_ok-items.items.items ≡ replicate c.args.count c.args.item = search rules in
    subst (AllByRecursion (IsValid few.isa)) (sym are) (all_replicate (IsValid few.isa) c.args.item c.requires c.args.count)
