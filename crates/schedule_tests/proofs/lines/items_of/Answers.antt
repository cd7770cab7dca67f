use Rattle.std.proofs.Common.{◌≡◌, ◌+◌, ◌++◌, [], ◌∷◌, List, length, subst, sym, ap, ◌∙◌, rules}
use Rattle.std.proofs.lemmas.List.{length_push}
use Rattle.sl_model.specs.declared.instruction.Instr.{Instr}
use Rattle.sl_model.specs.Lawful.{AreValid}
use Rattle.sample_set.specs.FewForms.{few}
use Rattle.sl_laws.proofs.Valid.{valid-push}
use Rattle.schedule_tests.proofs.lines.items_of.Goals as goal

pub loop-line-preserved : goal.loop-line-preserved
loop-line-preserved c =
    let items : List Instr = c.loop-line.items.items in
    let more : c.push.new.self.items ≡ items ++ c.in-Some.item ∷ [] = search rules in
    record {
      valid = subst (AreValid few.isa) (sym more) (valid-push few.isa items c.in-Some.item c.loop-line.invariant.valid c.in-Some.ensures);
      count = ap length more ∙ length_push items c.in-Some.item ∙ ap (λ n. n + 1) c.loop-line.invariant.count;
    }
