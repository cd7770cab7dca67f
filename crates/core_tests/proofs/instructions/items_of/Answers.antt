use Rattle.std.proofs.Common.{subst, sym}
use Rattle.std.specs.Result.{is_ok}
use Rattle.sl_model.specs.Lawful.{AreValid}
use Rattle.sl_laws.proofs.Valid.{valid-push}
use Rattle.core_text.proofs.ForCallers.{pushed}
use Rattle.arm64_table.specs.Arm64.{arm64}
use Rattle.core_tests.proofs.ReadForms.{longer}
use Rattle.core_tests.proofs.instructions.items_of.Goals as goal

pub loop-text-preserved : goal.loop-text-preserved
loop-text-preserved c =
    let grown = pushed (is_ok c.push.result) c.is_err.result c.loop-text.items.items c.push.new.self.items c.in-Ok.item c.push.ensures.items c.if-is_err.false c.is_err.ensures.negation in
    record {
      valid = subst (AreValid arm64.isa) (sym grown) (valid-push arm64.isa c.loop-text.items.items c.in-Ok.item c.loop-text.invariant.valid c.in-Ok.ensures);
      count = longer c.loop-text.items.items c.push.new.self.items c.in-Ok.item c.loop-text.text-index grown c.loop-text.invariant.count;
    }
