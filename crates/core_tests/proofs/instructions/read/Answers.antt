use Rattle.core_tests.proofs.ReadForms.{read-is_valid}
use Rattle.core_tests.proofs.instructions.read.Goals as goal

pub returns : goal.returns
returns c = read-is_valid _ _ _ c.read_form.ensures.answer
