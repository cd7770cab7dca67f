use Rattle.sl_isa.specs.SymbolViews.{pairs}
use Rattle.arm64_table.specs.Arm64.{arm64}
use Rattle.arm64_table.specs.Laws.{arm64_lawful}
use Rattle.instruction_tests.proofs.ReadForms.{read_is_valid, read_is_named}
use Rattle.instruction_tests.proofs.reading.read.Goals as goal

pub returns-clause-valid : goal.returns-clause-valid
returns-clause-valid c = read_is_valid arm64 arm64_lawful _ (pairs c.args.symbols.now) _ c.read_form.ensures.answer

pub returns-clause-named : goal.returns-clause-named
returns-clause-named c = read_is_named arm64 arm64_lawful _ (pairs c.args.symbols.now) (pairs c.read_form.new.symbols) _ c.read_form.ensures.answer c.read_form.ensures.ok
