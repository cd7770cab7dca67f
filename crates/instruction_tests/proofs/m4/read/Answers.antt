use Rattle.sl_isa.specs.SymbolViews.{pairs}
use Rattle.m4_table.specs.M4.{m4}
use Rattle.m4_table.specs.Laws.{m4_lawful}
use Rattle.instruction_tests.proofs.ReadForms.{read_is_valid, read_is_named}
use Rattle.instruction_tests.proofs.m4.read.Goals as goal

pub returns-clause-valid : goal.returns-clause-valid
returns-clause-valid c = read_is_valid m4 m4_lawful _ (pairs c.args.symbols.now) _ c.read_form.ensures.answer

pub returns-clause-named : goal.returns-clause-named
returns-clause-named c = read_is_named m4 m4_lawful _ (pairs c.args.symbols.now) (pairs c.read_form.new.symbols) _ c.read_form.ensures.answer c.read_form.ensures.ok
