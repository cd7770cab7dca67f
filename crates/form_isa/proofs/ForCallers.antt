-- The lemmas that other crates cite.
pub use Rattle.form_isa.proofs.CounterSteps.{MakesStep, MakeSteps, step_imms, step_op, general_register, flags_suit, lessened, small, table-steps}
pub use Rattle.form_isa.proofs.Lawful.{not_wide, stored_is}
pub use Rattle.form_isa.proofs.TableLanguage.{table-language}
