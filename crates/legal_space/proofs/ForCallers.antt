-- The lemmas that other crates cite.
pub use Rattle.legal_space.proofs.Units.{no_bit_past}
pub use Rattle.legal_space.proofs.TimesLemmas.{has_cycles-none, has_cycles-more, early-none, early-more}
