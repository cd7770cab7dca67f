-- The lemmas that other crates cite.
pub use Rattle.sl_base.proofs.Taking.{append_known-twice}
