-- The lemmas that other crates cite.
pub use Rattle.machine_sem.proofs.Fitting.{new_fits, write_fits, put_fits}
