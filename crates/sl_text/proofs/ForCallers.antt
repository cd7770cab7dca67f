-- The lemmas that other crates cite.
pub use Rattle.sl_text.proofs.TokenLemmas.{open_behind_end, open_behind_same, tokens_yield}
