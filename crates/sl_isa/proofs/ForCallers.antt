-- The lemmas that other crates cite.
pub use Rattle.sl_isa.proofs.Pairs.{has_pair-longer, number_of-longer, IsFoundAt, number_of-at, IsFrontOf, with_pair-front, has_pair-with, with_pairs-front, with_pairs-take, have_pairs-with, with_pairs-known, with_pairs-count, have_pairs-longer, is_named-longer, IsNamed-longer}
pub use Rattle.sl_isa.proofs.Reading.{knows_words-behind, read_behind-read}
