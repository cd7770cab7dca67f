-- The lemmas that other crates cite.
pub use Rattle.renamer.proofs.LegalityRules.{suits_operands}
pub use Rattle.renamer.proofs.Renaming.{applied-renames, applied-spelled}
pub use Rattle.renamer.proofs.StraightLeaves.{straight-leaves}
pub use Rattle.renamer.proofs.StraightPosed.{Makes, makes-last, straight-sound, straight-well_posed}
pub use Rattle.renamer.proofs.SoundGraph.{IsSoundGraph, sound-body, info-is}
