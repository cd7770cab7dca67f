use Rattle.std.proofs.Common.{◌∙◌, sym, map}
use Rattle.macro_expand.proofs.SliceLemmas.{one-piece}
use Rattle.macro_expand.specs.Views.{piece_of}
use Rattle.macro_expand.proofs.KeptLemmas.{rest-is}
use Rattle.macro_expand.proofs.RowLemmas.{notes-pass, notes-more, notes-done, piece-added}
use Rattle.macro_expand.proofs.source.push_notes.Goals as goal

pub loop-token-preserved-then-not-is_note : goal.loop-token-preserved-then-not-is_note
loop-token-preserved-then-not-is_note c = (
  notes-pass c.args.line c.args.tokens.now c.loop-token.token-index _ (map piece_of c.loop-token.out.items) _ c.loop-token-test.true (sym c.is_note.ensures ∙ c.if-not-is_note.true) c.loop-token.invariant.0,
  c.loop-token.invariant.1,
)

pub loop-token-preserved : goal.loop-token-preserved
loop-token-preserved c = (
  notes-more c.args.line c.args.tokens.now c.loop-token.token-index _ c.in_ok-note_words.field-0.now (map piece_of c.loop-token.out.items) (map piece_of c.push.new.self.items) _ c.loop-token-test.true (sym c.is_note.ensures ∙ c.if-not-is_note.false)
      (c.in_ok-note_words.ensures ∙ rest-is _ 11) (piece-added c.loop-token.out.items c.push.new.self.items _ c.in_ok-push.ensures.items) c.loop-token.invariant.0,
  λ texts out. one-piece texts c.loop-token.out.items c.push.new.self.items _ c.in_ok-push.ensures.items tt (c.loop-token.invariant.1 texts out),
)

pub returns-clause-pieces : goal.returns-clause-pieces
returns-clause-pieces c = notes-done c.args.line c.args.tokens.now c.loop-token.token-index (map piece_of c.loop-token.out.items) _ c.loop-token-test.false c.loop-token.invariant.0

pub returns-clause-slices : goal.returns-clause-slices
returns-clause-slices c = c.loop-token.invariant.1
