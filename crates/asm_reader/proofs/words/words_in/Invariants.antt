use Rattle.std.proofs.Common.{◌≡◌, ◌++◌, map, filter, drop}
use Rattle.asm_reader.specs.WordViews.{word_values}
use Rattle.asm_reader.specs.Notes.{word_of, words_in, is_some_text}
use Rattle.asm_reader.proofs.words.words_in.Given as goal

-- the words so far, with those of the pieces that are left, are all
abbrev pub invariant-loop-piece : goal.invariant-loop-piece
invariant-loop-piece l =
    word_values l.words.items ++ map word_of (filter is_some_text (map (λ piece. piece.now) (drop l.piece-index l.piece-items)))
    ≡ words_in l.fn.text
