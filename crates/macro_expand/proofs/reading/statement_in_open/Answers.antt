use Rattle.std.proofs.Common.{◌≡◌, ap, sym, ◌∙◌, codes, false, length, eqb}
use Rattle.macro_expand.proofs.SliceLemmas.{no-parts}
use Rattle.macro_expand.specs.Words.{words, is_directive, is_empty}
use Rattle.macro_expand.specs.Spelled.{lexemes, spelled}
use Rattle.macro_expand.specs.Views.{open_of, reading_of}
use Rattle.macro_expand.proofs.CycleLemmas.{none-before, empty-same}
use Rattle.macro_expand.proofs.ReadingLemmas.{open-kept}
use Rattle.macro_expand.proofs.reading.statement_in_open.Goals as goal

pub returns-clause-reading : goal.returns-clause-reading
returns-clause-reading c =
    let text = spelled c.args.parts.now in
    let spelt : c.deref.result.now ≡ text = c.deref.ensures ∙ c.in_ok-text.ensures in
    let goes : is_directive (codes "endm") (words text) ≡ false =
    ap (is_directive (codes "endm")) (sym (ap lexemes c.deref-2.ensures.value ∙ c.in_ok-words.ensures ∙ ap words spelt)) ∙ sym c.is_directive.ensures ∙ c.if-is_directive.false in
    let quiet : c.is_empty.result ≡ is_empty text = c.is_empty.ensures ∙ ap (λ t. eqb (length t) 0) (c.as_str.ensures.value ∙ c.in_ok-text.ensures) ∙ empty-same text in
    open-kept (open_of c.args.opened) c.args.line text (spelled c.push_kept.new.out.items) c.is_empty.result (reading_of c.args.reading.now) (reading_of c.keep.new.reading) goes
    (c.in_ok-push_kept.ensures.text ∙ none-before c.new-kept.result.items _ c.new-kept.ensures.items) quiet c.in_ok-keep.ensures.reading

pub returns-clause-slices : goal.returns-clause-slices
returns-clause-slices c texts opened parts reading =
    c.in_ok-keep.ensures.slices texts opened (c.in_ok-push_kept.ensures.slices texts parts (no-parts texts c.new-kept.result.items c.new-kept.ensures.items)) reading
