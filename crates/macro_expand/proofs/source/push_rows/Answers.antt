use Rattle.std.proofs.Common.{◌++◌, ℕ, List, ◌≤◌, length, All, map, ap, sym, subst, ◌∙◌, ◌≡◌, rules}
use Rattle.std.proofs.lemmas.List.Elements.{All-head, All-tail}
use Rattle.sl_model.specs.Text.{numbered_lines}
use Rattle.sl_text.specs.Lines.{lines_left}
use Rattle.macro_expand.proofs.SliceLemmas.{lines-cut, slice-in, tokens-cut}
use Rattle.macro_expand.specs.Slices.{AreCutOf, IsSliceOf}
use Rattle.macro_expand.specs.Region.{open_after}
use Rattle.macro_expand.specs.Source.{rows}
use Rattle.macro_expand.specs.Spelled.{lexemes}
use Rattle.macro_expand.specs.Views.{piece_of}
use Rattle.macro_expand.proofs.RowLemmas.{rows-more, rows-done, open-below, open-done}
use Rattle.macro_expand.proofs.source.push_rows.Goals as goal

pub loop-line-preserved : goal.loop-line-preserved
loop-line-preserved c = record {
  rows = rows-more c.args.comments c.loop-line.unclosed c.in_ok-tokens.after (map piece_of c.loop-line.out.items) (map piece_of c.push_row.new.out.items) _
      (lines_left c.loop-line.line-iterator) (lines_left c.next.new.self) c.in-Some.line.number c.in-Some.line.text.now (lexemes c.deref.result.now) c.in-Some.ensures.steps
      (ap lexemes c.deref.ensures.value ∙ c.in_ok-tokens.ensures.tokens) c.in_ok-push_row.ensures.pieces c.in_ok-tokens.ensures.unclosed c.loop-line.invariant.rows;
  unclosed = open-below c.args.comments c.loop-line.unclosed c.in_ok-tokens.after (lines_left c.loop-line.line-iterator) (lines_left c.next.new.self)
      c.in-Some.line.number c.in-Some.line.text.now _ c.in-Some.ensures.steps c.in_ok-tokens.ensures.unclosed c.loop-line.invariant.unclosed;
  short = All-tail (λ (line : ℕ × List ℕ). length line.1 ≤ length c.args.text.now) (c.in-Some.line.number, c.in-Some.line.text.now) (lines_left c.next.new.self)
      (subst (All (λ line. length line.1 ≤ length c.args.text.now)) c.in-Some.ensures.steps c.loop-line.invariant.short);
  within = All-tail (λ (line : ℕ × List ℕ). IsSliceOf c.args.text.now line.1) (c.in-Some.line.number, c.in-Some.line.text.now) (lines_left c.next.new.self)
      (subst (All (λ line. IsSliceOf c.args.text.now line.1)) c.in-Some.ensures.steps c.loop-line.invariant.within);
  slices = λ texts text out.
      let line : IsSliceOf c.args.text.now c.in-Some.line.text.now = All-head (λ (line : ℕ × List ℕ). IsSliceOf c.args.text.now line.1) (c.in-Some.line.number, c.in-Some.line.text.now) (lines_left c.next.new.self)
      (subst (All (λ line. IsSliceOf c.args.text.now line.1)) c.in-Some.ensures.steps c.loop-line.invariant.within) in
      c.in_ok-push_row.ensures.slices texts (slice-in texts c.args.text.now c.in-Some.line.text.now text line)
      (subst (AreCutOf c.in-Some.line.text.now) (sym (ap lexemes c.deref.ensures.value ∙ c.in_ok-tokens.ensures.tokens)) (tokens-cut c.args.comments c.loop-line.unclosed c.in-Some.line.text.now))
      (c.loop-line.invariant.slices texts text out);
}

pub returns-clause-rows : goal.returns-clause-rows
returns-clause-rows c = rows-done c.args.comments c.loop-line.unclosed (map piece_of c.loop-line.out.items) _ (lines_left c.loop-line.line-iterator) c.in-None.ensures.steps.0 c.loop-line.invariant.rows

pub returns-clause-unclosed : goal.returns-clause-unclosed
returns-clause-unclosed c = open-done c.args.comments c.loop-line.unclosed _ (lines_left c.loop-line.line-iterator) c.in-None.ensures.steps.0 c.loop-line.invariant.unclosed

pub loop-line-init : goal.loop-line-init
loop-line-init c =
    let all : lines_left c.into_iter-line-iterator.result ≡ numbered_lines c.args.first c.args.text.now = search rules in record {
      rows = ap (λ ls. map piece_of c.args.out.now.items ++ rows c.args.comments c.args.inside ls) all;
      unclosed = ap (open_after c.args.comments c.args.inside) all;
      short = search rules;
      within = subst (All (λ line. IsSliceOf c.args.text.now line.1)) (sym all) (lines-cut c.args.first c.args.text.now);
      slices = λ texts text out. out;
    }

pub returns-clause-slices : goal.returns-clause-slices
returns-clause-slices c = c.loop-line.invariant.slices
