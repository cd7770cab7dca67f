use Rattle.std.proofs.Common.{◌≡◌, ◌-◌, true, false, cond, length, eqb, ap, sym, ◌∙◌, map, subst, Ok, Some, None, option_map}
use Rattle.std.proofs.lemmas.Result.{err_from_is_err_and}
use Rattle.macro_expand.specs.Slices.{AreBody, AreLists, AreSlices, HasSlices}
use Rattle.macro_expand.proofs.SliceLemmas.{no-parts}
use Rattle.macro_expand.specs.Words.{words, arguments}
use Rattle.macro_expand.specs.Filled.{value_of, filled, has_unknown}
use Rattle.macro_expand.specs.Source as source
use Rattle.macro_expand.specs.Source.{parted}
use Rattle.macro_expand.specs.Spelled.{lexemes, spelled, spelled_lists, names_in}
use Rattle.sl_model.specs.Answers.{Gives}
use Rattle.macro_expand.specs.Views.{known_of, what_of, macro_of, macro_names, step_at, refusal_of}
use Rattle.macro_expand.specs.Expansion as spec
use Rattle.sl_model.specs.ResultSteps.{◌>>=◌}
use Rattle.macro_expand.specs.Expansion.{refused}
use Rattle.macro_expand.specs.declared.reasons.ExpandReason.TheVariants as reason
use Rattle.macro_expand.proofs.CycleLemmas.{Refuses, all-more, all-fails, all-done, turn-more, turn-fails, turn-done, fails-on, run-too-deep, counted-run, run-counts, run-expands, statement-by, statement-defines, statement-with, as-many, none-before}
use Rattle.macro_expand.proofs.expansion.+expansion.Goals as goal

pub expand_all-returns-in_err-expand_one-clause-known : goal.expand_all-returns-in_err-expand_one-clause-known
expand_all-returns-in_err-expand_one-clause-known t c =
    let p = err_from_is_err_and c.from_residual.result c.from_residual.ensures.1 in
    let step = step_at c.args.place in
    let line = c.args.place.line in
    let values = value_of (names_in c.args.names.now) (spelled_lists c.args.values.now) in
    let failure = c.in_err-expand_one.field-0.0 in
    let known = known_of c.loop-what.known in
    rw (p.1, p.2) (all-fails step line values c.args.body.now c.loop-what.what-index c.what-item.result known _ failure c.loop-what-test.true
    (subst (λ w. Refuses failure (spec.expand_one step line values (what_of w) known)) c.what-item.is c.in_err-expand_one.ensures.known) c.loop-what.invariant.0)

pub expand_all-loop-what-preserved : goal.expand_all-loop-what-preserved
expand_all-loop-what-preserved t c =
    let step = step_at c.args.place in
    let line = c.args.place.line in
    let values = value_of (names_in c.args.names.now) (spelled_lists c.args.values.now) in
    let known = known_of c.loop-what.known in (
      all-more step line values c.args.body.now c.loop-what.what-index c.what-item.result known (known_of c.expand_one.new.known) _ c.loop-what-test.true
          (ap (λ w. spec.expand_one step line values (what_of w) known) (sym c.what-item.is) ∙ c.in_ok-expand_one.ensures.known) c.loop-what.invariant.0,
      λ texts macros lists body so_far.
          c.in_ok-expand_one.ensures.slices texts macros lists (subst (HasSlices texts) (sym c.what-item.is) (body.each c.loop-what.what-index c.what-item.result c.loop-what-test.true))
          (c.loop-what.invariant.1 texts macros lists body so_far),
    )

pub expand_all-returns-clause-known : goal.expand_all-returns-clause-known
expand_all-returns-clause-known t c =
    all-done (step_at c.args.place) c.args.place.line (value_of (names_in c.args.names.now) (spelled_lists c.args.values.now)) c.args.body.now c.loop-what.what-index (known_of c.loop-what.known) _ c.loop-what-test.false c.loop-what.invariant.0

pub expand_all-returns-clause-slices : goal.expand_all-returns-clause-slices
expand_all-returns-clause-slices t c = c.loop-what.invariant.1

pub expand_statement-loop-list-init : goal.expand_statement-loop-list-init
expand_statement-loop-list-init t c =
    let values = value_of (names_in c.args.names.now) (spelled_lists c.args.values.now) in
    let text = spelled c.args.parts.now in
    let known = known_of c.args.known.now in
    let lists : spelled_lists c.deref-list-items.result.now ≡ parted (filled values 0 text) =
    ap spelled_lists c.deref-list-items.ensures.value ∙ c.in_ok-lists.ensures.text
    ∙ ap parted (ap spelled c.deref.ensures.value ∙ c.in_ok-unknown.ensures.filled ∙ none-before c.new-filled.result.items (filled values 0 text) c.new-filled.ensures.items) in (
      ap (λ u. spec.in_turn (step_at c.args.place u) (spelled_lists c.deref-list-items.result.now) known) c.in_ok-unknown.ensures.unknown
          ∙ ap (λ ls. spec.in_turn (step_at c.args.place (has_unknown values 0 text)) ls known) lists,
      λ texts macros lists parts known. known,
    )

pub expand_statement-returns-in_err-statement-clause-known : goal.expand_statement-returns-in_err-statement-clause-known
expand_statement-returns-in_err-statement-clause-known t c =
    let p = err_from_is_err_and c.from_residual-in_err-statement.result c.from_residual-in_err-statement.ensures.1 in
    let step = step_at c.args.place c.in_ok-unknown.unknown in
    let failure = c.in_err-statement.field-0.0 in
    let known = known_of c.loop-list.known in
    let parts = ap spelled (c.deref-in-loop-list.ensures.value ∙ ap (λ v. v.items) c.list-item.is) in
    rw (p.1, p.2) (turn-fails step c.deref-list-items.result.now c.loop-list.list-index c.list-item.result known _ failure c.loop-list-test.true
    (subst (λ text. Refuses failure (step text known)) parts c.in_err-statement.ensures.known) c.loop-list.invariant.0)

pub expand_statement-loop-list-preserved : goal.expand_statement-loop-list-preserved
expand_statement-loop-list-preserved t c =
    let step = step_at c.args.place c.in_ok-unknown.unknown in
    let known = known_of c.loop-list.known in
    let parts = ap spelled (c.deref-in-loop-list.ensures.value ∙ ap (λ v. v.items) c.list-item.is) in (
      turn-more step c.deref-list-items.result.now c.loop-list.list-index c.list-item.result known (known_of c.statement.new.known) _ c.loop-list-test.true
          (ap (λ text. step text known) (sym parts) ∙ c.in_ok-statement.ensures.known) c.loop-list.invariant.0,
      λ texts macros lists slices so_far.
          let filled = c.in_ok-unknown.ensures.slices texts slices lists (no-parts texts c.new-filled.result.items c.new-filled.ensures.items) in
          let all = c.in_ok-lists.ensures.slices texts (subst (AreSlices texts) (sym c.deref.ensures.value) filled) in
          let item = subst (AreLists texts) (sym c.deref-list-items.ensures.value) all c.loop-list.list-index c.list-item.result c.loop-list-test.true in
          c.in_ok-statement.ensures.slices texts macros (subst (AreSlices texts) (sym (c.deref-in-loop-list.ensures.value ∙ ap (λ v. v.items) c.list-item.is)) item) (c.loop-list.invariant.1 texts macros lists slices so_far),
    )

pub expand_statement-returns-clause-known : goal.expand_statement-returns-clause-known
expand_statement-returns-clause-known t c =
    turn-done (step_at c.args.place c.in_ok-unknown.unknown) c.deref-list-items.result.now c.loop-list.list-index (known_of c.loop-list.known) _ c.loop-list-test.false c.loop-list.invariant.0

pub expand_statement-returns-clause-slices : goal.expand_statement-returns-clause-slices
expand_statement-returns-clause-slices t c = c.loop-list.invariant.1

pub run-returns-then-place-eq0-clause-known : goal.run-returns-then-place-eq0-clause-known
run-returns-then-place-eq0-clause-known t c =
    rw c.refused.ensures (run-too-deep (macro_names c.args.place.macros.now) c.args.place.deeper c.args.place.line c.args.text.now (value_of (names_in c.args.names.now) (spelled_lists c.args.values.now)) (map what_of c.args.body.now) (known_of c.args.known.now) c.if-place-eq0.true)

pub run-returns-in_err-count-clause-known : goal.run-returns-in_err-count-clause-known
run-returns-in_err-count-clause-known t c =
    let p = err_from_is_err_and c.from_residual.result c.from_residual.ensures.1 in
    let macros = macro_names c.args.place.macros.now in
    let deeper = c.args.place.deeper in
    let line = c.args.place.line in
    let text = c.args.text.now in
    let values = value_of (names_in c.args.names.now) (spelled_lists c.args.values.now) in
    let body = map what_of c.args.body.now in
    let known = known_of c.args.known.now in
    let failure = c.in_err-count.field-0.0 in
    rw (p.1, p.2) (subst (Refuses failure) (sym (run-counts macros deeper line text values body known c.if-place-eq0.false))
    (fails-on failure (spec.count line text known) (counted-run macros (deeper - 1) line values body) c.in_err-count.ensures.known))

pub run-returns-in_err-expand_all-clause-known : goal.run-returns-in_err-expand_all-clause-known
run-returns-in_err-expand_all-clause-known t c =
    let p = err_from_is_err_and c.from_residual-in_err-expand_all.result c.from_residual-in_err-expand_all.ensures.1 in
    let macros = macro_names c.args.place.macros.now in
    let deeper = c.args.place.deeper in
    let line = c.args.place.line in
    let text = c.args.text.now in
    let values = value_of (names_in c.args.names.now) (spelled_lists c.args.values.now) in
    let body = map what_of c.args.body.now in
    let known = known_of c.args.known.now in
    let begun = known_of c.give.new.known in
    let failure = c.in_err-expand_all.field-0.0 in
    rw (p.1, p.2) (subst (Refuses failure) (sym (run-expands macros deeper line text values body known (known_of c.count.new.known) begun c.if-place-eq0.false c.in_ok-count.ensures.known c.in_ok-give.ensures.known))
    (fails-on failure (spec.expand_all (spec.statement macros (spec.run macros (deeper - 1)) line) line values body begun) (λ done. Ok (spec.give line source.Invoked done)) c.in_err-expand_all.ensures.known))

pub run-returns-clause-known : goal.run-returns-clause-known
run-returns-clause-known t c =
    let macros = macro_names c.args.place.macros.now in
    let deeper = c.args.place.deeper in
    let line = c.args.place.line in
    let text = c.args.text.now in
    let values = value_of (names_in c.args.names.now) (spelled_lists c.args.values.now) in
    let body = map what_of c.args.body.now in
    let known = known_of c.args.known.now in
    let begun = known_of c.give.new.known in
    run-expands macros deeper line text values body known (known_of c.count.new.known) begun c.if-place-eq0.false c.in_ok-count.ensures.known c.in_ok-give.ensures.known
    ∙ ap (λ r. r >>= λ done. Ok (spec.give line source.Invoked done)) c.in_ok-expand_all.ensures.known
    ∙ ap Ok (sym c.in_ok-give-2.ensures.known)

pub statement-returns-then-is_directive-clause-known : goal.statement-returns-then-is_directive-clause-known
statement-returns-then-is_directive-clause-known t c =
    let text = spelled c.args.parts.now in
    let spelt = c.deref.ensures ∙ c.in_ok-text.ensures in
    let tokens : lexemes c.deref-2.result.now ≡ words text = ap lexemes c.deref-2.ensures.value ∙ c.in_ok-words.ensures ∙ ap words spelt in
    rw c.refused.ensures (statement-defines (macro_names c.args.place.macros.now) (spec.run (macro_names c.args.place.macros.now) c.args.place.deeper) c.args.place.line c.args.unknown text (known_of c.args.known.now)
    (ap spec.is_macro_head (sym tokens) ∙ sym c.is_directive.ensures ∙ c.if-is_directive.true))

pub statement-returns-then-unknown-clause-known : goal.statement-returns-then-unknown-clause-known
statement-returns-then-unknown-clause-known t c =
    let text = spelled c.args.parts.now in
    let macros = macro_names c.args.place.macros.now in
    let run = spec.run macros c.args.place.deeper in
    let line = c.args.place.line in
    let known = known_of c.args.known.now in
    let spelt = c.deref.ensures ∙ c.in_ok-text.ensures in
    let tokens : lexemes c.deref-2.result.now ≡ words text = ap lexemes c.deref-2.ensures.value ∙ c.in_ok-words.ensures ∙ ap words spelt in
    let tokens-3 : lexemes c.deref-3.result.now ≡ words text = ap lexemes c.deref-3.ensures.value ∙ c.in_ok-words.ensures ∙ ap words spelt in
    let head : spec.is_macro_head (words text) ≡ false = ap spec.is_macro_head (sym tokens) ∙ sym c.is_directive.ensures ∙ c.if-is_directive.false in
    rw c.refused-then-unknown.ensures
    (statement-by macros run line c.args.unknown text known None head (c.in_default.ensures.found ∙ ap (spec.invoked macros) tokens-3)
    ∙ ap (λ b. cond b (refused line reason.ParamUnknown) (spec.uninvoked line text (words text) known)) c.if-unknown.true)

pub statement-returns-in_default-clause-known : goal.statement-returns-in_default-clause-known
statement-returns-in_default-clause-known t c =
    let text = spelled c.args.parts.now in
    let macros = macro_names c.args.place.macros.now in
    let run = spec.run macros c.args.place.deeper in
    let line = c.args.place.line in
    let known = known_of c.args.known.now in
    let spelt = c.deref.ensures ∙ c.in_ok-text.ensures in
    let tokens : lexemes c.deref-2.result.now ≡ words text = ap lexemes c.deref-2.ensures.value ∙ c.in_ok-words.ensures ∙ ap words spelt in
    let tokens-3 : lexemes c.deref-3.result.now ≡ words text = ap lexemes c.deref-3.ensures.value ∙ c.in_ok-words.ensures ∙ ap words spelt in
    let tokens-4 : lexemes c.deref-in_default-2.result.now ≡ words text = ap lexemes c.deref-in_default-2.ensures.value ∙ c.in_ok-words.ensures ∙ ap words spelt in
    let head : spec.is_macro_head (words text) ≡ false = ap spec.is_macro_head (sym tokens) ∙ sym c.is_directive.ensures ∙ c.if-is_directive.false in
    let all = statement-by macros run line c.args.unknown text known None head (c.in_default.ensures.found ∙ ap (spec.invoked macros) tokens-3)
    ∙ ap (λ b. cond b (refused line reason.ParamUnknown) (spec.uninvoked line text (words text) known)) c.if-unknown.false in
    subst (λ answer. Gives refusal_of (λ _. known_of c.uninvoked.new.known) c.uninvoked.result answer) (ap (λ w. spec.uninvoked line text w known) tokens-4 ∙ sym all) c.uninvoked.ensures.known

pub statement-returns-in_default-parameters-clause-known : goal.statement-returns-in_default-parameters-clause-known
statement-returns-in_default-parameters-clause-known t c =
    let text = spelled c.args.parts.now in
    let macros = macro_names c.args.place.macros.now in
    let run = spec.run macros c.args.place.deeper in
    let line = c.args.place.line in
    let known = known_of c.args.known.now in
    let m = macro_of c.in-Some.found.now in
    let spelt = c.deref.ensures ∙ c.in_ok-text.ensures in
    let tokens : lexemes c.deref-2.result.now ≡ words text = ap lexemes c.deref-2.ensures.value ∙ c.in_ok-words.ensures ∙ ap words spelt in
    let tokens-3 : lexemes c.deref-3.result.now ≡ words text = ap lexemes c.deref-3.ensures.value ∙ c.in_ok-words.ensures ∙ ap words spelt in
    let head : spec.is_macro_head (words text) ≡ false = ap spec.is_macro_head (sym tokens) ∙ sym c.is_directive.ensures ∙ c.if-is_directive.false in
    rw c.refused-in_default-parameters.ensures
    (statement-by macros run line c.args.unknown text known (Some m) head (c.in-Some.ensures.found ∙ ap (spec.invoked macros) tokens-3)
    ∙ ap (λ p. spec.invoke run line c.args.unknown text m (option_map names_in p) (arguments text (spec.tail (words text))) known) c.in_default-parameters.is)

pub statement-returns-then-not-are_as_many-clause-known : goal.statement-returns-then-not-are_as_many-clause-known
statement-returns-then-not-are_as_many-clause-known t c =
    let text = spelled c.args.parts.now in
    let macros = macro_names c.args.place.macros.now in
    let run = spec.run macros c.args.place.deeper in
    let line = c.args.place.line in
    let known = known_of c.args.known.now in
    let m = macro_of c.in-Some.found.now in
    let names = names_in c.in-Some-parameters.names in
    let values = spelled_lists c.in_ok-values.values.items in
    let spelt = c.deref.ensures ∙ c.in_ok-text.ensures in
    let tokens : lexemes c.deref-2.result.now ≡ words text = ap lexemes c.deref-2.ensures.value ∙ c.in_ok-words.ensures ∙ ap words spelt in
    let tokens-3 : lexemes c.deref-3.result.now ≡ words text = ap lexemes c.deref-3.ensures.value ∙ c.in_ok-words.ensures ∙ ap words spelt in
    let tokens-4 : lexemes c.deref-4.result.now ≡ words text = ap lexemes c.deref-4.ensures.value ∙ c.in_ok-words.ensures ∙ ap words spelt in
    let head : spec.is_macro_head (words text) ≡ false = ap spec.is_macro_head (sym tokens) ∙ sym c.is_directive.ensures ∙ c.if-is_directive.false in
    let valued : values ≡ arguments text (spec.tail (words text)) = c.in_ok-values.ensures.text ∙ ap (arguments text) (c.tail.ensures ∙ ap spec.tail tokens-4) in
    let many : eqb (length values) (length names) ≡ false =
    as-many (λ list. spelled list.items) (λ name. name.items) c.in_ok-values.values.items c.in-Some-parameters.names.keys
    ∙ ap (λ vs. eqb (length vs) (length c.in-Some-parameters.names.keys)) (sym c.deref-5.ensures.value)
    ∙ sym c.are_as_many.ensures ∙ c.if-not-are_as_many.true in
    rw c.refused-then-not-are_as_many.ensures
    (statement-with macros run line c.args.unknown text known m names values head (c.in-Some.ensures.found ∙ ap (spec.invoked macros) tokens-3)
    (ap (option_map names_in) c.in-Some-parameters.is) valued
    ∙ ap (λ b. cond b (cond c.args.unknown (refused line reason.ParamUnknown) (run line text (value_of names values) m.body known)) (refused line reason.ArgCount)) many)

pub statement-returns-then-unknown-2-clause-known : goal.statement-returns-then-unknown-2-clause-known
statement-returns-then-unknown-2-clause-known t c =
    let text = spelled c.args.parts.now in
    let macros = macro_names c.args.place.macros.now in
    let run = spec.run macros c.args.place.deeper in
    let line = c.args.place.line in
    let known = known_of c.args.known.now in
    let m = macro_of c.in-Some.found.now in
    let names = names_in c.in-Some-parameters.names in
    let values = spelled_lists c.in_ok-values.values.items in
    let spelt = c.deref.ensures ∙ c.in_ok-text.ensures in
    let tokens : lexemes c.deref-2.result.now ≡ words text = ap lexemes c.deref-2.ensures.value ∙ c.in_ok-words.ensures ∙ ap words spelt in
    let tokens-3 : lexemes c.deref-3.result.now ≡ words text = ap lexemes c.deref-3.ensures.value ∙ c.in_ok-words.ensures ∙ ap words spelt in
    let tokens-4 : lexemes c.deref-4.result.now ≡ words text = ap lexemes c.deref-4.ensures.value ∙ c.in_ok-words.ensures ∙ ap words spelt in
    let head : spec.is_macro_head (words text) ≡ false = ap spec.is_macro_head (sym tokens) ∙ sym c.is_directive.ensures ∙ c.if-is_directive.false in
    let valued : values ≡ arguments text (spec.tail (words text)) = c.in_ok-values.ensures.text ∙ ap (arguments text) (c.tail.ensures ∙ ap spec.tail tokens-4) in
    let many : eqb (length values) (length names) ≡ true =
    as-many (λ list. spelled list.items) (λ name. name.items) c.in_ok-values.values.items c.in-Some-parameters.names.keys
    ∙ ap (λ vs. eqb (length vs) (length c.in-Some-parameters.names.keys)) (sym c.deref-5.ensures.value)
    ∙ sym c.are_as_many.ensures ∙ c.if-not-are_as_many.false in
    let told = statement-with macros run line c.args.unknown text known m names values head (c.in-Some.ensures.found ∙ ap (spec.invoked macros) tokens-3)
    (ap (option_map names_in) c.in-Some-parameters.is) valued
    ∙ ap (λ b. cond b (cond c.args.unknown (refused line reason.ParamUnknown) (run line text (value_of names values) m.body known)) (refused line reason.ArgCount)) many in
    rw c.refused-then-unknown-2.ensures
    (told ∙ ap (λ b. cond b (refused line reason.ParamUnknown) (run line text (value_of names values) m.body known)) c.if-unknown-2.true)

pub statement-returns-clause-known : goal.statement-returns-clause-known
statement-returns-clause-known t c =
    let text = spelled c.args.parts.now in
    let macros = macro_names c.args.place.macros.now in
    let run = spec.run macros c.args.place.deeper in
    let line = c.args.place.line in
    let known = known_of c.args.known.now in
    let m = macro_of c.in-Some.found.now in
    let names = names_in c.in-Some-parameters.names in
    let values = spelled_lists c.in_ok-values.values.items in
    let spelt = c.deref.ensures ∙ c.in_ok-text.ensures in
    let tokens : lexemes c.deref-2.result.now ≡ words text = ap lexemes c.deref-2.ensures.value ∙ c.in_ok-words.ensures ∙ ap words spelt in
    let tokens-3 : lexemes c.deref-3.result.now ≡ words text = ap lexemes c.deref-3.ensures.value ∙ c.in_ok-words.ensures ∙ ap words spelt in
    let tokens-4 : lexemes c.deref-4.result.now ≡ words text = ap lexemes c.deref-4.ensures.value ∙ c.in_ok-words.ensures ∙ ap words spelt in
    let head : spec.is_macro_head (words text) ≡ false = ap spec.is_macro_head (sym tokens) ∙ sym c.is_directive.ensures ∙ c.if-is_directive.false in
    let valued : values ≡ arguments text (spec.tail (words text)) = c.in_ok-values.ensures.text ∙ ap (arguments text) (c.tail.ensures ∙ ap spec.tail tokens-4) in
    let many : eqb (length values) (length names) ≡ true =
    as-many (λ list. spelled list.items) (λ name. name.items) c.in_ok-values.values.items c.in-Some-parameters.names.keys
    ∙ ap (λ vs. eqb (length vs) (length c.in-Some-parameters.names.keys)) (sym c.deref-5.ensures.value)
    ∙ sym c.are_as_many.ensures ∙ c.if-not-are_as_many.false in
    let told = statement-with macros run line c.args.unknown text known m names values head (c.in-Some.ensures.found ∙ ap (spec.invoked macros) tokens-3)
    (ap (option_map names_in) c.in-Some-parameters.is) valued
    ∙ ap (λ b. cond b (cond c.args.unknown (refused line reason.ParamUnknown) (run line text (value_of names values) m.body known)) (refused line reason.ArgCount)) many in
    let all = told ∙ ap (λ b. cond b (refused line reason.ParamUnknown) (run line text (value_of names values) m.body known)) c.if-unknown-2.false in
    let here = ap (λ w. run line w (value_of names (spelled_lists c.deref-7.result.now)) (map what_of c.deref-8.result.now) known) (c.deref-6.ensures ∙ c.in_ok-text.ensures)
    ∙ ap (λ vs. run line text (value_of names (spelled_lists vs)) (map what_of c.deref-8.result.now) known) c.deref-7.ensures.value
    ∙ ap (λ b. run line text (value_of names values) (map what_of b) known) c.deref-8.ensures.value in
    subst (λ answer. Gives refusal_of (λ _. known_of c.run.new.known) c.run.result answer) (here ∙ sym all) c.run.ensures.known

pub run-returns-clause-slices : goal.run-returns-clause-slices
run-returns-clause-slices t c texts macros lists body known =
    c.in_ok-give-2.ensures.slices texts tt
    (c.in_ok-expand_all.ensures.slices texts macros lists body (c.in_ok-give.ensures.slices texts tt (c.in_ok-count.ensures.slices texts known)))

pub statement-returns-clause-slices : goal.statement-returns-clause-slices
statement-returns-clause-slices t c texts macros parts known =
    c.run.ensures.slices texts macros (subst (AreLists texts) (sym c.deref-7.ensures.value) (c.in_ok-values.ensures.slices texts parts))
    (subst (AreBody texts) (sym c.deref-8.ensures.value) (c.in-Some.ensures.slices texts macros)) known

pub expand_one-returns-in_ok-give-in-Row-clause-slices : goal.expand_one-returns-in_ok-give-in-Row-clause-slices
expand_one-returns-in_ok-give-in-Row-clause-slices t c texts macros lists what known = c.in_ok-give-in-Row.ensures.slices texts tt known

pub expand_one-returns-in_ok-give-in-Note-clause-slices : goal.expand_one-returns-in_ok-give-in-Note-clause-slices
expand_one-returns-in_ok-give-in-Note-clause-slices t c texts macros lists what known = c.in_ok-give-in-Note.ensures.slices texts tt known
