use Rattle.std.proofs.Common.{◌≡◌, ap, sym, ◌∙◌, subst, true, false, [], Ok, length, eqb}
use Rattle.std.proofs.lemmas.Result.{err_from_is_err_and}
use Rattle.macro_expand.proofs.SliceLemmas.{no-parts}
use Rattle.macro_expand.specs.Words.{is_empty}
use Rattle.macro_expand.specs.Filled.{replaced}
use Rattle.macro_expand.specs.Spelled.{lexemes, spelled}
use Rattle.macro_expand.specs.Views.{known_of}
use Rattle.macro_expand.specs.Source as source
use Rattle.macro_expand.specs.Expansion as spec
use Rattle.macro_expand.specs.Expansion.{count, give_statement}
use Rattle.macro_expand.proofs.CycleLemmas.{Refuses, fails-on, none-before, plain-by, plain-counted, gives-empty, gives-none, gives-one, empty-same}
use Rattle.macro_expand.proofs.expansion.plain.Goals as goal

pub returns-in_err-count-clause-known : goal.returns-in_err-count-clause-known
returns-in_err-count-clause-known c =
    let p = err_from_is_err_and c.from_residual-in_err-count.result c.from_residual-in_err-count.ensures.1 in
    let known = known_of c.args.known.now in
    let text = c.deref-2.result.now in
    let tokens = lexemes c.args.words.now in
    let is : text ≡ replaced known.aliases (spelled c.args.parts.now) true [] 0 tokens =
    c.deref-2.ensures ∙ c.in_ok-text.ensures ∙ ap spelled c.deref.ensures.value ∙ c.in_ok-push_replaced.ensures.text
    ∙ none-before c.new-whole.result.items (replaced known.aliases (spelled c.args.parts.now) true [] 0 tokens) c.new-whole.ensures.items in
    rw (p.1, p.2) (subst (Refuses c.in_err-count.field-0.0) (sym (plain-by c.args.line (spelled c.args.parts.now) text tokens known is))
    (fails-on c.in_err-count.field-0.0 (count c.args.line text known) (λ counted. Ok (give_statement c.args.line text tokens counted)) c.in_err-count.ensures.known))

pub returns-then-is_empty-clause-known : goal.returns-then-is_empty-clause-known
returns-then-is_empty-clause-known c =
    let known = known_of c.args.known.now in
    let text = c.deref-2.result.now in
    let tokens = lexemes c.args.words.now in
    let is : text ≡ replaced known.aliases (spelled c.args.parts.now) true [] 0 tokens =
    c.deref-2.ensures ∙ c.in_ok-text.ensures ∙ ap spelled c.deref.ensures.value ∙ c.in_ok-push_replaced.ensures.text
    ∙ none-before c.new-whole.result.items (replaced known.aliases (spelled c.args.parts.now) true [] 0 tokens) c.new-whole.ensures.items in
    let none : is_empty text ≡ true = sym (empty-same text) ∙ ap (λ d. eqb (length d) 0) (c.deref-2.ensures ∙ sym c.as_str.ensures.value) ∙ sym c.is_empty.ensures ∙ c.if-is_empty.true in
    plain-counted c.args.line (spelled c.args.parts.now) text tokens known (known_of c.count.new.known) is c.in_ok-count.ensures.known
    ∙ ap Ok (gives-empty c.args.line text tokens (known_of c.count.new.known) none)

pub returns-then-is_directive-clause-known : goal.returns-then-is_directive-clause-known
returns-then-is_directive-clause-known c =
    let known = known_of c.args.known.now in
    let text = c.deref-2.result.now in
    let tokens = lexemes c.args.words.now in
    let is : text ≡ replaced known.aliases (spelled c.args.parts.now) true [] 0 tokens =
    c.deref-2.ensures ∙ c.in_ok-text.ensures ∙ ap spelled c.deref.ensures.value ∙ c.in_ok-push_replaced.ensures.text
    ∙ none-before c.new-whole.result.items (replaced known.aliases (spelled c.args.parts.now) true [] 0 tokens) c.new-whole.ensures.items in
    let some : is_empty text ≡ false = sym (empty-same text) ∙ ap (λ d. eqb (length d) 0) (c.deref-2.ensures ∙ sym c.as_str.ensures.value) ∙ sym c.is_empty.ensures ∙ c.if-is_empty.false in
    plain-counted c.args.line (spelled c.args.parts.now) text tokens known (known_of c.count.new.known) is c.in_ok-count.ensures.known
    ∙ ap Ok (gives-none c.args.line text tokens (known_of c.count.new.known) some (sym c.is_directive.ensures ∙ c.if-is_directive.true))

pub returns-clause-known : goal.returns-clause-known
returns-clause-known c =
    let known = known_of c.args.known.now in
    let text = c.deref-2.result.now in
    let tokens = lexemes c.args.words.now in
    let is : text ≡ replaced known.aliases (spelled c.args.parts.now) true [] 0 tokens =
    c.deref-2.ensures ∙ c.in_ok-text.ensures ∙ ap spelled c.deref.ensures.value ∙ c.in_ok-push_replaced.ensures.text
    ∙ none-before c.new-whole.result.items (replaced known.aliases (spelled c.args.parts.now) true [] 0 tokens) c.new-whole.ensures.items in
    let some : is_empty text ≡ false = sym (empty-same text) ∙ ap (λ d. eqb (length d) 0) (c.deref-2.ensures ∙ sym c.as_str.ensures.value) ∙ sym c.is_empty.ensures ∙ c.if-is_empty.false in
    let spelt : text ≡ spelled c.push_replaced.new.out.items = c.deref-2.ensures ∙ c.in_ok-text.ensures ∙ ap spelled c.deref.ensures.value in
    plain-counted c.args.line (spelled c.args.parts.now) text tokens known (known_of c.count.new.known) is c.in_ok-count.ensures.known
    ∙ ap Ok (gives-one c.args.line text tokens (known_of c.count.new.known) some (sym c.is_directive.ensures ∙ c.if-is_directive.false)
    ∙ ap (λ w. spec.give c.args.line (source.Statement w) (known_of c.count.new.known)) spelt ∙ sym c.in_ok-give.ensures.known)

pub returns-then-is_empty-clause-slices : goal.returns-then-is_empty-clause-slices
returns-then-is_empty-clause-slices c texts parts known = c.in_ok-count.ensures.slices texts known

pub returns-then-is_directive-clause-slices : goal.returns-then-is_directive-clause-slices
returns-then-is_directive-clause-slices c texts parts known = c.in_ok-count.ensures.slices texts known

pub returns-clause-slices : goal.returns-clause-slices
returns-clause-slices c texts parts known =
    let whole = c.in_ok-push_replaced.ensures.slices texts parts known.aliases (no-parts texts c.new-whole.result.items c.new-whole.ensures.items) in
    c.in_ok-give.ensures.slices texts whole (c.in_ok-count.ensures.slices texts known)
