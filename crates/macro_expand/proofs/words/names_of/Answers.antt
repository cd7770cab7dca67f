use Rattle.std.proofs.Common.{◌++◌, ◌∙◌, ap, sym, map}
use Rattle.macro_expand.specs.Words.{names_of, are_different}
use Rattle.macro_expand.specs.Spelled.{lexemes, names_in}
use Rattle.macro_expand.proofs.WordLemmas.{names-pass, names-more, names-done, names-found, names-twice, name-twice, name-new, names-added, names-differ, different-none}
use Rattle.macro_expand.proofs.words.names_of.Goals as goal

pub loop-word-init : goal.loop-word-init
loop-word-init c = record {
  names = ap (λ keys. map (λ k. k.items) keys ++ names_of (lexemes c.args.words.now)) c.new-names.ensures.empty;
  different = ap (λ keys. are_different (map (λ k. k.items) keys)) c.new-names.ensures.empty ∙ different-none;
}

pub loop-word-preserved-then-not-is_word : goal.loop-word-preserved-then-not-is_word
loop-word-preserved-then-not-is_word c = record {
  names = names-pass c.args.words.now c.loop-word.word-index _ (names_in c.loop-word.names) _ c.loop-word-test.true (sym c.is_word.ensures ∙ c.if-not-is_word.true) c.loop-word.invariant.names;
  different = c.loop-word.invariant.different;
}

pub returns-then-not-branch : goal.returns-then-not-branch
returns-then-not-branch c =
    names-twice _ (names_in c.loop-word.names) _ _
    (name-twice _ c.loop-word.names.keys c.in_ok-name.name c.in_ok-insert.field-0 (c.in_ok-name.ensures.items ∙ c.as_bytes.ensures.value) c.in_ok-insert.ensures.added c.if-not-branch.true)
    (names-more c.args.words.now c.loop-word.word-index _ (names_in c.loop-word.names) _ c.loop-word-test.true (sym c.is_word.ensures ∙ c.if-not-is_word.false) c.loop-word.invariant.names)

pub loop-word-preserved : goal.loop-word-preserved
loop-word-preserved c =
    let found = name-new _ c.loop-word.names.keys c.insert.new.self.keys c.in_ok-name.name c.in_ok-insert.field-0 (c.in_ok-name.ensures.items ∙ c.as_bytes.ensures.value) c.in_ok-insert.ensures.added c.if-not-branch.false c.in_ok-insert.ensures.keys in
    record {
      names = names-added _ (names_in c.loop-word.names) (names_in c.insert.new.self) _ _ found.1
          (names-more c.args.words.now c.loop-word.word-index _ (names_in c.loop-word.names) _ c.loop-word-test.true (sym c.is_word.ensures ∙ c.if-not-is_word.false) c.loop-word.invariant.names);
      different = names-differ _ (names_in c.loop-word.names) (names_in c.insert.new.self) c.loop-word.invariant.different found.0 found.1;
    }

pub returns : goal.returns
returns c = names-found (names_in c.loop-word.names) _ c.loop-word.invariant.different (names-done c.args.words.now c.loop-word.word-index (names_in c.loop-word.names) _ c.loop-word-test.false c.loop-word.invariant.names)
