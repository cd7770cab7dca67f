-- What clap's parse gives is what the words say.
use Rattle.std.proofs.Common.{◌≡◌, ◌∙◌, ⊎_elim, Bool, true, false, cond, refl, sym, ap, ap₂, List, [], ◌∷◌, map, Option, Some, None, Ok, Err, String, Global, string_bytes}
use Rattle.std.specs.List.{find}
use Rattle.std.specs.Option.{option_map, option_and_then}
use Rattle.std.specs.Prelude.{drop, slice_get}
use Rattle.std.specs.Str.{bytes_eq}
use Rattle.clap.specs.Words.{kind_of, is_simple, is_simple_and_free, fault_of, matches_of, first_of, first_value, rows_of}
use Rattle.clap.specs.Kinds.{Kinds, HasKind, IsAmong}
use Rattle.clap.specs.Simple.{built}
use Rattle.clap.specs.Walk.{Row, nothing_held, walk_from}
use Rattle.clap.proofs.FaultLemmas.{leaf_fault}
use Rattle.clap.proofs.WalkLemmas.{first_value-rows}
use Rattle.clap.specs.declared.error.Error.{Error}
use Rattle.clap.specs.declared.error.kind.ErrorKind.TheVariants.{OutOfMemory}
use Rattle.clap.specs.declared.parser.matches.Found.{Found}
use Rattle.std.proofs.lemmas.Str.{IsUtf8-string_bytes}
use Rattle.std.proofs.lemmas.Option.{none-some, same_Some}
use Rattle.command_words.specs.Answer.{wrong_use}
use Rattle.command_words.specs.App.{app}
use Rattle.command_words.specs.Saying.{Saying, sayings, once, all_new, places, text_of, said_by, texts_of}
use Rattle.command_words.specs.Table.{Text, option_names, option_lines}
use Rattle.command_words.proofs.Arguments.{rules, shape, are_apart}
use Rattle.command_words.proofs.Kept.{row, keep, checked}
use Rattle.command_words.proofs.Settled.{AreUtf8}
use Rattle.command_words.proofs.EachWord.{parsed}
use Rattle.command_words.proofs.Defaults.{level_is}

-- the command is a simple one
pub is_simple_app : is_simple app ≡ true
unfolding app option_names option_lines
is_simple_app = refl

pub is_free_app : is_simple_and_free app ≡ true
unfolding app option_names option_lines
is_free_app = refl

-- no option is named like a place
apart : are_apart option_names ≡ true
unfolding option_names option_lines
apart = refl

module _ (words : List Text) where
  fault_is : fault_of app words ≡ Rattle.clap.specs.Faults.level_fault (shape option_names) [] nothing_held (drop 1 words) false []
  unfolding app option_names option_lines
  fault_is = leaf_fault (built app) nothing_held (drop 1 words) refl

  matches_are : matches_of app words ≡ Rattle.clap.specs.Walk.rows_after (rules option_names) [] (drop 1 words)
  unfolding app option_names option_lines
  matches_are = refl

  -- the rows of a parse that doesn't fail
  parse_is : AreUtf8 (drop 1 words) → keep (fault_of app words) (matches_of app words) ≡ checked [] (sayings option_names places None (drop 1 words))
  parse_is utf8 = ap₂ keep fault_is matches_are ∙ level_is option_names apart (drop 1 words) ∙ parsed option_names apart (drop 1 words) utf8

texts_are : (words : List (String Global)) → AreUtf8 (map string_bytes words)
texts_are [] = tt
texts_are (w ∷ words) = (IsUtf8-string_bytes w, texts_are words)

rest_are : (words : List (String Global)) → AreUtf8 (drop 1 (map string_bytes words))
rest_are [] = tt
rest_are (w ∷ words) = texts_are words

-- the first row of an id has what is said of it
found_text : (name : Text) (s : List Saying) → first_of name (map row s) ≡ text_of s name
found_text name [] = refl
found_text name (x ∷ s) = go (bytes_eq x.0 name) (found_text name s)
  where
    go : (b : Bool) → first_of name (map row s) ≡ text_of s name
        → option_and_then (λ (r : Row). slice_get r.values 0) (cond b (Some (row x)) (find (λ r. bytes_eq r.id name) (map row s)))
        ≡ option_map (λ (p : Saying). p.1) (cond b (Some x) (find (λ p. bytes_eq p.0 name) s))
    go true e = refl
    go false e = e

-- where nothing failed, look-ups in the rows find what is said once
some_said : (o : Option (List Saying)) (rows : List Row) → Some rows ≡ checked [] o → texts_of (once o) ≡ Ok (λ name. first_of name rows)
unfolding checked
some_said None rows e = absurd (none-some rows (sym e))
some_said (Some s) rows e = go (all_new [] s) e
  where
    go : (b : Bool) → Some rows ≡ cond b (Some (map row s)) None → texts_of (cond b (Some s) None) ≡ Ok (λ name. first_of name rows)
    go true q = λ i. Ok (λ name. (sym (ap (first_of name) (same_Some rows (map row s) q) ∙ found_text name s)) i)
    go false q = absurd (none-some rows (sym q))

none_said : (o : Option (List Saying)) → None ≡ checked [] o → texts_of (once o) ≡ Err wrong_use
unfolding checked
none_said None e = refl
none_said (Some s) e = go (all_new [] s) e
  where
    go : (b : Bool) → None ≡ cond b (Some (map row s)) None → texts_of (cond b (Some s) None) ≡ Err wrong_use
    go true q = absurd (none-some (map row s) q)
    go false q = refl

-- what clap found is what the words say
pub finds : (words : List (String Global)) (f : Found) → fault_of app (map string_bytes words) ≡ [] → rows_of f ≡ matches_of app (map string_bytes words)
    → said_by (map string_bytes words) ≡ Ok (first_value f)
unfolding said_by keep
finds words f none rows =
    let texts = map string_bytes words in
    let kept : Some (matches_of app texts) ≡ checked [] (sayings option_names places None (drop 1 texts)) =
    sym (ap (λ k. keep k (matches_of app texts)) none) ∙ parse_is texts (rest_are words) in
    some_said (sayings option_names places None (drop 1 texts)) (matches_of app texts) kept
    ∙ (λ i. Ok (λ name. (sym (first_value-rows f name ∙ ap (first_of name) rows)) i))

failing : (e : Error) (kinds : Kinds) (rows : List Row) → IsAmong (kind_of e) kinds → None ≡ keep kinds rows
unfolding keep
failing e [] rows among = absurd among
failing e (k ∷ kinds) rows among = refl

-- where clap refused the words, they are wrong
pub refused : (words : List (String Global)) (e : Error) → HasKind (fault_of app (map string_bytes words)) e → (kind_of e ≡ OutOfMemory → ⊥) → said_by (map string_bytes words) ≡ Err wrong_use
unfolding said_by
refused words e has other =
    let texts = map string_bytes words in
    none_said (sayings option_names places None (drop 1 texts)) (failing e (fault_of app texts) (matches_of app texts) (⊎_elim (λ m. absurd (other m)) (λ k. k) has) ∙ parse_is texts (rest_are words))
