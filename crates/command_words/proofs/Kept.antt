-- What clap keeps of the words: a row for each thing that is said, and the kinds of what failed.
use Rattle.std.proofs.Common.{◌≡◌, ◌∙◌, inl, inr, ℕ, Bool, true, false, cond, ◌&&◌, ◌||◌, refl, sym, ap, List, [], ◌∷◌, ◌++◌, map, Option, Some, None, true≢false, append-nil, append_assoc}
use Rattle.std.specs.Str.{bytes_eq}
use Rattle.std.proofs.lemmas.Bool.{cases_Bool}
use Rattle.clap.specs.Walk.{Row, has_row, at_row, used}
use Rattle.clap.specs.Kinds.{Kinds, or_else}
use Rattle.clap.specs.declared.error.kind.ErrorKind.{ErrorKind}
use Rattle.clap.specs.declared.builder.value_parser.ValueParser.TheVariants as vp
use Rattle.clap.specs.Values.{reading_of}
use Rattle.clap.specs.declared.parser.matches.ValueSource.TheVariants.{CommandLine}
use Rattle.command_words.specs.Saying.{Saying, say, is_said, all_new}
use Rattle.command_words.specs.Table.{Text}
use Rattle.command_words.proofs.Arguments.{plain}

-- ---- what is kept

abbrev pub row : Saying → Row
row s = record { id = s.0; values = s.1 ∷ []; count = None; source = Some CommandLine; reading = reading_of vp.String }

pub has_is : (done : List Saying) (id : Text) → has_row id (map row done) ≡ is_said id done
has_is [] id = refl
has_is (s ∷ done) id = ap (λ b. bytes_eq s.0 id || b) (has_is done id)

-- a row of a new id comes at the end
at_new : (id : Text) (change : Row → List Row) (missing : List Row) (done : List Saying) → is_said id done ≡ false → at_row id change missing (map row done) ≡ map row done ++ missing
at_new id change missing [] e = refl
at_new id change missing (s ∷ done) e = elim (cases_Bool (bytes_eq s.0 id)) [
  | inl here ↦ absurd (true≢false (ap (λ b. b || is_said id done) (sym here) ∙ e))
  | inr past ↦ rw past (ap (λ rs. row s ∷ rs) (at_new id change missing done (ap (λ b. b || is_said id done) (sym past) ∙ e)))
]

rows_more : (done : List Saying) (s : Saying) → map row done ++ row s ∷ [] ≡ map row (done ++ s ∷ [])
rows_more [] s = refl
rows_more (x ∷ done) s = ap (λ rs. row x ∷ rs) (rows_more done s)

pub used_new : (id v : Text) (long : Option Text) (index : Option ℕ) (done : List Saying) → is_said id done ≡ false
    → used (plain id long index) (v ∷ []) (map row done) ≡ map row (done ++ (id, v) ∷ [])
used_new id v long index done new =
    rw (at_new id (λ _. []) [] done new) (rw (append-nil (map row done)) (rw (at_new id _ _ done new) (rows_more done (id, v))))

-- ---- what is said, once each

unfoldable pub checked : List Saying → Option (List Saying) → Option (List Row)
checked done None = None
checked done (Some s) = cond (all_new done s) (Some (map row (done ++ s))) None

-- one thing before what is said
pub checked_new : (done : List Saying) (s : Saying) (o : Option (List Saying)) → is_said s.0 done ≡ false → checked done (say s.0 s.1 o) ≡ checked (done ++ s ∷ []) o
unfolding checked all_new
checked_new done s None new = refl
checked_new done s (Some rest) new = rw new (ap (λ l. cond (all_new (done ++ s ∷ []) rest) (Some (map row l)) None) (sym (append_assoc done (s ∷ []) rest)))

pub checked_twice : (done : List Saying) (s : Saying) (o : Option (List Saying)) → is_said s.0 done ≡ true → checked done (say s.0 s.1 o) ≡ None
unfolding checked all_new
checked_twice done s None old = refl
checked_twice done s (Some rest) old = rw old refl

-- ---- a parse

-- the rows, where nothing failed
unfoldable pub keep : Kinds → List Row → Option (List Row)
keep [] rows = Some rows
keep (k ∷ kinds) rows = None

unfoldable pub after : {X : Type 0} → Kinds → Option X → Option X
after [] o = o
after (k ∷ kinds) o = None

pub keep-three : (a b c : Kinds) (rows : List Row) → keep (or_else (or_else a b) c) rows ≡ after a (keep (or_else b c) rows)
unfolding keep after
keep-three [] b c rows = refl
keep-three (k ∷ kinds) b c rows = refl

-- something failed
pub record Fails (kinds : Kinds) : Type 0 where
  pub first : ErrorKind
  pub rest : Kinds
  pub is : kinds ≡ first ∷ rest

pub after_fails : {X : Type 0} (kinds : Kinds) (o : Option X) → Fails kinds → after kinds o ≡ None
unfolding after
after_fails kinds o f = ap (λ k. after k o) f.is

pub and-false : (b : Bool) → (b && false) ≡ false
and-false true = refl
and-false false = refl

pub or_else-nil : (a : Kinds) → or_else a [] ≡ a
or_else-nil [] = refl
or_else-nil (k ∷ kinds) = refl
