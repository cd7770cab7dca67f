-- Where clap's walk over the words stands, and what comes of what it had last.
use Rattle.std.proofs.Common.{◌≡◌, ◌∙◌, ◌⊎◌, inl, inr, ℕ, Bool, true, false, cond, ◌&&◌, refl, sym, ap, ap₂, List, [], ◌∷◌, ◌++◌, map, Option, Some, None, append-nil}
use Rattle.std.specs.List.{fold}
use Rattle.std.specs.Str.{IsUtf8}
use Rattle.std.proofs.lemmas.Bool.{cases_Bool}
use Rattle.clap.specs.Walk.{Held, Row, Rule, Walk, Waiting, idle, walked, settled, settled_rows, pushed, positional_held, walk, is_pending, takes_several, used}
use Rattle.clap.specs.Kinds.{Kinds, or_else}
use Rattle.clap.specs.Faults.{walk_fault, settle_fault, turn_fault, use_fault, positional_fault}
use Rattle.clap.specs.declared.error.kind.ErrorKind.TheVariants as kind
use Rattle.command_words.specs.Saying.{Saying, say, placed, is_said, all_new}
use Rattle.command_words.specs.Table.{Text}
use Rattle.command_words.proofs.Arguments.{plain, option_rule, mode, input, rules, shape, third_is, are_apart, mode_known, input_known, Known}
use Rattle.command_words.proofs.Kept.{row, has_is, used_new, checked, checked_new, checked_twice, keep, after, keep-three, Fails, after_fails, and-false}

-- ---- where the walk stands

pub data Place : Type 0 where
  first : Place
  second : Place
  full : Place

abbrev pub left : Place → List Text
left first = mode ∷ input ∷ []
left second = input ∷ []
left full = []

abbrev pub position : Place → ℕ
position first = 1
position second = 2
position full = 3

abbrev pub pending_of : Option Saying → Option (Text × List Text)
pending_of None = None
pending_of (Some s) = Some (s.0, s.1 ∷ [])

abbrev pub prefixed : Option Saying → Option (List Saying) → Option (List Saying)
prefixed None o = o
prefixed (Some s) o = say s.0 s.1 o

abbrev pub holds : List Row → Option (Text × List Text) → Held
holds rows pending = record { rows = rows; pending = pending; skip = 0 }

abbrev pub stands : List Row → Option (Text × List Text) → Waiting → ℕ → Bool → Walk
stands rows pending waiting place behind = record { held = holds rows pending; waiting = waiting; position = place; is_trailing = behind; stopped = None }

pub prefixed_none : (done : List Saying) (last : Option Saying) → checked done (prefixed last None) ≡ None
unfolding checked
prefixed_none done None = refl
prefixed_none done (Some s) = refl

abbrev pub AreUtf8 : List Text → Type 0
AreUtf8 [] = Unit {0}
AreUtf8 (word ∷ words) = IsUtf8 word × AreUtf8 words

module _ (names : List Text) (apart : are_apart names ≡ true) where
  unfoldable pub ends : Walk → List Text → Held
  ends w words = (fold (walked (rules names) []) w words).held

  unfoldable pub outcome : Walk → List Text → Option (List Row)
  outcome w words = keep (or_else (walk_fault (shape names) [] w words) (settle_fault (rules names) false (ends w words))) (settled (rules names) (ends w words)).rows

  pub step : (w : Walk) (word : Text) (words : List Text) → outcome w (word ∷ words) ≡ after (turn_fault (shape names) [] w word) (outcome (walked (rules names) [] w word) words)
  unfolding outcome ends walk_fault
  step w word words = keep-three (turn_fault (shape names) [] w word) (walk_fault (shape names) [] (walked (rules names) [] w word) words)
      (settle_fault (rules names) false (fold (walked (rules names) []) (walked (rules names) [] w word) words).held)
      (settled (rules names) (fold (walked (rules names) []) (walked (rules names) [] w word) words).held).rows

  -- one use with one value
  use_new : (id v : Text) (long : Option Text) (index : Option ℕ) (done : List Saying) → is_said id done ≡ false → use_fault false (plain id long index) (v ∷ []) (map row done) ≡ []
  use_new id v long index done new = rw (has_is done id) (rw new refl)

  use_old : (id v : Text) (long : Option Text) (index : Option ℕ) (done : List Saying) → is_said id done ≡ true → Fails (use_fault false (plain id long index) (v ∷ []) (map row done))
  use_old id v long index done old = record { first = kind.ArgumentConflict; rest = []; is = rw (has_is done id) (rw old refl) }

  abbrev pub Knows : Option Saying → Type 0
  Knows None = Unit {0}
  Knows (Some s) = Known names s.0

  -- what is pending gets its row
  record Clear (done : List Saying) (last : Option Saying) : Type 0 where
    now : List Saying
    passes : settle_fault (rules names) false (holds (map row done) (pending_of last)) ≡ []
    rows : settled_rows (rules names) (pending_of last) (map row done) ≡ map row now
    same : (o : Option (List Saying)) → checked done (prefixed last o) ≡ checked now o

  -- what is pending was said before
  record Stuck (done : List Saying) (last : Option Saying) : Type 0 where
    fails : Fails (settle_fault (rules names) false (holds (map row done) (pending_of last)))
    none : (o : Option (List Saying)) → checked done (prefixed last o) ≡ None

  settles : (done : List Saying) (last : Option Saying) → Knows last → Clear done last ⊎ Stuck done last
  settles done None k = inl (record { now = done; passes = refl; rows = refl; same = λ o. refl })
  settles done (Some s) k = elim (cases_Bool (is_said s.0 done)) [
    | inl old ↦ inr (record { fails = rw k.found (use_old s.0 s.1 k.long k.index done old); none = λ o. checked_twice done s o old })
    | inr new ↦ inl (record {
      now = done ++ s ∷ [];
      passes = rw k.found (use_new s.0 s.1 k.long k.index done new);
      rows = rw k.found (used_new s.0 s.1 k.long k.index done new);
      same = λ o. checked_new done s o new;
    })
  ]

  -- the end of the words
  pub finish : (done : List Saying) (last : Option Saying) (waiting : Waiting) (place : ℕ) (behind : Bool) → Knows last
      → outcome (stands (map row done) (pending_of last) waiting place behind) [] ≡ checked done (prefixed last (Some []))
  unfolding outcome ends walk_fault keep checked all_new
  finish done last waiting place behind k = elim (settles done last k) [
    | inl c ↦ rw (c.passes, c.rows) (ap (λ l. Some (map row l)) (sym (append-nil c.now)) ∙ sym (c.same (Some [])))
    | inr s ↦ rw s.fails.is (sym (s.none (Some [])))
  ]

  -- a word that settles what is pending, and goes on from there
  pub advance : (done : List Saying) (last : Option Saying) (waiting : Waiting) (place : ℕ) (behind : Bool) (word : Text) (words : List Text) (on : List Row → Walk) (o : Option (List Saying))
      → Knows last
      → turn_fault (shape names) [] (stands (map row done) (pending_of last) waiting place behind) word ≡ settle_fault (rules names) false (holds (map row done) (pending_of last))
      → walked (rules names) [] (stands (map row done) (pending_of last) waiting place behind) word ≡ on (settled_rows (rules names) (pending_of last) (map row done))
      → ((now : List Saying) → outcome (on (map row now)) words ≡ checked now o)
      → outcome (stands (map row done) (pending_of last) waiting place behind) (word ∷ words) ≡ checked done (prefixed last o)
  unfolding after
  advance done last waiting place behind word words on o k turn walk ih =
      let w : Walk = stands (map row done) (pending_of last) waiting place behind in
      let here = step w word words ∙ ap₂ (λ (t : Kinds) (v : Walk). after t (outcome v words)) turn walk in
      elim (settles done last k) [
        | inl c ↦ here ∙ ap₂ (λ (t : Kinds) (r : List Row). after t (outcome (on r) words)) c.passes c.rows ∙ ih c.now ∙ sym (c.same o)
        | inr s ↦ here ∙ after_fails _ _ s.fails ∙ sym (s.none o)
      ]

  -- a word that also uses an option with a text
  pub advance_used : (done : List Saying) (last : Option Saying) (place : ℕ) (name text word : Text) (words : List Text) (on : List Row → Walk) (o : Option (List Saying))
      → Knows last
      → turn_fault (shape names) [] (stands (map row done) (pending_of last) idle place false) word
      ≡ or_else (settle_fault (rules names) false (holds (map row done) (pending_of last))) (use_fault false (option_rule name) (text ∷ []) (settled_rows (rules names) (pending_of last) (map row done)))
      → walked (rules names) [] (stands (map row done) (pending_of last) idle place false) word ≡ on (used (option_rule name) (text ∷ []) (settled_rows (rules names) (pending_of last) (map row done)))
      → ((now : List Saying) → outcome (on (map row now)) words ≡ checked now o)
      → outcome (stands (map row done) (pending_of last) idle place false) (word ∷ words) ≡ checked done (prefixed last (say name text o))
  unfolding after
  advance_used done last place name text word words on o k turn walk ih =
      let w : Walk = stands (map row done) (pending_of last) idle place false in
      let here = step w word words ∙ ap₂ (λ (t : Kinds) (v : Walk). after t (outcome v words)) turn walk in
      elim (settles done last k) [
        | inl c ↦
            let there = here ∙ ap₂ (λ (t : Kinds) (r : List Row). after (or_else t (use_fault false (option_rule name) (text ∷ []) r)) (outcome (on (used (option_rule name) (text ∷ []) r)) words)) c.passes c.rows in
            elim (cases_Bool (is_said name c.now)) [
              | inl old ↦ there ∙ after_fails _ _ (use_old name text (Some name) None c.now old) ∙ sym (checked_twice c.now (name, text) o old) ∙ sym (c.same (say name text o))
              | inr new ↦ there ∙ ap₂ (λ (t : Kinds) (r : List Row). after t (outcome (on r) words)) (use_new name text (Some name) None c.now new) (used_new name text (Some name) None c.now new)
                  ∙ ih (c.now ++ (name, text) ∷ []) ∙ sym (checked_new c.now (name, text) o new) ∙ sym (c.same (say name text o))
            ]
        | inr s ↦ here ∙ ap (λ (t : Kinds). after (or_else t (use_fault false (option_rule name) (text ∷ []) (settled_rows (rules names) (pending_of last) (map row done))))
            (outcome (on (used (option_rule name) (text ∷ []) (settled_rows (rules names) (pending_of last) (map row done)))) words)) s.fails.is ∙ sym (s.none (say name text o))
      ]

  -- ---- the words behind `--`

  abbrev id_at : Place → Text
  id_at first = mode
  id_at _ = input

  abbrev after_place : Place → Place
  after_place first = second
  after_place _ = full

  pub positional_turn : (a : Rule) (h : Held) → takes_several a ≡ false → positional_fault (rules names) false a h ≡ settle_fault (rules names) false h
  positional_turn a h single = ap (λ b. cond (is_pending a h.pending && b) [] (settle_fault (rules names) false h)) single ∙ ap (λ b. cond b [] (settle_fault (rules names) false h)) (and-false (is_pending a h.pending))

  pub positional_walk : (a : Rule) (word : Text) (h : Held) → takes_several a ≡ false → positional_held (rules names) a word h ≡ pushed a.id word (settled (rules names) h)
  positional_walk a word h single = ap (λ b. pushed a.id word (cond (is_pending a h.pending && b) h (settled (rules names) h))) single
      ∙ ap (λ b. pushed a.id word (cond b h (settled (rules names) h))) (and-false (is_pending a h.pending))

  pub trailed : (words : List Text) (done : List Saying) (last : Option Saying) (place : Place) → Knows last
      → outcome (stands (map row done) (pending_of last) idle (position place) true) words ≡ checked done (prefixed last (placed (left place) words))
  unfolding placed walked
  trailed [] done last place k = finish done last idle (position place) true k
  trailed (word ∷ words) done last first k = advance done last idle 1 true word words (λ rows. stands rows (Some (mode, word ∷ [])) idle 2 true) (say mode word (placed (input ∷ []) words)) k
      (positional_turn (plain mode None (Some 1)) (holds (map row done) (pending_of last)) refl)
      (ap (λ (h : Held). record { held = h; waiting = idle; position = 2; is_trailing = true; stopped = None }) (positional_walk (plain mode None (Some 1)) word (holds (map row done) (pending_of last)) refl))
      (λ now. trailed words now (Some (mode, word)) second (mode_known names))
  trailed (word ∷ words) done last second k = advance done last idle 2 true word words (λ rows. stands rows (Some (input, word ∷ [])) idle 3 true) (say input word (placed [] words)) k
      (positional_turn (plain input None (Some 2)) (holds (map row done) (pending_of last)) refl)
      (ap (λ (h : Held). record { held = h; waiting = idle; position = 3; is_trailing = true; stopped = None }) (positional_walk (plain input None (Some 2)) word (holds (map row done) (pending_of last)) refl))
      (λ now. trailed words now (Some (input, word)) full (input_known names))
  trailed (word ∷ words) done last full k = step (stands (map row done) (pending_of last) idle 3 true) word words
      ∙ after_fails _ _ (record { first = kind.UnknownArgument; rest = []; is = rw (third_is names) refl })
      ∙ sym (prefixed_none done last)
