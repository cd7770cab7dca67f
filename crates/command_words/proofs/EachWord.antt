-- What clap's walk over the words of two positional words and options of one value comes to.
use Rattle.std.proofs.Common.{◌≡◌, ◌∙◌, inl, inr, ℕ, Bool, true, false, cond, ◌&&◌, refl, sym, ap, ap₂, subst, List, [], ◌∷◌, map, length, Option, Some, None, codes, eqb, eqb-true, arith}
use Rattle.std.specs.List.{list_any, before_first, after_first}
use Rattle.std.specs.Str.{bytes_eq, chars, IsUtf8, encode_utf8_all}
use Rattle.std.specs.Char.{encode_utf8}
use Rattle.std.proofs.lemmas.Str.{chars-encodes}
use Rattle.std.specs.Prelude.{◌==◌, nat_lt, slice_get, drop}
use Rattle.std.proofs.lemmas.Bool.{cases_Bool}
use Rattle.clap.specs.Walk.{Held, Row, Rule, Walk, Waiting, idle, option, arg_by_id, arg_by_long, walked, settled, word_met, option_word, nothing_held, walk_from, long_met, after_flag, Step, trailing, long_or_other, short_or_plain, value, next, after_step}
use Rattle.clap.specs.Lexer.{long_of, long_of_rest, short_of, short_of_rest, strip_byte}
use Rattle.std.specs.Option.{option_map_or, option_and_then}
use Rattle.clap.specs.Kinds.{Kinds, or_else}
use Rattle.clap.specs.Faults.{walk_fault, settle_fault, turn_fault, flags_fault, use_fault, positional_fault, word_fault, step_fault, flag_word_fault, long_fault, short_fault, bundle_step_fault, bundle_fault}
use Rattle.clap.specs.declared.error.kind.ErrorKind.TheVariants as kind
use Rattle.command_words.specs.Saying.{Saying, is_option, behind_marks, is_among, say, placed, valued, option_said, at_place, sayings}
use Rattle.command_words.specs.Table.{Text}
use Rattle.command_words.proofs.Arguments.{plain, option_rule, mode, input, rules, shape, same_self, long_is, short_is, third_is, are_apart, mode_known, input_known, option_known}
use Rattle.command_words.proofs.Kept.{row, checked, keep, after, Fails, after_fails, and-false, or_else-nil}
use Rattle.command_words.proofs.Settled.{Place, first, second, full, left, position, pending_of, prefixed, holds, stands, prefixed_none, AreUtf8, ends, outcome, step, Knows, finish, advance, advance_used, positional_turn, positional_walk, trailed}

module _ (names : List Text) (apart : are_apart names ≡ true) where
  -- ---- one word

  abbrev at : List Saying → Option Saying → Place → Walk
  at done last place = stands (map row done) (pending_of last) idle (position place) false

  abbrev waits_at : List Saying → Text → Place → Walk
  waits_at done name place = stands (map row done) (Some (name, [])) (option name) (position place) false

  abbrev Reads : List Text → Type 0
  Reads words = (done : List Saying) (last : Option Saying) (place : Place) → Knows names apart last
      → outcome names apart (at done last place) words ≡ checked done (prefixed last (sayings names (left place) None words))

  abbrev Waits : List Text → Type 0
  Waits words = (done : List Saying) (name : Text) (place : Place) → is_among name names ≡ true
      → outcome names apart (waits_at done name place) words ≡ checked done (sayings names (left place) (Some name) words)

  -- an option with no value fails
  no_value : (done : List Saying) (name : Text) → is_among name names ≡ true → Fails (settle_fault (rules names) false (holds (map row done) (Some (name, []))))
  no_value done name known = record { first = kind.InvalidValue; rest = []; is = rw (option_known names name apart known).found refl }

  lost : (words : List Text) (done : List Saying) (name : Text) (waiting : Waiting) (place : Place) → is_among name names ≡ true
      → outcome names apart (stands (map row done) (Some (name, [])) waiting (position place) true) words ≡ None
  unfolding outcome ends walk_fault keep
  lost [] done name waiting place known = rw (no_value done name known).is refl
  lost (word ∷ words) done name waiting first known = step names apart (stands (map row done) (Some (name, [])) waiting 1 true) word words
      ∙ after_fails _ _ (record { is = positional_turn names apart (plain mode None (Some 1)) (holds (map row done) (Some (name, []))) refl ∙ (no_value done name known).is; first = _; rest = _ })
  lost (word ∷ words) done name waiting second known = step names apart (stands (map row done) (Some (name, [])) waiting 2 true) word words
      ∙ after_fails _ _ (record { is = positional_turn names apart (plain input None (Some 2)) (holds (map row done) (Some (name, []))) refl ∙ (no_value done name known).is; first = _; rest = _ })
  lost (word ∷ words) done name waiting full known = step names apart (stands (map row done) (Some (name, [])) waiting 3 true) word words
      ∙ after_fails _ _ (record { first = kind.UnknownArgument; rest = []; is = rw (third_is names) refl })

  -- a word that is no option
  record IsPlain (word : Text) : Type 0 where
    plain_word : is_option word ≡ false
    fault : (h : Held) → word_fault (shape names) [] false idle word h ≡ []
    fault_waiting : (id : Text) (h : Held) → word_fault (shape names) [] false (option id) word h ≡ []
    met : (place : ℕ) (h : Held) → word_met (rules names) [] false idle place word h ≡ (h, value)
    met_waiting : (id : Text) (place : ℕ) (h : Held) → word_met (rules names) [] false (option id) place word h ≡ (
      (option_word (arg_by_id (rules names) id) id word h).0,
      next (option_word (arg_by_id (rules names) id) id word h).1,
    )

  is_plain : (word : Text) → is_option word ≡ false → bytes_eq word (codes "--") ≡ false → long_of word ≡ None → short_of word ≡ None → IsPlain word
  is_plain word none dashes long short = record {
    plain_word = none;
    fault = λ h. ap (λ d. cond d [] (flag_word_fault (rules names) false (long_of word) word h)) dashes ∙ ap (λ l. flag_word_fault (rules names) false l word h) long
        ∙ ap (λ o. option_map_or (λ flags. bundle_fault (rules names) false flags h) o []) short;
    fault_waiting = λ id h. ap (λ d. cond d [] (flag_word_fault (rules names) false (long_of word) word h)) dashes ∙ ap (λ l. flag_word_fault (rules names) false l word h) long
        ∙ ap (λ o. option_map_or (λ flags. bundle_fault (rules names) false flags h) o []) short;
    met = λ p h. ap (λ d. cond d (h, trailing p) (long_or_other (rules names) idle word (long_of word) h)) dashes ∙ ap (λ l. long_or_other (rules names) idle word l h) long
        ∙ ap (λ o. short_or_plain (rules names) idle word o h) short;
    met_waiting = λ id p h. ap (λ d. cond d (h, trailing p) (long_or_other (rules names) (option id) word (long_of word) h)) dashes ∙ ap (λ l. long_or_other (rules names) (option id) word l h) long
        ∙ ap (λ o. short_or_plain (rules names) (option id) word o h) short;
  }

  nil_plain : IsPlain []
  nil_plain = is_plain [] refl refl refl refl

  one_plain : (c : ℕ) → IsPlain (c ∷ [])
  one_plain c = is_plain (c ∷ []) refl (and-false (eqb c 45)) (go (eqb c 45)) (go_short (eqb c 45))
    where
      go : (b : Bool) → option_and_then long_of_rest (option_and_then (strip_byte 45) (cond b (Some []) None)) ≡ None
      go true = refl
      go false = refl

      go_short : (b : Bool) → option_and_then short_of_rest (cond b (Some []) None) ≡ None
      go_short true = refl
      go_short false = refl

  other_plain : (c d : ℕ) (rest : Text) → eqb c 45 ≡ false → IsPlain (c ∷ d ∷ rest)
  other_plain c d rest e = is_plain (c ∷ d ∷ rest) e (ap (λ b. b && (eqb d 45 && bytes_eq rest [])) e)
      (ap (λ b. option_and_then long_of_rest (option_and_then (strip_byte 45) (cond b (Some (d ∷ rest)) None))) e)
      (ap (λ b. option_and_then short_of_rest (cond b (Some (d ∷ rest)) None)) e)

  said_plain : (word : Text) (words : List Text) (place : Place) → is_option word ≡ false → sayings names (left place) None (word ∷ words) ≡ at_place (left place) word (λ ps. sayings names ps None words)
  unfolding sayings
  said_plain word words place e = ap (λ b. cond b (cond (bytes_eq word (codes "--")) (placed (left place) words) (option_said names (behind_marks word) (λ waiting. sayings names (left place) waiting words)))
      (at_place (left place) word (λ ps. sayings names ps None words))) e

  goes_on : (word : Text) (words : List Text) → IsPlain word → Reads words → (done : List Saying) (last : Option Saying) (place : Place) → Knows names apart last
      → outcome names apart (at done last place) (word ∷ words) ≡ checked done (prefixed last (at_place (left place) word (λ ps. sayings names ps None words)))
  unfolding walked
  goes_on word words is ih done last first k =
      let h : Held = holds (map row done) (pending_of last) in
      advance names apart done last idle 1 false word words (λ rows. stands rows (Some (mode, word ∷ [])) idle 2 false) (say mode word (sayings names (input ∷ []) None words)) k
      (ap₂ (λ (f : Kinds) (m : Held × Step). or_else f (step_fault (shape names) 1 m.0 m.1)) (is.fault h) (is.met 1 h) ∙ positional_turn names apart (plain mode None (Some 1)) h refl)
      (ap (λ (m : Held × Step). after_step (rules names) word (stands (map row done) (pending_of last) idle 1 false) m.0 m.1) (is.met 1 h)
      ∙ ap (λ (g : Held). record { held = g; waiting = idle; position = 2; is_trailing = false; stopped = None }) (positional_walk names apart (plain mode None (Some 1)) word h refl))
      (λ now. ih now (Some (mode, word)) second (mode_known names))
  goes_on word words is ih done last second k =
      let h : Held = holds (map row done) (pending_of last) in
      advance names apart done last idle 2 false word words (λ rows. stands rows (Some (input, word ∷ [])) idle 3 false) (say input word (sayings names [] None words)) k
      (ap₂ (λ (f : Kinds) (m : Held × Step). or_else f (step_fault (shape names) 2 m.0 m.1)) (is.fault h) (is.met 2 h) ∙ positional_turn names apart (plain input None (Some 2)) h refl)
      (ap (λ (m : Held × Step). after_step (rules names) word (stands (map row done) (pending_of last) idle 2 false) m.0 m.1) (is.met 2 h)
      ∙ ap (λ (g : Held). record { held = g; waiting = idle; position = 3; is_trailing = false; stopped = None }) (positional_walk names apart (plain input None (Some 2)) word h refl))
      (λ now. ih now (Some (input, word)) full (input_known names))
  goes_on word words is ih done last full k =
      let h : Held = holds (map row done) (pending_of last) in
      step names apart (at done last full) word words
      ∙ after_fails _ _ (record {
        first = kind.UnknownArgument;
        rest = [];
        is = ap₂ (λ (f : Kinds) (m : Held × Step). or_else f (step_fault (shape names) 3 m.0 m.1)) (is.fault h) (is.met 3 h)
            ∙ ap (λ (o : Option Rule). option_map_or (λ a. positional_fault (rules names) false a h) o (kind.UnknownArgument ∷ [])) (third_is names);
      })
      ∙ sym (prefixed_none done last)

  reads_plain : (word : Text) (words : List Text) → IsPlain word → Reads words → Reads (word ∷ words)
  reads_plain word words is ih done last place k = goes_on word words is ih done last place k ∙ ap (λ o. checked done (prefixed last o)) (sym (said_plain word words place is.plain_word))

  takes_word : (done : List Saying) (name word : Text) → is_among name names ≡ true
      → option_word (arg_by_id (rules names) name) name word (holds (map row done) (Some (name, []))) ≡ (holds (map row done) (Some (name, word ∷ [])), idle)
  takes_word done name word known =
      let k = option_known names name apart known in
      ap (λ (o : Option Rule). option_word o name word (holds (map row done) (Some (name, [])))) k.found
      ∙ ap (λ b. (holds (map row done) (Some (name, word ∷ [])), cond (nat_lt (cond b 1 0) 1) (option name) idle)) (same_self name)

  waits_plain : (word : Text) (words : List Text) → IsPlain word → Reads words → Waits (word ∷ words)
  unfolding sayings walked after
  waits_plain word words is ih done name place known =
      let h : Held = holds (map row done) (Some (name, [])) in
      let met : word_met (rules names) [] false (option name) (position place) word h ≡ (holds (map row done) (Some (name, word ∷ [])), next idle) =
      is.met_waiting name (position place) h ∙ ap (λ (m : Held × Waiting). (m.0, next m.1)) (takes_word done name word known) in
      let turn : turn_fault (shape names) [] (waits_at done name place) word ≡ [] =
      ap₂ (λ (f : Kinds) (m : Held × Step). or_else f (step_fault (shape names) (position place) m.0 m.1)) (is.fault_waiting name h) met in
      let walk : walked (rules names) [] (waits_at done name place) word ≡ at done (Some (name, word)) place =
      ap (λ (m : Held × Step). after_step (rules names) word (waits_at done name place) m.0 m.1) met in
      step names apart (waits_at done name place) word words
      ∙ ap₂ (λ (f : Kinds) (w : Walk). after f (outcome names apart w words)) turn walk
      ∙ ih done (Some (name, word)) place (option_known names name apart known)
      ∙ ap (checked done) (sym (ap (λ b. cond b None (say name word (sayings names (left place) None words))) is.plain_word))

  -- ---- options

  -- where an option waits, a word that is an option fails
  waits_option : (word : Text) (words : List Text) (done : List Saying) (name : Text) (place : Place) → is_option word ≡ true
      → outcome names apart (waits_at done name place) (word ∷ words) ≡ None → outcome names apart (waits_at done name place) (word ∷ words) ≡ checked done (sayings names (left place) (Some name) (word ∷ words))
  unfolding sayings checked
  waits_option word words done name place is fails = fails ∙ ap (checked done) (sym (ap (λ b. cond b None (say name word (sayings names (left place) None words))) is))

  -- `--`
  reads_dashes : (words : List Text) → Reads (codes "--" ∷ words)
  unfolding sayings walked after
  reads_dashes words done last place k = step names apart (at done last place) (codes "--") words ∙ trailed names apart words done last place k

  waits_dashes : (words : List Text) → Waits (codes "--" ∷ words)
  unfolding walked after
  waits_dashes words done name place known = waits_option (codes "--") words done name place refl
      (step names apart (waits_at done name place) (codes "--") words ∙ lost words done name (option name) place known)

  -- `--name` and `--name=value`
  abbrev name_in : Text → Text
  name_in = before_first (λ c. c == 61)

  abbrev joined : Text → Bool
  joined = list_any (λ c. c == 61)

  abbrev value_in : Text → Text
  value_in = after_first (λ c. c == 61)

  abbrev given : Bool → Text → Option Text
  given b text = cond b (Some (value_in text)) None

  abbrev long_turn : Option Rule → Bool → Text → Waiting → ℕ → Held → Kinds
  long_turn found b text waiting place h = or_else (long_fault (rules names) false found (given b text) h)
      (step_fault (shape names) place (after_flag (rules names) waiting (45 ∷ 45 ∷ text) (long_met (rules names) found (given b text) h).0 (long_met (rules names) found (given b text) h).1).0
      (after_flag (rules names) waiting (45 ∷ 45 ∷ text) (long_met (rules names) found (given b text) h).0 (long_met (rules names) found (given b text) h).1).1)

  long_turn_is : (c : ℕ) (rest : Text) (waiting : Waiting) (place : ℕ) (rows : List Row) (pending : Option (Text × List Text))
      → turn_fault (shape names) [] (stands rows pending idle place false) (45 ∷ 45 ∷ c ∷ rest) ≡ long_turn (arg_by_long (rules names) (name_in (c ∷ rest))) (joined (c ∷ rest)) (c ∷ rest) idle place (holds rows pending)
  long_turn_is c rest waiting place rows pending = refl

  abbrev long_walk : Option Rule → Bool → Text → Walk → Walk
  long_walk found b text w = after_step (rules names) (45 ∷ 45 ∷ text) w (after_flag (rules names) idle (45 ∷ 45 ∷ text) (long_met (rules names) found (given b text) w.held).0 (long_met (rules names) found (given b text) w.held).1).0
      (after_flag (rules names) idle (45 ∷ 45 ∷ text) (long_met (rules names) found (given b text) w.held).0 (long_met (rules names) found (given b text) w.held).1).1

  long_walk_is : (c : ℕ) (rest : Text) (place : ℕ) (rows : List Row) (pending : Option (Text × List Text))
      → walked (rules names) [] (stands rows pending idle place false) (45 ∷ 45 ∷ c ∷ rest) ≡ long_walk (arg_by_long (rules names) (name_in (c ∷ rest))) (joined (c ∷ rest)) (c ∷ rest) (stands rows pending idle place false)
  unfolding walked
  long_walk_is c rest place rows pending = refl

  said_long : (c : ℕ) (rest : Text) (words places : List Text)
      → sayings names places None ((45 ∷ 45 ∷ c ∷ rest) ∷ words) ≡ cond (is_among (name_in (c ∷ rest)) names) (valued (joined (c ∷ rest)) (c ∷ rest) (λ waiting. sayings names places waiting words)) None
  unfolding sayings
  said_long c rest words places = refl

  found_is : (name : Text) (b : Bool) → is_among name names ≡ b → arg_by_long (rules names) name ≡ cond b (Some (option_rule name)) None
  found_is name b e = long_is names name ∙ ap (λ b. cond b (Some (option_rule name)) None) e

  reads_long : (c : ℕ) (rest : Text) (words : List Text) → Reads words → Waits words → Reads ((45 ∷ 45 ∷ c ∷ rest) ∷ words)
  unfolding after
  reads_long c rest words reads waits done last place k =
      let text : Text = c ∷ rest in
      let word : Text = 45 ∷ 45 ∷ text in
      let name : Text = name_in text in
      let h : Held = holds (map row done) (pending_of last) in
      let w : Walk = at done last place in
      let turn = long_turn_is c rest idle (position place) (map row done) (pending_of last) in
      let walk = long_walk_is c rest (position place) (map row done) (pending_of last) in
      let what = said_long c rest words (left place) in
      elim (cases_Bool (is_among name names)) [
        | inr unknown ↦ step names apart w word words
            ∙ after_fails _ _ (record { first = kind.UnknownArgument; rest = []; is = turn ∙ ap (λ (o : Option Rule). long_turn o (joined text) text idle (position place) h) (found_is name false unknown) })
            ∙ sym (ap (λ o. checked done (prefixed last o)) (what ∙ ap (λ b. cond b (valued (joined text) text (λ waiting. sayings names (left place) waiting words)) None) unknown) ∙ prefixed_none done last)
        | inl known ↦
            let says = what ∙ ap (λ b. cond b (valued (joined text) text (λ waiting. sayings names (left place) waiting words)) None) known in
            elim (cases_Bool (joined text)) [
              | inl e ↦
                  advance_used names apart done last (position place) name (value_in text) word words (λ rows. stands rows None idle (position place) false) (sayings names (left place) None words) k
                  (turn ∙ ap₂ (λ (o : Option Rule) (b : Bool). long_turn o b text idle (position place) h) (found_is name true known) e ∙ or_else-nil _)
                  (walk ∙ ap₂ (λ (o : Option Rule) (b : Bool). long_walk o b text w) (found_is name true known) e)
                  (λ now. reads now None place tt)
                  ∙ sym (ap (λ o. checked done (prefixed last o)) (says ∙ ap (λ b. valued b text (λ waiting. sayings names (left place) waiting words)) e))
              | inr e ↦
                  advance names apart done last idle (position place) false word words (λ rows. stands rows (Some (name, [])) (option name) (position place) false) (sayings names (left place) (Some name) words) k
                  (turn ∙ ap₂ (λ (o : Option Rule) (b : Bool). long_turn o b text idle (position place) h) (found_is name true known) e ∙ or_else-nil _)
                  (walk ∙ ap₂ (λ (o : Option Rule) (b : Bool). long_walk o b text w) (found_is name true known) e)
                  (λ now. waits now name place known)
                  ∙ sym (ap (λ o. checked done (prefixed last o)) (says ∙ ap (λ b. valued b text (λ waiting. sayings names (left place) waiting words)) e))
            ]
      ]

  -- ---- `-x`

  short_word : (d x : ℕ) (rest : Text) (h : Held) → eqb d 45 ≡ false → slice_get (chars (d ∷ rest)) 0 ≡ Some x
      → cond (bytes_eq (45 ∷ d ∷ rest) (codes "--")) [] (flag_word_fault (rules names) false (long_of (45 ∷ d ∷ rest)) (45 ∷ d ∷ rest) (record h { skip = 0 })) ≡ kind.UnknownArgument ∷ []
  unfolding flags_fault
  short_word d x rest h other char =
      let word : Text = 45 ∷ d ∷ rest in
      let g : Held = record h { skip = 0 } in
      ap (λ b. cond (b && bytes_eq rest []) [] (flag_word_fault (rules names) false (long_of word) word g)) other
      ∙ ap (λ b. flag_word_fault (rules names) false (option_and_then long_of_rest (cond b (Some rest) None)) word g) other
      ∙ ap (λ b. option_map_or (λ flags. bundle_fault (rules names) false flags g) (cond b None (Some (d ∷ rest))) []) other
      ∙ ap (λ o. bundle_step_fault (rules names) false o (d ∷ rest) 0 g (flags_fault (rules names) false (length rest))) char
      ∙ ap (λ (o : Option Rule). short_fault (rules names) false o (drop (length (encode_utf8 x)) (d ∷ rest)) g (flags_fault (rules names) false (length rest) (drop (length (encode_utf8 x)) (d ∷ rest)) 0)) (short_is names x)

  short_fails : (d x : ℕ) (rest : Text) (rows : List Row) (pending : Option (Text × List Text)) (place : ℕ) → eqb d 45 ≡ false → slice_get (chars (d ∷ rest)) 0 ≡ Some x
      → Fails (turn_fault (shape names) [] (stands rows pending idle place false) (45 ∷ d ∷ rest))
  short_fails d x rest rows pending place other char = record {
    first = kind.UnknownArgument;
    rest = [];
    is =
        ap (λ f. or_else f (step_fault (shape names) place (word_met (rules names) [] false idle place (45 ∷ d ∷ rest) (holds rows pending)).0 (word_met (rules names) [] false idle place (45 ∷ d ∷ rest) (holds rows pending)).1))
        (short_word d x rest (holds rows pending) other char);
  }

  short_waits : (d x : ℕ) (rest : Text) (rows : List Row) (pending : Option (Text × List Text)) (place : ℕ) (id : Text) → eqb d 45 ≡ false → slice_get (chars (d ∷ rest)) 0 ≡ Some x
      → Fails (turn_fault (shape names) [] (stands rows pending (option id) place false) (45 ∷ d ∷ rest))
  short_waits d x rest rows pending place id other char = record {
    first = kind.UnknownArgument;
    rest = [];
    is =
        ap (λ f. or_else f (step_fault (shape names) place (word_met (rules names) [] false (option id) place (45 ∷ d ∷ rest) (holds rows pending)).0 (word_met (rules names) [] false (option id) place (45 ∷ d ∷ rest) (holds rows pending)).1))
        (short_word d x rest (holds rows pending) other char);
  }

  said_short : (d : ℕ) (rest : Text) (words places : List Text) → eqb d 45 ≡ false → sayings names places None ((45 ∷ d ∷ rest) ∷ words) ≡ None
  unfolding sayings
  said_short d [] words places other = ap (λ b. cond (b && true) (placed places words) None) other
  said_short d (c ∷ cs) words places other =
      ap (λ b. cond (b && false) (placed places words) (option_said names (cond b (Some (c ∷ cs)) None) (λ waiting. sayings names places waiting words))) other

  reads_short : (d x : ℕ) (rest : Text) (words : List Text) → eqb d 45 ≡ false → slice_get (chars (d ∷ rest)) 0 ≡ Some x → Reads ((45 ∷ d ∷ rest) ∷ words)
  unfolding after
  reads_short d x rest words other char done last place k =
      step names apart (at done last place) (45 ∷ d ∷ rest) words
      ∙ after_fails _ _ (short_fails d x rest (map row done) (pending_of last) (position place) other char)
      ∙ sym (ap (λ o. checked done (prefixed last o)) (said_short d rest words (left place) other) ∙ prefixed_none done last)

  waits_short : (d x : ℕ) (rest : Text) (words : List Text) → eqb d 45 ≡ false → slice_get (chars (d ∷ rest)) 0 ≡ Some x → Waits ((45 ∷ d ∷ rest) ∷ words)
  unfolding after
  waits_short d x rest words other char done name place known =
      waits_option (45 ∷ d ∷ rest) words done name place refl
      (step names apart (waits_at done name place) (45 ∷ d ∷ rest) words ∙ after_fails _ _ (short_waits d x rest (map row done) (Some (name, [])) (position place) name other char))

  -- an option that waits, at `--name`
  long_waits : (c : ℕ) (rest : Text) (done : List Saying) (name : Text) (place : ℕ) → is_among name names ≡ true
      → Fails (turn_fault (shape names) [] (stands (map row done) (Some (name, [])) (option name) place false) (45 ∷ 45 ∷ c ∷ rest))
  long_waits c rest done name place known =
      let text : Text = c ∷ rest in
      let h : Held = holds (map row done) (Some (name, [])) in
      elim (cases_Bool (is_among (name_in text) names)) [
        | inr unknown ↦ record { first = kind.UnknownArgument; rest = []; is = ap (λ (o : Option Rule). long_turn o (joined text) text (option name) place h) (found_is (name_in text) false unknown) }
        | inl other ↦ elim (cases_Bool (joined text)) [
          | inl e ↦ record {
            first = _;
            rest = _;
            is = ap₂ (λ (o : Option Rule) (b : Bool). long_turn o b text (option name) place h) (found_is (name_in text) true other) e
                ∙ ap (λ f. or_else (or_else f (use_fault false (option_rule (name_in text)) (value_in text ∷ []) (settled (rules names) h).rows)) []) (no_value done name known).is;
          }
          | inr e ↦ record {
            first = _;
            rest = _;
            is = ap₂ (λ (o : Option Rule) (b : Bool). long_turn o b text (option name) place h) (found_is (name_in text) true other) e
                ∙ ap (λ f. or_else f []) (no_value done name known).is;
          }
        ]
      ]

  waits_long : (c : ℕ) (rest : Text) (words : List Text) → Waits ((45 ∷ 45 ∷ c ∷ rest) ∷ words)
  unfolding after
  waits_long c rest words done name place known =
      waits_option (45 ∷ 45 ∷ c ∷ rest) words done name place refl
      (step names apart (waits_at done name place) (45 ∷ 45 ∷ c ∷ rest) words ∙ after_fails _ _ (long_waits c rest done name (position place) known))

  -- ---- all words

  no_first : (l : List ℕ) → slice_get l 0 ≡ None → l ≡ []
  no_first [] e = refl
  no_first (x ∷ l) e = absurd (cc)

  dash_first : (d : ℕ) (rest : Text) → chars (45 ∷ d ∷ rest) ≡ 45 ∷ chars (d ∷ rest)
  unfolding chars
  dash_first d rest = refl

  dash_alone : length (encode_utf8_all (45 ∷ [])) ≡ 1
  unfolding encode_utf8
  dash_alone = refl

  -- a word of UTF-8 that begins with one mark has a character behind it
  char_behind : (d : ℕ) (rest : Text) → IsUtf8 (45 ∷ d ∷ rest) → (x : ℕ) × (slice_get (chars (d ∷ rest)) 0 ≡ Some x)
  char_behind d rest utf8 = some (slice_get (chars (d ∷ rest)) 0) refl
    where
      some : (o : Option ℕ) → slice_get (chars (d ∷ rest)) 0 ≡ o → (x : ℕ) × (slice_get (chars (d ∷ rest)) 0 ≡ Some x)
      some (Some x) e = (x, e)
      some None e =
          let one_char : utf8.0 ≡ 45 ∷ [] = sym (chars-encodes utf8.0 utf8.1.0) ∙ ap chars utf8.1.1 ∙ dash_first d rest ∙ ap (λ l. 45 ∷ l) (no_first (chars (d ∷ rest)) e) in
          let short : length (45 ∷ d ∷ rest) ≡ 1 = ap length (sym utf8.1.1 ∙ ap encode_utf8_all one_char) ∙ dash_alone in
          absurd (omega arith)

  abbrev Both : List Text → Type 0
  Both words = Reads words × Waits words

  none_left : Both []
  unfolding outcome ends walk_fault keep sayings checked
  none_left = (λ done last place k. finish names apart done last idle (position place) false k, λ done name place known. rw (no_value done name known).is refl)

  at_dash : (d : ℕ) (rest : Text) (words : List Text) → IsUtf8 (45 ∷ d ∷ rest) → Both words → Both ((45 ∷ d ∷ rest) ∷ words)
  at_dash d rest words utf8 ih = elim (cases_Bool (eqb d 45)) [
    | inl e ↦ subst (λ x. Both ((45 ∷ x ∷ rest) ∷ words)) (sym (eqb-true d 45 e)) (two rest)
    | inr e ↦ let c = char_behind d rest utf8 in (reads_short d c.0 rest words e c.1, waits_short d c.0 rest words e c.1)
  ]
    where
      two : (r : Text) → Both ((45 ∷ 45 ∷ r) ∷ words)
      two [] = (reads_dashes words, waits_dashes words)
      two (c ∷ cs) = (reads_long c cs words ih.0 ih.1, waits_long c cs words)

  plainly : (word : Text) (words : List Text) → IsPlain word → Both words → Both (word ∷ words)
  plainly word words is ih = (reads_plain word words is ih.0, waits_plain word words is ih.0)

  at_word : (word : Text) (words : List Text) → IsUtf8 word → Both words → Both (word ∷ words)
  at_word [] words utf8 ih = plainly [] words nil_plain ih
  at_word (c ∷ []) words utf8 ih = plainly (c ∷ []) words (one_plain c) ih
  at_word (c ∷ d ∷ rest) words utf8 ih = elim (cases_Bool (eqb c 45)) [
    | inl e ↦ let is : c ≡ 45 = eqb-true c 45 e in subst (λ x. Both ((x ∷ d ∷ rest) ∷ words)) (sym is) (at_dash d rest words (subst (λ x. IsUtf8 (x ∷ d ∷ rest)) is utf8) ih)
    | inr e ↦ plainly (c ∷ d ∷ rest) words (other_plain c d rest e) ih
  ]

  all_words : (words : List Text) → AreUtf8 words → Both words
  all_words [] utf8 = none_left
  all_words (word ∷ words) utf8 = at_word word words utf8.0 (all_words words utf8.1)

  pub parsed : (words : List Text) → AreUtf8 words → outcome names apart (walk_from nothing_held) words ≡ checked [] (sayings names (mode ∷ input ∷ []) None words)
  parsed words utf8 = (all_words words utf8).0 [] None first tt
