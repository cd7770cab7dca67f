-- No argument has a default, and none is required.
use Rattle.std.proofs.Common.{◌≡◌, ◌∙◌, ℕ, Bool, true, false, cond, not, ◌&&◌, ◌||◌, refl, ap, ap₂, List, [], ◌∷◌, map, Option, Some, None}
use Rattle.std.specs.List.{fold, list_any}
use Rattle.clap.specs.Walk.{Held, Row, Rule, settled, has_row, nothing_held, walk, walk_from, with_default, finished, rows_after}
use Rattle.clap.specs.Kinds.{Kinds, or_else, check_kinds}
use Rattle.clap.specs.Takes.{is_given}
use Rattle.clap.specs.Faults.{walk_fault, settle_fault, default_fault, given_default_fault, defaults_fault, check_fault, level_fault}
use Rattle.command_words.specs.Table.{Text}
use Rattle.command_words.proofs.Arguments.{plain, option_rule, mode, input, rules, shape, are_apart}
use Rattle.command_words.proofs.Kept.{keep, or_else-nil}
use Rattle.command_words.proofs.Settled.{ends, outcome}

module _ (names : List Text) (apart : are_apart names ≡ true) where
  -- ---- defaults and what is required

  or-true : (b : Bool) → (b || true) ≡ true
  or-true true = refl
  or-true false = refl

  same_rows : (b : Bool) (rows : List Row) → cond b rows rows ≡ rows
  same_rows true rows = refl
  same_rows false rows = refl

  no_default : (id : Text) (long : Option Text) (index : Option ℕ) (rows : List Row) → default_fault rows (plain id long index) ≡ []
  no_default id long index rows = ap (λ b. cond b [] (given_default_fault (plain id long index) [])) (or-true (has_row id rows))

  no_defaults : (ns : List Text) (rows : List Row) → defaults_fault rows (map option_rule ns) ≡ []
  unfolding defaults_fault
  no_defaults [] rows = refl
  no_defaults (n ∷ ns) rows = ap₂ (λ (a : Kinds) (r : List Row). or_else a (defaults_fault r (map option_rule ns))) (no_default n (Some n) None rows) (same_rows (has_row n rows) rows) ∙ no_defaults ns rows

  all_no_defaults : (rows : List Row) → defaults_fault rows (rules names) ≡ []
  unfolding defaults_fault
  all_no_defaults rows =
      ap₂ (λ (a : Kinds) (r : List Row). or_else a (defaults_fault r (plain input None (Some 2) ∷ map option_rule names))) (no_default mode None (Some 1) rows) (same_rows (has_row mode rows) rows)
      ∙ ap₂ (λ (a : Kinds) (r : List Row). or_else a (defaults_fault r (map option_rule names))) (no_default input None (Some 2) rows) (same_rows (has_row input rows) rows)
      ∙ no_defaults names rows

  kept_rows : (ns : List Text) (rows : List Row) → fold with_default rows (map option_rule ns) ≡ rows
  kept_rows [] rows = refl
  kept_rows (n ∷ ns) rows = ap (λ (r : List Row). fold with_default r (map option_rule ns)) (same_rows (has_row n rows) rows) ∙ kept_rows ns rows

  all_kept : (rows : List Row) → fold with_default rows (rules names) ≡ rows
  all_kept rows =
      ap (λ (r : List Row). fold with_default r (plain input None (Some 2) ∷ map option_rule names)) (same_rows (has_row mode rows) rows)
      ∙ ap (λ (r : List Row). fold with_default r (map option_rule names)) (same_rows (has_row input rows) rows)
      ∙ kept_rows names rows

  none_required : (ns : List Text) (f : Rule → Bool) → list_any (λ a. a.required && f a) (map option_rule ns) ≡ false
  none_required [] f = refl
  none_required (n ∷ ns) f = none_required ns f

  unchecked : (rows : List Row) → check_fault (shape names) rows false ≡ []
  unchecked rows = ap (λ b. check_kinds false false b) (none_required names (λ a. not (is_given a.id rows)))

  -- the kinds of a whole parse and its rows
  pub level_is : (words : List Text)
      → keep (level_fault (shape names) [] nothing_held words false []) (rows_after (rules names) [] words) ≡ outcome names apart (walk_from nothing_held) words
  unfolding outcome ends
  level_is words =
      let end : Held = (walk (rules names) [] nothing_held words).held in
      ap₂ (λ (d : Kinds) (r : List Row). keep (or_else (walk_fault (shape names) [] (walk_from nothing_held) words) (or_else (settle_fault (rules names) false end) d)) r)
      (ap₂ or_else (all_no_defaults (settled (rules names) end).rows) (unchecked (finished (rules names) end))) (all_kept (settled (rules names) end).rows)
      ∙ ap (λ d. keep (or_else (walk_fault (shape names) [] (walk_from nothing_held) words) d) (settled (rules names) end).rows) (or_else-nil (settle_fault (rules names) false end))
