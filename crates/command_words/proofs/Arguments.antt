-- The arguments of the command, as clap looks them up.
use Rattle.std.proofs.Common.{◌≡◌, ◌∙◌, inl, inr, ℕ, Bool, true, false, cond, not, ◌&&◌, ◌||◌, refl, sym, ap, List, [], ◌∷◌, map, Option, Some, None, is_some, codes, true≢false}
use Rattle.std.specs.List.{find, list_all}
use Rattle.std.specs.Str.{bytes_eq}
use Rattle.std.proofs.lemmas.Bool.{cases_Bool}
use Rattle.std.proofs.lemmas.Slice.Eq.{bytes_eq-Decides}
use Rattle.clap.specs.Walk.{Rule, has_long, arg_by_id, arg_by_long, arg_by_short, arg_by_index}
use Rattle.clap.specs.Simple.{Shape, new_rule, new_shape}
use Rattle.clap.specs.declared.builder.action.ArgAction.TheVariants.{Set}
use Rattle.clap.specs.declared.builder.range.ValueRange.{ValueRange}
use Rattle.clap.specs.declared.builder.value_parser.ValueParser.TheVariants as vp
use Rattle.command_words.specs.Saying.{is_among}
use Rattle.command_words.specs.Table.{Text}

-- ---- the command

abbrev pub one : ValueRange
one = record { start_inclusive = 1; end_inclusive = 1 }

-- an argument of one text
abbrev pub plain : Text → Option Text → Option ℕ → Rule
plain id long index = record (new_rule id) { long = long; index = index; action = Some Set; range = Some one; parser = Some vp.String }

abbrev pub option_rule : Text → Rule
option_rule name = plain name (Some name) None

abbrev pub mode : Text
mode = codes "MODE"

abbrev pub input : Text
input = codes "INPUT"

abbrev pub rules : List Text → List Rule
rules names = plain mode None (Some 1) ∷ plain input None (Some 2) ∷ map option_rule names

abbrev pub shape : List Text → Shape
shape names = record (new_shape (codes "slothy")) { rules = rules names; is_built = true; disable_help_subcommand = true; disable_help_flag = true }

-- ---- look-ups

pub same : (x y : Text) → bytes_eq x y ≡ true → x ≡ y
same x y e = (bytes_eq-Decides x y).0 e

pub same_self : (x : Text) → bytes_eq x x ≡ true
same_self x = (bytes_eq-Decides x x).1 refl

abbrev by_long : Text → Rule → Bool
by_long name a = not (is_some a.index) && has_long a name

long_step : (b r : Bool) (n name : Text) (rest : Option Rule) → (b ≡ true → n ≡ name) → rest ≡ cond r (Some (option_rule name)) None
    → cond (b || false) (Some (option_rule n)) rest ≡ cond (b || r) (Some (option_rule name)) None
long_step true r n name rest h e = ap (λ t. Some (option_rule t)) (h refl)
long_step false r n name rest h e = e

long_in : (names : List Text) (name : Text) → find (by_long name) (map option_rule names) ≡ cond (is_among name names) (Some (option_rule name)) None
long_in [] name = refl
long_in (n ∷ names) name = long_step (bytes_eq n name) (is_among name names) n name (find (by_long name) (map option_rule names)) (same n name) (long_in names name)

pub long_is : (names : List Text) (name : Text) → arg_by_long (rules names) name ≡ cond (is_among name names) (Some (option_rule name)) None
long_is names name = long_in names name

pub short_is : (names : List Text) (x : ℕ) → arg_by_short (rules names) x ≡ None
short_is [] x = refl
short_is (n ∷ names) x = short_is names x

pub third_is : (names : List Text) → arg_by_index (rules names) 3 ≡ None
third_is [] = refl
third_is (n ∷ names) = third_is names

-- the names are none of the places
abbrev pub are_apart : List Text → Bool
are_apart = list_all (λ n. not (bytes_eq mode n) && not (bytes_eq input n))

both : (a b : Bool) → (a && b) ≡ true → (a ≡ true) × (b ≡ true)
both true b e = (refl, e)
both false b e = absurd (true≢false (sym e))

off : (b : Bool) → not b ≡ true → b ≡ false
off true e = absurd (true≢false (sym e))
off false e = refl

apart_is : (names : List Text) (name : Text) → are_apart names ≡ true → is_among name names ≡ true → (bytes_eq mode name ≡ false) × (bytes_eq input name ≡ false)
apart_is [] name apart known = absurd (true≢false (sym known))
apart_is (n ∷ names) name apart known = elim (cases_Bool (bytes_eq n name)) [
  | inl here ↦
      let p = both (not (bytes_eq mode n)) (not (bytes_eq input n)) (both (not (bytes_eq mode n) && not (bytes_eq input n)) (are_apart names) apart).0 in
      let e : n ≡ name = same n name here in
      (ap (bytes_eq mode) (sym e) ∙ off (bytes_eq mode n) p.0, ap (bytes_eq input) (sym e) ∙ off (bytes_eq input n) p.1)
  | inr past ↦ apart_is names name (both (not (bytes_eq mode n) && not (bytes_eq input n)) (are_apart names) apart).1 (ap (λ b. b || is_among name names) (sym past) ∙ known)
]

id_in : (names : List Text) (name : Text) → is_among name names ≡ true → find (λ a. bytes_eq a.id name) (map option_rule names) ≡ Some (option_rule name)
id_in [] name known = absurd (true≢false (sym known))
id_in (n ∷ names) name known = elim (cases_Bool (bytes_eq n name)) [
  | inl here ↦ ap (λ b. cond b (Some (option_rule n)) (find (λ a. bytes_eq a.id name) (map option_rule names))) here ∙ ap (λ t. Some (option_rule t)) (same n name here)
  | inr past ↦ ap (λ b. cond b (Some (option_rule n)) (find (λ a. bytes_eq a.id name) (map option_rule names))) past
      ∙ id_in names name (ap (λ b. b || is_among name names) (sym past) ∙ known)
]

-- an argument that the command has under this id
pub record Known (names : List Text) (id : Text) : Type 0 where
  pub long : Option Text
  pub index : Option ℕ
  pub found : arg_by_id (rules names) id ≡ Some (plain id long index)

pub mode_known : (names : List Text) → Known names mode
mode_known names = record { long = None; index = Some 1; found = refl }

pub input_known : (names : List Text) → Known names input
input_known names = record { long = None; index = Some 2; found = refl }

pub option_known : (names : List Text) (name : Text) → are_apart names ≡ true → is_among name names ≡ true → Known names name
option_known names name apart known =
    let p = apart_is names name apart known in
    record { long = Some name; index = None; found = rw (p.0, p.1) (id_in names name known) }
