-- An instruction that was read is kept as one of its own row.
use Rattle.std.proofs.Common.{◌≡◌, ◌∙◌, sym, ap, subst, refl, ℕ, zero, suc, ◌==◌, ◌≤◌, true, false, cond, not, List, [], ◌∷◌, length}
use Rattle.std.specs.Prelude.{ℤ, nat_le, unsigned_abs, Option, Some, None, slice_get, slice_set}
use Rattle.std.proofs.Math.Logic.{⊎_elim}
use Rattle.std.proofs.lemmas.Bool.{leb-true, cases_Bool, false≢true}
use Rattle.form_table.specs.Rows.{row_operands}
use Rattle.form_table.specs.Reads.{held_at, is_zero, without_number, settled}
use Rattle.form_table.specs.Tables.{is_own, same_spellings, twice_operands, is_kept_by, is_kept_at, has_kept, all_kept}
use Rattle.form_table.specs.declared.rows.Alias.{Alias}
use Rattle.form_table.specs.declared.rows.Alias.TheVariants as alias
use Rattle.form_table.specs.declared.rows.Row.{Row}
use Rattle.form_table.specs.declared.spells.Held.{Held}
use Rattle.form_table.specs.declared.reader.Fit.{Fit}
use Rattle.form_table.proofs.ForCallers.{Shaped, all_kept_at, SameNumbers, fit_with}
use Rattle.form_isa.specs.TableIsa.{ranges, last_number, is_kept}
use Rattle.form_isa.specs.LawfulTable.{is_last_number, has_its_number}
use Rattle.form_isa.proofs.Numbers.{three, EndsAt, last-is, last-number}
use Rattle.sl_laws.proofs.Tests.{then_parts}

-- The row that an alias names keeps its own spelling: so no alias names its own row.
own-row : (row target : Row) (o : Option Row) → o ≡ Some row → o ≡ Some target → is_own target.alias ≡ true →
    is_own row.alias ≡ true
own-row row target o e f own = subst (λ (v : Row). is_own v.alias ≡ true) (let same : target ≡ row = cc in same) own

named-own : (row : Row) (a : Alias) (o : Option Row) →
    ((target : Row) → is_kept_by row a target ≡ true → is_own target.alias ≡ true) →
    is_kept_at row a o ≡ true → o ≡ Some row → is_own row.alias ≡ true
named-own row a None own e at = absurd (false≢true e)
named-own row a (Some target) own e at = own-row row target (Some target) at refl (own target e)

as-own : (table : List Row) (fit : Fit) (row : Row) (form : ℕ) → slice_get table fit.form ≡ Some row →
    settled (alias.As form) fit ≡ fit →
    has_kept table row (alias.As form) ≡ true → is_own row.alias ≡ true
unfolding settled
as-own table fit row form at stays e =
    named-own row (alias.As form) (slice_get table form)
    (λ target kept. (then_parts (is_own target.alias) (same_spellings (row_operands row) (row_operands target)) kept).0) e
    (ap (λ (f : Fit). slice_get table f.form) stays ∙ at)

repeat-own : (table : List Row) (fit : Fit) (row : Row) (form : ℕ) → slice_get table fit.form ≡ Some row →
    settled (alias.Repeat form) fit ≡ fit →
    has_kept table row (alias.Repeat form) ≡ true → is_own row.alias ≡ true
unfolding settled
repeat-own table fit row form at stays e =
    named-own row (alias.Repeat form) (slice_get table form)
    (λ target kept. (then_parts (is_own target.alias) (same_spellings (twice_operands row) (row_operands target)) kept).0) e
    (ap (λ (f : Fit). slice_get table f.form) stays ∙ at)

-- What was kept with its number isn't without it.
set-none : (helds : List Held) (place : ℕ) (held : Held) (n : ℤ) → held.number ≡ None →
    (held_at (slice_set helds place held) place).number ≡ Some n → ⊥
set-none [] place held n e f = cc
set-none (h ∷ helds) zero held n e f = cc
set-none (h ∷ helds) (suc place) held n e f = set-none helds place held n e f

not-zero : (fit : Fit) (form place : ℕ) (n : ℤ) → settled (alias.ZeroAs form place) fit ≡ fit →
    (held_at fit.helds place).number ≡ Some n → (unsigned_abs n == 0) ≡ true → ⊥
unfolding settled
not-zero fit form place n stays e none =
    let left : Fit = record { form = form; helds = without_number fit.helds place } in
    let test : is_zero (held_at fit.helds place).number ≡ true = ap is_zero e ∙ none in
    let same : left ≡ fit = ap (λ b. cond b left fit) (sym test) ∙ stays in
    set-none fit.helds place (record { register = (held_at fit.helds place).register; number = None }) n refl
    (ap (λ (f : Fit). (held_at f.helds place).number) same ∙ e)

zero-alone : (fit : Fit) (row : Row) (form place : ℕ) → settled (alias.ZeroAs form place) fit ≡ fit →
    Shaped (row_operands row) fit.helds →
    has_its_number (alias.ZeroAs form place) (row_operands row) ≡ true →
    is_kept (alias.ZeroAs form place) (last_number row (three fit.helds)) ≡ true
zero-alone fit row form place stays s e =
    let parts = then_parts (nat_le (length (ranges (row_operands row))) 3) (is_last_number place (row_operands row)) e in
    let ends : EndsAt place (row_operands row) fit.helds = last-is place (row_operands row) fit.helds s parts.1 in
    let few : length (ranges (row_operands row)) ≤ 3 = leb-true (length (ranges (row_operands row))) 3 parts.0 in
    ap (λ n. not (unsigned_abs n == 0)) (last-number row fit.helds place ends few)
    ∙ ap not (⊎_elim (λ none. absurd (not-zero fit form place ends.number stays ends.held none)) (λ some. some)
    (cases_Bool (unsigned_abs ends.number == 0)))

alone-by : (table : List Row) (fit : Fit) (row : Row) (a : Alias) → row.alias ≡ a → slice_get table fit.form ≡ Some row →
    settled a fit ≡ fit →
    has_kept table row a ≡ true → has_its_number a (row_operands row) ≡ true → Shaped (row_operands row) fit.helds →
    is_kept a (last_number row (three fit.helds)) ≡ true
alone-by table fit row alias.Own is at stays e number s = refl
alone-by table fit row (alias.As form) is at stays e number s =
    absurd (false≢true (ap is_own (sym is) ∙ as-own table fit row form at stays e))
alone-by table fit row (alias.Repeat form) is at stays e number s =
    absurd (false≢true (ap is_own (sym is) ∙ repeat-own table fit row form at stays e))
alone-by table fit row (alias.ZeroAs form place) is at stays e number s = zero-alone fit row form place stays s number

pub kept-alone : (table : List Row) (fit : Fit) (row : Row) → all_kept table table ≡ true →
    slice_get table fit.form ≡ Some row → settled row.alias fit ≡ fit →
    has_its_number row.alias (row_operands row) ≡ true → Shaped (row_operands row) fit.helds →
    is_kept row.alias (last_number row (three fit.helds)) ≡ true
kept-alone table fit row kept at stays number s =
    alone-by table fit row row.alias refl at stays (all_kept_at table table fit.form row kept at) number s

-- ---- the same with other registers

still-numbered : (o : Option ℤ) → ((n : ℤ) → o ≡ Some n → (unsigned_abs n == 0) ≡ true → ⊥) → is_zero o ≡ false
still-numbered None other = refl
still-numbered (Some n) other = ⊎_elim (λ none. absurd (other n refl none)) (λ some. some) (cases_Bool (unsigned_abs n == 0))

number-same : (place : ℕ) (olds news : List Held) → SameNumbers olds news → (held_at news place).number ≡ (held_at olds place).number
number-same place [] [] same = refl
number-same place [] (new ∷ news) same = absurd same
number-same place (old ∷ olds) [] same = absurd same
number-same zero (old ∷ olds) (new ∷ news) same = same.0
number-same (suc place) (old ∷ olds) (new ∷ news) same = number-same place olds news same.1

zero-stays : (fit : Fit) (form place : ℕ) (news : List Held) → settled (alias.ZeroAs form place) fit ≡ fit → SameNumbers fit.helds news →
    settled (alias.ZeroAs form place) (fit_with fit.form news) ≡ fit_with fit.form news
unfolding settled
zero-stays fit form place news stays same =
    ap (λ b. cond b (fit_with form (without_number news place)) (fit_with fit.form news))
    (ap is_zero (number-same place fit.helds news same)
    ∙ still-numbered (held_at fit.helds place).number (λ n e none. not-zero fit form place n stays e none))

stays-by : (table : List Row) (fit : Fit) (row : Row) (a : Alias) (news : List Held) → row.alias ≡ a → slice_get table fit.form ≡ Some row →
    settled a fit ≡ fit → has_kept table row a ≡ true → SameNumbers fit.helds news →
    settled a (fit_with fit.form news) ≡ fit_with fit.form news
unfolding settled
stays-by table fit row alias.Own news is at stays e same = refl
stays-by table fit row (alias.As form) news is at stays e same =
    absurd (false≢true (ap is_own (sym is) ∙ as-own table fit row form at stays e))
stays-by table fit row (alias.Repeat form) news is at stays e same =
    absurd (false≢true (ap is_own (sym is) ∙ repeat-own table fit row form at stays e))
stays-by table fit row (alias.ZeroAs form place) news is at stays e same = zero-stays fit form place news stays same

-- A form that keeps what was read keeps it with other registers.
pub stays-renamed : (table : List Row) (fit : Fit) (row : Row) (news : List Held) → all_kept table table ≡ true →
    slice_get table fit.form ≡ Some row → settled row.alias fit ≡ fit → SameNumbers fit.helds news →
    settled row.alias (fit_with fit.form news) ≡ fit_with fit.form news
stays-renamed table fit row news kept at stays same =
    stays-by table fit row row.alias news refl at stays (all_kept_at table table fit.form row kept at) same
