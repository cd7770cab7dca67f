-- Tests that hold together, one after the other, and of options.
use Rattle.std.proofs.Common.{◌≡◌, Bool, true, false, cond, ◌||◌, not, Option, None, Some, is_some, refl, sym, true≢false}

-- where one of two tests must hold and the first, denied, holds, the second does
pub implied : (a b : Bool) → (not a || b) ≡ true → a ≡ true → b ≡ true
implied true b e f = e
implied false b e f = absurd (true≢false (sym f))

-- where a test holds and another one, asked then, holds
pub then_parts : (a b : Bool) → cond a b false ≡ true → (a ≡ true) × (b ≡ true)
then_parts true b e = (refl, e)
then_parts false b e = absurd (true≢false (sym e))

-- where a test fails and another one, asked then, holds
pub else_parts : (a b : Bool) → cond a false b ≡ true → (a ≡ false) × (b ≡ true)
else_parts true b e = absurd (true≢false (sym e))
else_parts false b e = (refl, e)

-- where neither of two tests holds
pub neither_parts : (a b : Bool) → cond a true b ≡ false → (a ≡ false) × (b ≡ false)
neither_parts true b e = absurd (true≢false e)
neither_parts false b e = (refl, e)

-- an option that has a value is that value
pub some_value : {A : Type 0} (o : Option A) → is_some o ≡ true → (x : A) × (o ≡ Some x)
some_value None e = absurd (true≢false (sym e))
some_value (Some x) e = (x, refl)

-- an option without a value is none
pub is_none_from : {A : Type 0} (o : Option A) → is_some o ≡ false → o ≡ None
is_none_from None e = refl
is_none_from (Some x) e = absurd (true≢false e)
