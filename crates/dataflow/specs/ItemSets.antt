-- Sets of items as the bits of three words, and as the list of their members.
use Rattle.std.specs.Prelude.{ℕ, Bool, ◌-◌, ◌==◌, ◌||◌, nat_lt, filter, List, if◌then◌else◌}
use Rattle.std.specs.Int.{bit_at}
use Rattle.sl_model.specs.Source.{numbers_below}
use Rattle.sl_model.specs.Body.{stands_in}
use Rattle.sl_model.specs.declared.limits.TheConstants.{SET_ITEMS}

-- Is the bit of an item set in three words of 64 bits?
unfoldable pub has_bit : ℕ → ℕ → ℕ → ℕ → Bool
has_bit low middle high p =
    if nat_lt p 64 then bit_at low p == 1 else
    if nat_lt p 128 then bit_at middle (p - 64) == 1 else bit_at high (p - 128) == 1

-- the items whose bits are set, ascending
unfoldable pub members : ℕ → ℕ → ℕ → List ℕ
members low middle high = filter (has_bit low middle high) (numbers_below SET_ITEMS)

-- a set with one more item
unfoldable pub with_item : ℕ → List ℕ → List ℕ
with_item item set = filter (λ p. p == item || stands_in p set) (numbers_below SET_ITEMS)
