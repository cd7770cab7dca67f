-- Sets of items as bits, and as their members.
use Rattle.std.proofs.Common.{◌≡◌, ◌≢◌, ℕ, ◌+◌, ◌-◌, ◌/◌, ◌<◌, ◌≤◌, ◌^◌, Bool, true, false, ◌||◌, max, eqb, nat_lt, cond, bit_or, mod-lt, List, [], ◌∷◌, filter, ⊎_elim, refl, sym, ap, ap₂, ◌∙◌, arith}
use Rattle.std.specs.Int.{bit_at}
use Rattle.std.proofs.lemmas.Bool.{cases_Bool, cases_lt, eqb-true, eqb-false, eq-eqb, ne_eqb, lt-ltb, le-ltb}
use Rattle.std.proofs.lemmas.Nat.Bits.{bit_at-zero, bit_at-pow_same, bit_at-pow_other, bit_at_or}
use Rattle.sl_model.specs.Source.{numbers_below}
use Rattle.sl_model.specs.Body.{stands_in}
use Rattle.sl_model.specs.declared.limits.TheConstants.{SET_ITEMS}
use Rattle.dataflow.specs.ItemSets.{has_bit, members, with_item}
use Rattle.sl_laws.proofs.Numbers.{filter_numbers-agree, filter_numbers-more, filter_numbers-with, stands_in-numbers, stands_in-past}

-- which word has the bit of an item
bit-low : (low middle high p : ℕ) → p < 64 → has_bit low middle high p ≡ eqb (bit_at low p) 1
unfolding has_bit
bit-low low middle high p within = ap (λ b. cond b (eqb (bit_at low p) 1) (cond (nat_lt p 128) (eqb (bit_at middle (p - 64)) 1) (eqb (bit_at high (p - 128)) 1))) (lt-ltb p 64 within)

bit-middle : (low middle high p : ℕ) → 64 ≤ p → p < 128 → has_bit low middle high p ≡ eqb (bit_at middle (p - 64)) 1
unfolding has_bit
bit-middle low middle high p past within =
    ap₂ (λ a b. cond a (eqb (bit_at low p) 1) (cond b (eqb (bit_at middle (p - 64)) 1) (eqb (bit_at high (p - 128)) 1))) (le-ltb p 64 past) (lt-ltb p 128 within)

bit-high : (low middle high p : ℕ) → 128 ≤ p → has_bit low middle high p ≡ eqb (bit_at high (p - 128)) 1
unfolding has_bit
bit-high low middle high p past =
    ap₂ (λ a b. cond a (eqb (bit_at low p) 1) (cond b (eqb (bit_at middle (p - 64)) 1) (eqb (bit_at high (p - 128)) 1))) (le-ltb p 64 (omega arith)) (le-ltb p 128 past)

-- a bit of a word with one more bit set
bit-set : (word place i : ℕ) → eqb (bit_at (bit_or (2 ^ place) word) i) 1 ≡ (eqb i place || eqb (bit_at word i) 1)
bit-set word place i = ap (λ n. eqb n 1) (bit_at_or (2 ^ place) word i) ∙ ⊎_elim
    (λ (same : eqb i place ≡ true).
    let e : i ≡ place = eqb-true i place same in
    let one : bit_at (2 ^ place) i ≡ 1 = ap (bit_at (2 ^ place)) e ∙ bit_at-pow_same place in
    let small : bit_at word i < 2 = mod-lt (word / 2 ^ i) (omega arith) in
    let most : max (bit_at (2 ^ place) i) (bit_at word i) ≡ 1 = omega arith in
    ap (λ n. eqb n 1) most ∙ sym (ap (λ b. b || eqb (bit_at word i) 1) same))
    (λ (other : eqb i place ≡ false).
    let apart : i ≢ place = eqb-false i place other in
    let zero_bit : bit_at (2 ^ place) i ≡ 0 = bit_at-pow_other place i apart in
    let most : max (bit_at (2 ^ place) i) (bit_at word i) ≡ bit_at word i = omega arith in
    ap (λ n. eqb n 1) most ∙ sym (ap (λ b. b || eqb (bit_at word i) 1) other))
    (cases_Bool (eqb i place))

-- numbers are the same where they are so less another
eqb-less : (k p q : ℕ) → k ≤ p → k ≤ q → eqb (p - k) (q - k) ≡ eqb p q
eqb-less k p q a b = ⊎_elim
    (λ (same : eqb p q ≡ true). let e : p ≡ q = eqb-true p q same in eq-eqb (p - k) (q - k) (ap (λ n. n - k) e) ∙ sym same)
    (λ (other : eqb p q ≡ false). let apart : p ≢ q = eqb-false p q other in ne_eqb (p - k) (q - k) (λ e. let less : p - k ≡ q - k = e in apart (omega arith)) ∙ sym other)
    (cases_Bool (eqb p q))

-- an item that isn't the new one is as it was
as-before : (p item : ℕ) (now was : Bool) → p ≢ item → now ≡ was → now ≡ (eqb p item || was)
as-before p item now was other same = same ∙ sym (ap (λ b. b || was) (ne_eqb p item other))

-- words in which the bits are those of others, and one more, have the members and one more
more-members : (low middle high low2 middle2 high2 item : ℕ) → ((p : ℕ) → p < SET_ITEMS → has_bit low2 middle2 high2 p ≡ (eqb p item || has_bit low middle high p))
    → members low2 middle2 high2 ≡ with_item item (members low middle high)
unfolding members with_item
more-members low middle high low2 middle2 high2 item each =
    filter_numbers-agree (has_bit low2 middle2 high2) (λ p. eqb p item || stands_in p (members low middle high)) SET_ITEMS
    (λ p less. each p less ∙ ap (λ b. eqb p item || b) (sym (stands_in-numbers (has_bit low middle high) SET_ITEMS p less)))

pub insert-low : (low middle high word item : ℕ) → item < 64 → word ≡ bit_or (2 ^ item) low → members word middle high ≡ with_item item (members low middle high)
insert-low low middle high word item within is = more-members low middle high word middle high item (λ p less. ⊎_elim
    (λ (first : p < 64).
    bit-low word middle high p first ∙ ap (λ w. eqb (bit_at w p) 1) is ∙ bit-set low item p
    ∙ ap (λ b. eqb p item || b) (sym (bit-low low middle high p first)))
    (λ (past : 64 ≤ p). as-before p item (has_bit word middle high p) (has_bit low middle high p) (λ e. omega arith) (⊎_elim
    (λ (second : p < 128). bit-middle word middle high p past second ∙ sym (bit-middle low middle high p past second))
    (λ (third : 128 ≤ p). bit-high word middle high p third ∙ sym (bit-high low middle high p third))
    (cases_lt p 128)))
    (cases_lt p 64))

pub insert-middle : (low middle high word item : ℕ) → 64 ≤ item → item < 128 → word ≡ bit_or (2 ^ (item - 64)) middle → members low word high ≡ with_item item (members low middle high)
insert-middle low middle high word item above within is = more-members low middle high low word high item (λ p less. ⊎_elim
    (λ (first : p < 64). as-before p item (has_bit low word high p) (has_bit low middle high p) (λ e. omega arith)
    (bit-low low word high p first ∙ sym (bit-low low middle high p first)))
    (λ (past : 64 ≤ p). ⊎_elim
    (λ (second : p < 128).
    bit-middle low word high p past second ∙ ap (λ w. eqb (bit_at w (p - 64)) 1) is ∙ bit-set middle (item - 64) (p - 64)
    ∙ ap₂ (λ a b. a || b) (eqb-less 64 p item past above) (sym (bit-middle low middle high p past second)))
    (λ (third : 128 ≤ p). as-before p item (has_bit low word high p) (has_bit low middle high p) (λ e. omega arith)
    (bit-high low word high p third ∙ sym (bit-high low middle high p third)))
    (cases_lt p 128))
    (cases_lt p 64))

pub insert-high : (low middle high word item : ℕ) → 128 ≤ item → word ≡ bit_or (2 ^ (item - 128)) high → members low middle word ≡ with_item item (members low middle high)
insert-high low middle high word item above is = more-members low middle high low middle word item (λ p less. ⊎_elim
    (λ (first : p < 64). as-before p item (has_bit low middle word p) (has_bit low middle high p) (λ e. omega arith)
    (bit-low low middle word p first ∙ sym (bit-low low middle high p first)))
    (λ (past : 64 ≤ p). ⊎_elim
    (λ (second : p < 128). as-before p item (has_bit low middle word p) (has_bit low middle high p) (λ e. omega arith)
    (bit-middle low middle word p past second ∙ sym (bit-middle low middle high p past second)))
    (λ (third : 128 ≤ p).
    bit-high low middle word p third ∙ ap (λ w. eqb (bit_at w (p - 128)) 1) is ∙ bit-set high (item - 128) (p - 128)
    ∙ ap₂ (λ a b. a || b) (eqb-less 128 p item third above) (sym (bit-high low middle high p third)))
    (cases_lt p 128))
    (cases_lt p 64))

-- where no bit is set there are no members
pub members-none : members 0 0 0 ≡ []
unfolding members
members-none = filter_numbers-agree (has_bit 0 0 0) (λ p. false) SET_ITEMS (λ p less. ⊎_elim
    (λ (first : p < 64). bit-low 0 0 0 p first ∙ ap (λ n. eqb n 1) (bit_at-zero p))
    (λ (past : 64 ≤ p). ⊎_elim
    (λ (second : p < 128). bit-middle 0 0 0 p past second ∙ ap (λ n. eqb n 1) (bit_at-zero (p - 64)))
    (λ (third : 128 ≤ p). bit-high 0 0 0 p third ∙ ap (λ n. eqb n 1) (bit_at-zero (p - 128)))
    (cases_lt p 128))
    (cases_lt p 64)) ∙ none (numbers_below SET_ITEMS)
  where
    none : (xs : List ℕ) → filter (λ p. false) xs ≡ []
    none [] = refl
    none (x ∷ xs) = none xs

-- an item is a member where its bit is set, and none is that isn't below the limit
pub member-within : (low middle high item : ℕ) → item < SET_ITEMS → stands_in item (members low middle high) ≡ has_bit low middle high item
unfolding members
member-within low middle high item less = stands_in-numbers (has_bit low middle high) SET_ITEMS item less

pub member-past : (low middle high item : ℕ) → SET_ITEMS ≤ item → stands_in item (members low middle high) ≡ false
unfolding members
member-past low middle high item past = stands_in-past (has_bit low middle high) SET_ITEMS item past

-- the members are the numbers below the limit that are members
pub members-ascending : (low middle high : ℕ) → members low middle high ≡ filter (λ p. stands_in p (members low middle high)) (numbers_below SET_ITEMS)
unfolding members
members-ascending low middle high =
    filter_numbers-agree (has_bit low middle high) (λ p. stands_in p (members low middle high)) SET_ITEMS
    (λ p less. sym (stands_in-numbers (has_bit low middle high) SET_ITEMS p less))

-- one more of those that pass a test, below a number, is put behind them
pub with_item-next : (t : ℕ → Bool) (n : ℕ) → n < SET_ITEMS → t n ≡ true → with_item n (filter t (numbers_below n)) ≡ filter t (numbers_below (n + 1))
unfolding with_item
with_item-next t n less pass = filter_numbers-with t n SET_ITEMS less ∙ sym (filter_numbers-more t n pass)
