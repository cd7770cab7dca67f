-- Bytes that are put in places, with zeros behind them.
use Rattle.std.proofs.Common.{◌≡◌, ◌∙◌, sym, ap, refl, ℕ, zero, suc, ◌+◌, ◌≤◌, true, false, cond, List, [], ◌∷◌, ◌++◌, length, arith}
use Rattle.std.specs.Prelude.{take, drop, slice_index}
use Rattle.std.proofs.lemmas.List.{append_assoc, drop-drop, length-append}
use Rattle.sl_isa.specs.Arch.{padded_values}
use Rattle.sl_isa.specs.declared.meaning.Transfer.{Transfer}
use Rattle.lane_ops.specs.Lanes.{lanes_of}
use Rattle.lane_ops.proofs.ForCallers.{length-lanes_of}
use Rattle.form_isa.specs.Access.{width_bytes, stored_bytes, transfer_bytes}

-- values before zeros
before-zeros : (m : ℕ) (values : List ℕ) → length values ≤ m →
    values ++ drop (length values) (padded_values m []) ≡ padded_values m values
unfolding padded_values
before-zeros m [] few = refl
before-zeros zero (x ∷ values) few = absurd (omega (arith, few))
before-zeros (suc m) (x ∷ values) few = ap (λ v. x ∷ v) (before-zeros m values (omega (arith, few)))

take-front : (n : ℕ) (front back : List ℕ) → length front ≡ n → take n (front ++ back) ≡ front
take-front zero [] back e = refl
take-front (suc n) [] back e = absurd (omega (arith, e))
take-front zero (x ∷ front) back e = absurd (omega (arith, e))
take-front (suc n) (x ∷ front) back e = ap (λ v. x ∷ v) (take-front n front back (omega (arith, e)))

drop-front : (n : ℕ) (front back : List ℕ) → length front ≡ n → drop n (front ++ back) ≡ back
drop-front zero [] back e = refl
drop-front (suc n) [] back e = absurd (omega (arith, e))
drop-front zero (x ∷ front) back e = absurd (omega (arith, e))
drop-front (suc n) (x ∷ front) back e = drop-front n front back (omega (arith, e))

-- a store of nothing
pub none_put : (t : Transfer) (ins : List ℕ) → t.store ≡ false → padded_values 32 [] ≡ padded_values 32 (transfer_bytes t ins)
unfolding transfer_bytes
none_put t ins e = ap (λ b. padded_values 32 (cond b (stored_bytes t.pair (width_bytes t.width) ins) [])) (sym e)

-- how long parts of zeros are
pub zeros-count : (k n m : ℕ) → n + k ≤ m → length (take k (drop n (padded_values m []))) ≡ k
unfolding padded_values
zeros-count zero n m few = take-zero (drop n (padded_values m []))
  where
    take-zero : (xs : List ℕ) → length (take 0 xs) ≡ 0
    take-zero [] = refl
    take-zero (x ∷ xs) = refl
zeros-count (suc k) n zero few = absurd (omega (arith, few))
zeros-count (suc k) zero (suc m) few = ap suc (zeros-count k 0 m (omega (arith, few)))
zeros-count (suc k) (suc n) (suc m) few = zeros-count (suc k) n m (omega (arith, few))

pub behind-count : (k n : ℕ) (first : List ℕ) → length first ≡ n → n + k ≤ 32 →
    length (take k (drop n (first ++ drop n (padded_values 32 [])))) ≡ k
behind-count k n first e few =
    ap (λ v. length (take k v)) (drop-front n first (drop n (padded_values 32 [])) e) ∙ zeros-count k n 32 few

-- a store of one register
pub one_put : (t : Transfer) (ins first : List ℕ) (n : ℕ) → t.store ≡ true → t.pair ≡ false → n ≡ width_bytes t.width → n ≤ 16 →
    first ≡ lanes_of 8 n (slice_index ins 0) →
    first ++ drop n (padded_values 32 []) ≡ padded_values 32 (transfer_bytes t ins)
unfolding transfer_bytes stored_bytes
one_put t ins first n e f g few is =
    let count : length first ≡ n = ap length is ∙ length-lanes_of 8 n (slice_index ins 0) in
    let same : transfer_bytes t ins ≡ first =
    ap (λ b. cond b (stored_bytes t.pair (width_bytes t.width) ins) []) e
    ∙ (ap (λ b. stored_bytes b (width_bytes t.width) ins) f ∙ (ap (λ k. lanes_of 8 k (slice_index ins 0)) (sym g) ∙ sym is)) in
    ap (λ k. first ++ drop k (padded_values 32 [])) (sym count)
    ∙ (before-zeros 32 first (omega (arith, count, few)) ∙ ap (padded_values 32) (sym same))

-- of a pair
pub two_put : (t : Transfer) (ins first second : List ℕ) (n k : ℕ) → t.store ≡ true → t.pair ≡ true → n ≡ width_bytes t.width →
    n ≤ 16 → k ≡ n →
    first ≡ lanes_of 8 n (slice_index ins 0) → second ≡ lanes_of 8 n (slice_index ins 1) →
    take n (first ++ drop n (padded_values 32 []))
    ++ (second ++ drop k (drop n (first ++ drop n (padded_values 32 [])))) ≡ padded_values 32 (transfer_bytes t ins)
unfolding transfer_bytes stored_bytes
two_put t ins first second n k e f g few again is other =
    let zeros : List ℕ = padded_values 32 [] in
    let count : length first ≡ n = ap length is ∙ length-lanes_of 8 n (slice_index ins 0) in
    let others : length second ≡ n = ap length other ∙ length-lanes_of 8 n (slice_index ins 1) in
    let all : n + k ≡ length (first ++ second) =
    ap (λ m. n + m) again ∙ (ap (λ m. m + n) (sym count) ∙ (ap (λ m. length first + m) (sym others) ∙ sym (length-append first second))) in
    let same : transfer_bytes t ins ≡ first ++ second =
    ap (λ b. cond b (stored_bytes t.pair (width_bytes t.width) ins) []) e
    ∙ (ap (λ b. stored_bytes b (width_bytes t.width) ins) f
    ∙ (ap (λ m. lanes_of 8 m (slice_index ins 0) ++ lanes_of 8 m (slice_index ins 1)) (sym g)
    ∙ (ap (λ v. v ++ lanes_of 8 n (slice_index ins 1)) (sym is) ∙ ap (λ v. first ++ v) (sym other)))) in
    ap (λ v. v ++ (second ++ drop k (drop n (first ++ drop n zeros)))) (take-front n first (drop n zeros) count)
    ∙ (ap (λ v. first ++ (second ++ drop k v)) (drop-front n first (drop n zeros) count)
    ∙ (ap (λ v. first ++ (second ++ v)) (drop-drop k n zeros)
    ∙ (sym (append_assoc first second (drop (n + k) zeros))
    ∙ (ap (λ m. (first ++ second) ++ drop m zeros) all
    ∙ (before-zeros 32 (first ++ second) (omega (arith, sym all, again, few)) ∙ ap (padded_values 32) (sym same))))))
