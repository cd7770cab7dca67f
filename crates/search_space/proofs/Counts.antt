-- How many items stand in an order, and how many of them aren't placed.
use Rattle.std.proofs.Common.{◌≡◌, ℕ, zero, suc, ◌+◌, ◌<◌, ◌≤◌, Bool, true, false, ◌&&◌, ◌||◌, eqb, if◌then◌else◌, List, [], ◌∷◌, length, ⊎_elim, refl, sym, ap, ◌∙◌, subst, true≢false, arith}
use Rattle.std.proofs.lemmas.Bool.{cases_Bool, and_parts, eqb-true, eq-eqb, ne_eqb, or_parts, not-true}
use Rattle.sl_model.specs.declared.instruction.Instr.{Instr}
use Rattle.sl_model.specs.declared.schedule.Choice.{Choice}
use Rattle.sl_model.specs.declared.schedule.Source.{Source}
use Rattle.sl_model.specs.Body.{is_placed, is_full, stands_in}
use Rattle.sl_model.specs.Graph.{IsOnce, AreSources}
use Rattle.sl_model.specs.Legal.{Problem}
use Rattle.sl_laws.proofs.Rules.{keeps_rules}
use Rattle.sl_laws.proofs.Orders.{stands_first, stands_behind}
use Rattle.search_space.specs.Searchable.{IsSearchable, AreMade}

-- ---- an order has as many numbers as there are items

-- how many numbers below a number pass a test
passing : (ℕ → Bool) → ℕ → ℕ
passing t zero = 0
passing t (suc n) = passing t n + (if t n then 1 else 0)

-- all, where each passes
passing-all : (t : ℕ → Bool) (n : ℕ) → ((k : ℕ) → k < n → t k ≡ true) → passing t n ≡ n
unfolding passing
passing-all t zero each = refl
passing-all t (suc n) each =
    let before : passing t n ≡ n = passing-all t n (λ k less. each k (omega arith)) in
    ap (λ b. passing t n + (if b then 1 else 0)) (each n (omega arith)) ∙ (let one : passing t n + 1 ≡ suc n = omega arith in one)

-- none, where none does
passing-none : (t : ℕ → Bool) (n : ℕ) → ((k : ℕ) → k < n → t k ≡ false) → passing t n ≡ 0
unfolding passing
passing-none t zero each = refl
passing-none t (suc n) each =
    let before : passing t n ≡ 0 = passing-none t n (λ k less. each k (omega arith)) in
    ap (λ b. passing t n + (if b then 1 else 0)) (each n (omega arith)) ∙ (let none : passing t n + 0 ≡ 0 = omega arith in none)

-- tests that agree
passing-agree : (t s : ℕ → Bool) (n : ℕ) → ((k : ℕ) → k < n → t k ≡ s k) → passing t n ≡ passing s n
unfolding passing
passing-agree t s zero same = refl
passing-agree t s (suc n) same =
    let before : passing t n ≡ passing s n = passing-agree t s n (λ k less. same k (omega arith)) in
    ap (λ b. passing t n + (if b then 1 else 0)) (same n (omega arith)) ∙ ap (λ m. m + (if s n then 1 else 0)) before

-- one number more, beside those that pass
passing-also : (t : ℕ → Bool) (p n : ℕ) → p < n → t p ≡ false → passing (λ k. eqb p k || t k) n ≡ suc (passing t n)
unfolding passing
passing-also t p zero below lacks = absurd (omega arith)
passing-also t p (suc n) below lacks = ⊎_elim
    (λ (here : eqb p n ≡ true).
    let same : p ≡ n = eqb-true p n here in
    let before : passing (λ k. eqb p k || t k) n ≡ passing t n = passing-agree (λ k. eqb p k || t k) t n (λ k less. ap (λ b. b || t k) (ne_eqb p k (λ (e : p ≡ k). omega arith))) in
    let none : t n ≡ false = ap t (sym same) ∙ lacks in
    ap (λ b. passing (λ k. eqb p k || t k) n + (if b || t n then 1 else 0)) here
    ∙ (let one : passing (λ k. eqb p k || t k) n + 1 ≡ suc (passing t n + 0) = omega arith in one)
    ∙ ap (λ b. suc (passing t n + (if b then 1 else 0))) (sym none))
    (λ (other : eqb p n ≡ false).
    let less : p < n = below-other n below other in
    let before : passing (λ k. eqb p k || t k) n ≡ suc (passing t n) = passing-also t p n less lacks in
    ap (λ b. passing (λ k. eqb p k || t k) n + (if b || t n then 1 else 0)) other
    ∙ more (if t n then 1 else 0) (passing (λ k. eqb p k || t k) n) (passing t n) before)
    (cases_Bool (eqb p n))
  where
    below-other : (n : ℕ) → p < suc n → eqb p n ≡ false → p < n
    below-other n below other =
        let ne : p ≡ n → ⊥ = λ (e : p ≡ n). true≢false (sym (eq-eqb p n e) ∙ other) in
        omega arith

    more : (extra m n : ℕ) → m ≡ suc n → m + extra ≡ suc (n + extra)
    more extra m n e = omega arith

-- the numbers of an order without repetition, all below a number
standing-count : (n : ℕ) (order : List ℕ) → IsOnce order → ((p : ℕ) → stands_in p order ≡ true → p < n) → passing (λ k. stands_in k order) n ≡ length order
unfolding stands_in
standing-count n [] once below = passing-none (λ k. false) n (λ k less. refl)
standing-count n (p ∷ order) once below =
    passing-also (λ k. stands_in k order) p n (below p (stands_first p order)) once.0
    ∙ ap suc (standing-count n order once.1 (λ q stands. below q (stands_behind p q order stands)))

-- In the order of sources stand as many items as there are.
pub length-standing : (items : List Instr) (order : List ℕ) (sources : List (List Source)) → AreSources items order sources → length order ≡ length items
length-standing items order sources are =
    sym (standing-count (length items) order are.once are.known) ∙ passing-all (λ k. stands_in k order) (length items) are.each

-- In the order of a problem stand as many items as it has.
pub length-order : (problem : Problem) → IsSearchable problem → length problem.graph.order ≡ length problem.graph.items
length-order problem search = length-standing problem.graph.items problem.graph.order problem.graph.sources search.sources

-- ---- the items that aren't placed

-- how many items of an order aren't placed
pub unplaced : List ℕ → List Choice → ℕ
unplaced [] done = 0
unplaced (p ∷ order) done = (if is_placed done p then 0 else 1) + unplaced order done

-- at first none is
unplaced-first : (order : List ℕ) → unplaced order [] ≡ length order
unfolding unplaced is_placed
unplaced-first [] = refl
unplaced-first (p ∷ order) = ap (λ n. 1 + n) (unplaced-first order) ∙ (let one : 1 + length order ≡ suc (length order) = omega arith in one)

-- at the end all are
unplaced-full : (order : List ℕ) (done : List Choice) → is_full order done ≡ true → unplaced order done ≡ 0
unfolding unplaced
unplaced-full [] done full = refl
unplaced-full (p ∷ order) done full =
    let parts = and_parts (is_placed done p) (is_full order done) full in
    ap (λ b. (if b then 0 else 1) + unplaced order done) parts.0 ∙ ap (λ n. 0 + n) (unplaced-full order done parts.1)

-- and the other way
full-unplaced : (order : List ℕ) (done : List Choice) → unplaced order done ≡ 0 → is_full order done ≡ true
unfolding unplaced
full-unplaced [] done none = refl
full-unplaced (p ∷ order) done none = by (is_placed done p) none (full-unplaced order done)
  where
    by : (b : Bool) → (if b then 0 else 1) + unplaced order done ≡ 0 → (unplaced order done ≡ 0 → is_full order done ≡ true) → (b && is_full order done) ≡ true
    by true e rest = rest (omega arith)
    by false e rest = absurd (omega arith)

-- numbers that the test tells apart from one side, it does from the other
turned : (p q : ℕ) → eqb p q ≡ false → eqb q p ≡ false
turned p q other = ne_eqb q p (λ (e : q ≡ p). true≢false (sym (eq-eqb p q (sym e)) ∙ other))

-- a choice of none of the items leaves as many
unplaced-other : (order : List ℕ) (c : Choice) (done : List Choice) → stands_in c.item order ≡ false → unplaced order (c ∷ done) ≡ unplaced order done
unfolding unplaced is_placed stands_in
unplaced-other [] c done lacks = refl
unplaced-other (p ∷ order) c done lacks =
    let parts = or_parts (eqb p c.item) (stands_in c.item order) lacks in
    ap (λ b. (if b || is_placed done p then 0 else 1) + unplaced order (c ∷ done)) (turned p c.item parts.0)
    ∙ ap (λ n. (if is_placed done p then 0 else 1) + n) (unplaced-other order c done parts.1)

-- and a choice of one that wasn't placed leaves one less
pub unplaced-less : (order : List ℕ) (c : Choice) (done : List Choice) → IsOnce order → stands_in c.item order ≡ true → is_placed done c.item ≡ false
    → unplaced order done ≡ suc (unplaced order (c ∷ done))
unfolding unplaced is_placed stands_in
unplaced-less [] c done once stands fresh = absurd (true≢false (sym stands))
unplaced-less (p ∷ order) c done once stands fresh = ⊎_elim
    (λ (here : eqb p c.item ≡ true).
    let e : p ≡ c.item = eqb-true p c.item here in
    let rest : unplaced order (c ∷ done) ≡ unplaced order done = unplaced-other order c done (subst (λ n. stands_in n order ≡ false) e once.0) in
    first (eqb c.item p) (is_placed done p) (unplaced order (c ∷ done)) (unplaced order done) (eq-eqb c.item p (sym e)) (ap (is_placed done) e ∙ fresh) rest)
    (λ (other : eqb p c.item ≡ false).
    let there : stands_in c.item order ≡ true = ap (λ b. b || stands_in c.item order) (sym other) ∙ stands in
    second (eqb c.item p) (is_placed done p) (unplaced order (c ∷ done)) (unplaced order done) (turned p c.item other) (unplaced-less order c done once.1 there fresh))
    (cases_Bool (eqb p c.item))
  where
    first : (a b : Bool) (m n : ℕ) → a ≡ true → b ≡ false → m ≡ n → (if b then 0 else 1) + n ≡ suc ((if a || b then 0 else 1) + m)
    first true true m n ea eb e = absurd (true≢false eb)
    first true false m n ea eb e = omega arith
    first false b m n ea eb e = absurd (true≢false (sym ea))

    second : (a b : Bool) (m n : ℕ) → a ≡ false → n ≡ suc m → (if b then 0 else 1) + n ≡ suc ((if a || b then 0 else 1) + m)
    second true b m n ea e = absurd (true≢false ea)
    second false true m n ea e = omega arith
    second false false m n ea e = omega arith

module _ (problem : Problem) (search : IsSearchable problem) where
  -- the items that aren't placed and those that are, are all
  pub made-count : (done : List Choice) → AreMade problem done → unplaced problem.graph.order done + length done ≡ length problem.graph.items
  made-count [] made =
      let first : unplaced problem.graph.order [] ≡ length problem.graph.order = unplaced-first problem.graph.order in
      let count : length problem.graph.order ≡ length problem.graph.items = length-order problem search in
      omega arith
  made-count (c ∷ done) made =
      let fresh : is_placed done c.item ≡ false = not-true (is_placed done c.item) (keeps_rules problem done c made.0.rules).l1 in
      let less : unplaced problem.graph.order done ≡ suc (unplaced problem.graph.order (c ∷ done)) = unplaced-less problem.graph.order c done search.sources.once made.0.of.known fresh in
      let rest : unplaced problem.graph.order done + length done ≡ length problem.graph.items = made-count done made.1 in
      omega arith

  -- no legal list is longer than the problem
  pub made-few : (done : List Choice) → AreMade problem done → length done ≤ length problem.graph.items
  made-few done made =
      let count : unplaced problem.graph.order done + length done ≡ length problem.graph.items = made-count done made in
      omega arith

  -- a legal list that places all items is as long as the problem
  pub full-length : (done : List Choice) → AreMade problem done → is_full problem.graph.order done ≡ true → length done ≡ length problem.graph.items
  full-length done made full =
      let none : unplaced problem.graph.order done ≡ 0 = unplaced-full problem.graph.order done full in
      let count : unplaced problem.graph.order done + length done ≡ length problem.graph.items = made-count done made in
      omega arith

  -- and the other way
  pub length-full : (done : List Choice) → AreMade problem done → length done ≡ length problem.graph.items → is_full problem.graph.order done ≡ true
  length-full done made all =
      let count : unplaced problem.graph.order done + length done ≡ length problem.graph.items = made-count done made in
      full-unplaced problem.graph.order done (omega arith)
