-- Looking for a choice item by item, unit by unit, and output by output.
use Rattle.std.proofs.Common.{◌≡◌, ℕ, zero, suc, ◌+◌, ◌-◌, ◌<◌, ◌≤◌, Bool, true, false, ◌&&◌, cond, List, [], ◌∷◌, ◌++◌, map, length, slice_set, not, is_some, Option, Some, None, if◌then◌else◌, ⊎_elim, refl, sym, ap, ◌∙◌, subst, true≢false, append_assoc, add-one, arith}
use Rattle.std.specs.List.{find, flat_map}
use Rattle.std.proofs.lemmas.List.{append-nil}
use Rattle.std.proofs.lemmas.List.Concat.{flat_map-append}
use Rattle.std.proofs.lemmas.Bool.{cases_lt}
use Rattle.sl_model.specs.declared.register.Reg.{Reg}
use Rattle.sl_model.specs.declared.schedule.Choice.{Choice}
use Rattle.sl_model.specs.declared.rules.Rule.{Rule}
use Rattle.sl_model.specs.declared.rules.Rule.TheVariants.{L1}
use Rattle.sl_model.specs.Source.{padded, numbers_below}
use Rattle.sl_model.specs.Body.{is_placed, stands_in}
use Rattle.sl_model.specs.Legal.{Problem, first_broken}
use Rattle.sl_laws.proofs.Members.{from-map, from-flat_map}
use Rattle.search_space.specs.Searchable.{unit_room, output_count, IsSearchable}
use Rattle.search_space.specs.Next.{machine_regs, reg_lists, choice_in, choices_on, choices_of, every_choice, is_reduced, may_come, may_follow, is_behind, next_behind}
use Rattle.search_space.specs.Trials.{reg_of_bit, reg_count, beginning}
use Rattle.search_space.proofs.Lists.{fails-behind, find-never}
use Rattle.search_space.proofs.Behind.{next_behind-every}

-- ---- what is found in lists one after the other

-- the first of two
abbrev or_else : {X : Type 0} → Option X → Option X → Option X
or_else None other = other
or_else (Some x) other = Some x

module _ {X : Type 0} (p : X → Bool) where
  -- in two lists
  find-append : (xs ys : List X) → find p (xs ++ ys) ≡ or_else (find p xs) (find p ys)
  find-append [] ys = refl
  find-append (x ∷ xs) ys = by (p x) (find-append xs ys)
    where
      by : (b : Bool) → find p (xs ++ ys) ≡ or_else (find p xs) (find p ys) → cond b (Some x) (find p (xs ++ ys)) ≡ or_else (cond b (Some x) (find p xs)) (find p ys)
      by true e = refl
      by false e = e

  -- in those of one more number
  find-last : (f : ℕ → List X) (i : ℕ) → find p (flat_map f (numbers_below (suc i))) ≡ or_else (find p (flat_map f (numbers_below i))) (find p (f i))
  unfolding numbers_below
  find-last f i =
      ap (find p) (flat_map-append f (numbers_below i) (i ∷ []) ∙ ap (λ xs. flat_map f (numbers_below i) ++ xs) (append-nil (f i)))
      ∙ find-append (flat_map f (numbers_below i)) (f i)

  -- Nothing is found in the lists of no number,
  pub none-first : (f : ℕ → List X) → find p (flat_map f (numbers_below 0)) ≡ None
  unfolding numbers_below
  none-first f = refl

  -- nor in those of one more, where it isn't in the last,
  pub none-more : (f : ℕ → List X) (i : ℕ) → find p (flat_map f (numbers_below i)) ≡ None → find p (f i) ≡ None → find p (flat_map f (numbers_below (i + 1))) ≡ None
  none-more f i none here =
      ap (λ n. find p (flat_map f (numbers_below n))) (add-one i) ∙ find-last f i ∙ ap (λ o. or_else o (find p (f i))) none ∙ here

  -- and what is found in the list of a number, where nothing was below it, is found in those of all.
  pub some-first : (f : ℕ → List X) (i n : ℕ) (x : X) → find p (flat_map f (numbers_below i)) ≡ None → i < n → find p (f i) ≡ Some x → find p (flat_map f (numbers_below n)) ≡ Some x
  some-first f i zero x none below here = absurd (omega arith)
  some-first f i (suc n) x none below here = ⊎_elim
      (λ (earlier : i < n). find-last f n ∙ ap (λ o. or_else o (find p (f n))) (some-first f i n x none earlier here))
      (λ (last : n ≤ i).
      let same : i ≡ n = omega arith in
      find-last f n ∙ ap (λ o. or_else o (find p (f n))) (subst (λ k. find p (flat_map f (numbers_below k)) ≡ None) same none)
      ∙ subst (λ k. find p (f k) ≡ Some x) same here)
      (cases_lt i n)

-- ---- lists that are mapped and flattened

module _ {X Y Z : Type 0} where
  -- a list that is flattened and mapped
  map-flat_map : (g : Y → Z) (f : X → List Y) (xs : List X) → map g (flat_map f xs) ≡ flat_map (λ x. map g (f x)) xs
  map-flat_map g f [] = refl
  map-flat_map g f (x ∷ xs) = joined (f x) (flat_map f xs) ∙ ap (λ ys. map g (f x) ++ ys) (map-flat_map g f xs)
    where
      joined : (us vs : List Y) → map g (us ++ vs) ≡ map g us ++ map g vs
      joined [] vs = refl
      joined (u ∷ us) vs = ap (λ ys. g u ∷ ys) (joined us vs)

  -- one that is mapped twice
  map-twice : (g : Y → Z) (f : X → Y) (xs : List X) → map g (map f xs) ≡ map (λ x. g (f x)) xs
  map-twice g f [] = refl
  map-twice g f (x ∷ xs) = ap (λ ys. g (f x) ∷ ys) (map-twice g f xs)

  -- one that is mapped and flattened
  flat_map-map : (g : Y → List Z) (f : X → Y) (xs : List X) → flat_map g (map f xs) ≡ flat_map (λ x. g (f x)) xs
  flat_map-map g f [] = refl
  flat_map-map g f (x ∷ xs) = ap (λ ys. g (f x) ++ ys) (flat_map-map g f xs)

-- functions that agree
map-agree : {X Y : Type 0} (f g : X → Y) (xs : List X) → ((x : X) → f x ≡ g x) → map f xs ≡ map g xs
map-agree f g [] each = refl
map-agree f g (x ∷ xs) each = λ i. each x i ∷ map-agree f g xs each i

-- so for lists that are flattened
flat_map-agree : {X Y : Type 0} (f g : X → List Y) (xs : List X) → ((x : X) → f x ≡ g x) → flat_map f xs ≡ flat_map g xs
flat_map-agree f g [] each = refl
flat_map-agree f g (x ∷ xs) each = λ i. each x i ++ flat_map-agree f g xs each i

-- ---- choices by their registers

-- the registers of the machine by their bits
machine-bits : machine_regs ≡ map reg_of_bit (numbers_below reg_count)
unfolding machine_regs numbers_below
machine-bits = refl

-- A choice that has no more registers is the one that begins with them.
pub beginning-last : (item unit : ℕ) (front : List Reg) → beginning item unit front 0 ≡ choice_in item unit front ∷ []
unfolding reg_lists
beginning-last item unit front = ap (λ regs. choice_in item unit regs ∷ []) (append-nil front)

-- Those that have more have one of the machine's next, by its bit.
pub beginning-more : (item unit : ℕ) (front : List Reg) (left : ℕ)
    → beginning item unit front (suc left) ≡ flat_map (λ bit. beginning item unit (front ++ reg_of_bit bit ∷ []) left) (numbers_below reg_count)
unfolding reg_lists
beginning-more item unit front left =
    map-flat_map (λ regs. choice_in item unit (front ++ regs)) (λ r. map (λ regs. r ∷ regs) (reg_lists left)) machine_regs
    ∙ ap (flat_map (λ r. map (λ regs. choice_in item unit (front ++ regs)) (map (λ regs. r ∷ regs) (reg_lists left)))) machine-bits
    ∙ flat_map-map (λ r. map (λ regs. choice_in item unit (front ++ regs)) (map (λ regs. r ∷ regs) (reg_lists left))) reg_of_bit (numbers_below reg_count)
    ∙ flat_map-agree _ _ (numbers_below reg_count) (λ bit. map-twice (λ regs. choice_in item unit (front ++ regs)) (λ regs. reg_of_bit bit ∷ regs) (reg_lists left)
    ∙ map-agree _ _ (reg_lists left) (λ regs. ap (choice_in item unit) (sym (append_assoc front (reg_of_bit bit ∷ []) regs))))

-- The choices of an item are those on each unit that begin with no register.
pub choices_of-units : (problem : Problem) (item : ℕ) → choices_of problem item ≡ flat_map (λ unit. beginning item unit [] (output_count problem item)) (numbers_below unit_room)
unfolding choices_of choices_on
choices_of-units problem item = refl

-- One more register stands at the first empty place.
pub padded-more : (room : ℕ) (front : List Reg) (r : Reg) → length front < room → slice_set (padded room front) (length front) (Some r) ≡ padded room (front ++ r ∷ [])
padded-more zero front r few = absurd (omega arith)
padded-more (suc room) [] r few = refl
padded-more (suc room) (x ∷ front) r few = ap (λ xs. Some x ∷ xs) (padded-more room front r (omega arith))

-- ---- the first choice that may follow

-- an item that was placed breaks L1
first-l1 : (problem : Problem) (done : List Choice) (c : Choice) → is_placed done c.item ≡ true → first_broken problem done c ≡ Some L1
unfolding first_broken
first-l1 problem done c placed = by (is_placed done c.item) _ placed
  where
    by : (b : Bool) (rest : Option Rule) → b ≡ true → (if not (not b) then Some L1 else rest) ≡ Some L1
    by true rest e = refl
    by false rest e = absurd (true≢false (sym e))

module _ (problem : Problem) (search : IsSearchable problem) (done : List Choice) (after : Option Choice) where
  -- It is found item by item.
  pub next_behind-items : next_behind problem done after ≡ find (may_follow problem done after) (flat_map (choices_of problem) (numbers_below (length problem.graph.items)))
  unfolding every_choice
  next_behind-items = over-every
    where
      over-every : next_behind problem done after ≡ find (may_follow problem done after) (every_choice problem)
      over-every = next_behind-every problem search done after

  -- An item that was placed has none.
  pub placed-none : (item : ℕ) → is_placed done item ≡ true → find (may_follow problem done after) (choices_of problem item) ≡ None
  unfolding choices_of choices_on may_come
  placed-none item placed = find-never (may_follow problem done after) (choices_of problem item) (λ c h.
      let u = from-flat_map (choices_on problem item) c (numbers_below unit_room) h in
      let m = from-map (choice_in item u.0) c (reg_lists (output_count problem item)) u.2 in
      let broken : first_broken problem done c ≡ Some L1 = first-l1 problem done c (ap (is_placed done) (ap (λ x. x.item) (sym m.2)) ∙ placed) in
      fails-behind (is_behind after c) (may_come problem done c)
      (ap (λ o. stands_in c.item problem.graph.order && (not (is_some o) && is_reduced problem done c)) broken ∙ fails-behind (stands_in c.item problem.graph.order) false refl))

  -- ---- among the choices of an item on a unit that begin with some registers

  -- The choice itself is found, where it has no more outputs and may follow.
  pub last-found : (item unit : ℕ) (front : List Reg) (outs : List (Option Reg)) (left : ℕ) → outs ≡ padded 3 front → left ≡ 0
      → (if may_follow problem done after (record { item = item; unit = unit; outs = outs }) then Some (record { item = item; unit = unit; outs = outs }) else None)
      ≡ find (may_follow problem done after) (beginning item unit front left)
  last-found item unit front outs left shape none =
      ap (λ o. if may_follow problem done after (record { item = item; unit = unit; outs = o }) then Some (record { item = item; unit = unit; outs = o }) else None) shape
      ∙ sym (ap (λ n. find (may_follow problem done after) (beginning item unit front n)) none ∙ ap (find (may_follow problem done after)) (beginning-last item unit front))

  -- Otherwise what is found has one register more.
  pub more-found : (item unit : ℕ) (front : List Reg) (left : ℕ) → 0 < left
      → find (may_follow problem done after) (beginning item unit front left)
      ≡ find (may_follow problem done after) (flat_map (λ bit. beginning item unit (front ++ reg_of_bit bit ∷ []) (left - 1)) (numbers_below reg_count))
  more-found item unit front zero some = absurd (omega arith)
  more-found item unit front (suc left) some =
      let less : left ≡ suc left - 1 = omega arith in
      ap (find (may_follow problem done after)) (beginning-more item unit front left)
      ∙ ap (λ n. find (may_follow problem done after) (flat_map (λ bit. beginning item unit (front ++ reg_of_bit bit ∷ []) n) (numbers_below reg_count))) less
