-- Every choice, in its order.
use Rattle.std.proofs.Common.{◌≡◌, ℕ, ◌<◌, ◌≤◌, List, ◌∷◌, map, length, sym, ap, ◌∙◌, subst}
use Rattle.std.specs.Ordering.{nat_cmp}
use Rattle.std.specs.declared.cmp.Ordering.TheVariants.{Less}
use Rattle.std.specs.Cmp.Lexicographic.{slice_cmp}
use Rattle.sl_model.specs.declared.register.Reg.{Reg}
use Rattle.sl_model.specs.declared.schedule.Choice.{Choice}
use Rattle.sl_model.specs.Source.{numbers_below}
use Rattle.sl_model.specs.Legal.{Problem}
use Rattle.sl_model.specs.Space.{choice_key}
use Rattle.search_space.specs.Searchable.{output_room, unit_room, output_count}
use Rattle.search_space.specs.Next.{reg_lists, choice_in, choices_on, choices_of, every_choice}
use Rattle.sl_laws.proofs.Members.{Has, Ordered, from-map, from-flat_map, has-map, has-flat_map, has-numbers, from-numbers, ordered-map, ordered-flat_map, ordered-numbers}
use Rattle.sl_laws.proofs.Padded.{padded-back}
use Rattle.search_space.proofs.Lists.{ordered-among}
use Rattle.search_space.proofs.Keys.{Before, first-before, rest-before}
use Rattle.sl_laws.proofs.MachineRegs.{bit}
use Rattle.search_space.proofs.RegLists.{RegsBefore, ordered-regs, length-regs}

-- A choice of a list of choices: its item, its unit and the registers of its outputs.
pub record IsListed (problem : Problem) (c : Choice) : Type 0 where
  pub known : c.item < length problem.graph.items
  pub unit : c.unit < unit_room
  pub regs : List Reg
  pub listed : Has regs (reg_lists (output_count problem c.item))
  pub is : c ≡ choice_in c.item c.unit regs

-- what stands among an item's choices on a unit
record IsOn (problem : Problem) (item unit : ℕ) (c : Choice) : Type 0 where
  regs : List Reg
  listed : Has regs (reg_lists (output_count problem item))
  is : choice_in item unit regs ≡ c

from-on : (problem : Problem) (item unit : ℕ) (c : Choice) → Has c (choices_on problem item unit) → IsOn problem item unit c
unfolding choices_on
from-on problem item unit c h =
    let m = from-map (choice_in item unit) c (reg_lists (output_count problem item)) h in
    record { regs = m.0; listed = m.1; is = m.2 }

-- what stands among an item's choices stands among those on a unit
from-of : (problem : Problem) (item : ℕ) (c : Choice) → Has c (choices_of problem item) → (unit : ℕ) × (unit < unit_room) × IsOn problem item unit c
unfolding choices_of
from-of problem item c h =
    let u = from-flat_map (choices_on problem item) c (numbers_below unit_room) h in
    (u.0, from-numbers unit_room u.0 u.1, from-on problem item u.0 c u.2)

-- what stands among all stands among an item's
from-every : (problem : Problem) (c : Choice) → Has c (every_choice problem) → (item : ℕ) × (item < length problem.graph.items) × Has c (choices_of problem item)
unfolding every_choice
from-every problem c h =
    let p = from-flat_map (choices_of problem) c (numbers_below (length problem.graph.items)) h in
    (p.0, from-numbers (length problem.graph.items) p.0 p.1, p.2)

-- Each choice that is listed has an item of the problem, one of the units and registers of the machine.
pub listed-is : (problem : Problem) (c : Choice) → Has c (every_choice problem) → IsListed problem c
listed-is problem c h =
    let p = from-every problem c h in
    let u = from-of problem p.0 c p.2 in
    let item : p.0 ≡ c.item = ap (λ x. x.item) u.2.is in
    let unit : u.0 ≡ c.unit = ap (λ x. x.unit) u.2.is in
    record {
      known = subst (λ n. n < length problem.graph.items) item p.1;
      unit = subst (λ n. n < unit_room) unit u.1;
      regs = u.2.regs;
      listed = subst (λ n. Has u.2.regs (reg_lists (output_count problem n))) item u.2.listed;
      is = sym u.2.is ∙ (λ i. choice_in (item i) (unit i) u.2.regs);
    }

-- And each such choice is listed.
pub is-listed : (problem : Problem) (c : Choice) → IsListed problem c → Has c (every_choice problem)
unfolding every_choice choices_of choices_on
is-listed problem c of =
    has-flat_map (choices_of problem) c c.item (numbers_below (length problem.graph.items)) (has-numbers (length problem.graph.items) c.item of.known)
    (has-flat_map (choices_on problem c.item) c c.unit (numbers_below unit_room) (has-numbers unit_room c.unit of.unit)
    (subst (λ x. Has x (choices_on problem c.item c.unit)) (sym of.is) (has-map (choice_in c.item c.unit) of.regs (reg_lists (output_count problem c.item)) of.listed)))

-- ---- their order

-- the numbers of a choice by its registers
key-in : (item unit : ℕ) (regs : List Reg) → length regs ≤ output_room → choice_key (choice_in item unit regs) ≡ item ∷ unit ∷ map bit regs
key-in item unit regs few = ap (λ rs. item ∷ unit ∷ map bit rs) (padded-back output_room regs few)

-- choices go by those numbers
by-keys : (p u q v : ℕ) (a b : List Reg) → length a ≤ output_room → length b ≤ output_room
    → slice_cmp nat_cmp (p ∷ u ∷ map bit a) (q ∷ v ∷ map bit b) ≡ Less → Before (choice_in p u a) (choice_in q v b)
by-keys p u q v a b few_a few_b less =
    subst (λ k. slice_cmp nat_cmp k (choice_key (choice_in q v b)) ≡ Less) (sym (key-in p u a few_a))
    (subst (λ k. slice_cmp nat_cmp (p ∷ u ∷ map bit a) k ≡ Less) (sym (key-in q v b few_b)) less)

module _ (problem : Problem) (few : (p : ℕ) → p < length problem.graph.items → output_count problem p ≤ output_room) where
  -- an item's registers are few
  short : (p : ℕ) (regs : List Reg) → p < length problem.graph.items → Has regs (reg_lists (output_count problem p)) → length regs ≤ output_room
  short p regs known h = subst (λ n. n ≤ output_room) (sym (length-regs (output_count problem p) regs h)) (few p known)

  -- the choices of an item on a unit are listed in their order
  ordered-on : (p unit : ℕ) → p < length problem.graph.items → Ordered Before (choices_on problem p unit)
  unfolding choices_on
  ordered-on p unit known =
      ordered-map (RegsBefore (output_count problem p)) Before (choice_in p unit) (reg_lists (output_count problem p)) (ordered-regs (output_count problem p))
      (λ a b before.
      let few_a : length a ≤ output_room = subst (λ n. n ≤ output_room) (sym before.left) (few p known) in
      let few_b : length b ≤ output_room = subst (λ n. n ≤ output_room) (sym before.right) (few p known) in
      by-keys p unit p unit a b few_a few_b (rest-before p (unit ∷ map bit a) (unit ∷ map bit b) (rest-before unit (map bit a) (map bit b) before.less)))

  -- so are those of an item
  ordered-of : (p : ℕ) → p < length problem.graph.items → Ordered Before (choices_of problem p)
  unfolding choices_of
  ordered-of p known =
      ordered-flat_map (λ u v. u < v) Before (choices_on problem p) (numbers_below unit_room) (ordered-numbers unit_room)
      (λ unit h. ordered-on p unit known)
      (λ u v c d less hc hd.
      let x = from-on problem p u c hc in
      let y = from-on problem p v d hd in
      subst (λ z. Before z d) x.is (subst (λ z. Before (choice_in p u x.regs) z) y.is
      (by-keys p u p v x.regs y.regs (short p x.regs known x.listed) (short p y.regs known y.listed)
      (rest-before p (u ∷ map bit x.regs) (v ∷ map bit y.regs) (first-before u v (map bit x.regs) (map bit y.regs) less)))))

  -- All choices are listed in their order.
  pub ordered-every : Ordered Before (every_choice problem)
  unfolding every_choice
  ordered-every =
      ordered-flat_map Known Before (choices_of problem) (numbers_below (length problem.graph.items))
      (ordered-among (λ a b. a < b) (λ p. p < length problem.graph.items) (numbers_below (length problem.graph.items)) (from-numbers (length problem.graph.items)) (ordered-numbers (length problem.graph.items)))
      (λ p h. ordered-of p (from-numbers (length problem.graph.items) p h))
      (λ p q c d known hc hd.
      let u = from-of problem p c hc in
      let v = from-of problem q d hd in
      let x = u.2 in
      let y = v.2 in
      subst (λ z. Before z d) x.is (subst (λ z. Before (choice_in p u.0 x.regs) z) y.is
      (by-keys p u.0 q v.0 x.regs y.regs (short p x.regs known.0 x.listed) (short q y.regs known.1 y.listed)
      (first-before p q (u.0 ∷ map bit x.regs) (v.0 ∷ map bit y.regs) known.2))))
    where
      Known : ℕ → ℕ → Type 0
      Known p q = (p < length problem.graph.items) × (q < length problem.graph.items) × (p < q)
