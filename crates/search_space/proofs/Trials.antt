-- A register that needn't be tried makes no choice that may come.
use Rattle.std.proofs.Common.{◌≡◌, ℕ, zero, suc, ◌+◌, ◌<◌, ◌≤◌, ◌⊎◌, Bool, true, false, ◌&&◌, ◌||◌, ◌==◌, not, eqb, nat_lt, is_some, List, [], ◌∷◌, ◌++◌, length, slice_get, slice_index_or, Option, Some, None, inl, inr, ⊎_elim, refl, sym, ap, ◌∙◌, subst, true≢false, length-append, append_assoc, arith}
use Rattle.std.specs.List.{list_all, list_any, zip, enumerate_from, find}
use Rattle.std.proofs.lemmas.Bool.{or_right, cases_Bool, and_parts, and_from, or_cases, or_left, not-true, both_ways, ltb-true, eqb-true, ne_eqb, false_from_ne_true}
use Rattle.sl_model.specs.declared.register.Bank.TheVariants.{General}
use Rattle.sl_model.specs.declared.register.Reg.{Reg}
use Rattle.sl_model.specs.declared.register.RegSet.{RegSet}
use Rattle.sl_model.specs.declared.schedule.Choice.{Choice}
use Rattle.sl_model.specs.declared.schedule.Source.{Source}
use Rattle.sl_model.specs.declared.schedule.Source.TheVariants.{Item}
use Rattle.sl_model.specs.Register.{same_reg, bank_number}
use Rattle.sl_model.specs.RegSets.{set_has}
use Rattle.sl_model.specs.Source.{padded, outputs, item_at}
use Rattle.sl_model.specs.Body.{chosen, stands_in, given, same_source, all_differ}
use Rattle.sl_model.specs.Legal.{Problem, IsOf, first_broken, sources_in, info_in, allowed_in, output_classes, suits_output, suits_readers, suits_finals, may_overwrite, is_flags, is_register, is_given, is_tied}
use Rattle.sl_model.specs.Space.{same_kind, is_final, is_final_output, is_tied_output, tied_at, is_free_output, is_taken, placed_outputs}
use Rattle.sl_laws.proofs.Tests.{is_none_from}
use Rattle.sl_laws.proofs.Rules.{KeepsRules, keeps_rules}
use Rattle.sl_laws.proofs.Registers.{same_reg-true}
use Rattle.sl_laws.proofs.Padded.{padded-back}
use Rattle.sl_laws.proofs.Members.{Has, passes, from-map, place-has}
use Rattle.search_space.specs.Searchable.{IsSearchable}
use Rattle.search_space.specs.Next.{machine_reg, machine_regs, reg_lists, choice_in, is_reduced, may_come, may_follow, is_behind}
use Rattle.search_space.specs.Trials.{beginning, class_at, own_at, may_go, is_read_from, has_lower, is_free_at, is_hopeless}
use Rattle.search_space.proofs.Lists.{fails-behind, any-has, has-any, listed-at, find-never}
use Rattle.sl_laws.proofs.MachineRegs.{bit}
use Rattle.search_space.proofs.RegLists.{length-regs}
use Rattle.search_space.proofs.Outputs.{known-item}
use Rattle.search_space.proofs.Reduced.{reduced-from}

-- ---- what stands at a place

-- what all outputs pass, that at a place passes
at-passes : (p : ℕ × ((Reg × RegSet) × Reg) → Bool) (k n : ℕ) (r : Reg) (regs : List Reg) (sets : List RegSet) (outs : List Reg) (set : RegSet) (own : Reg)
    → length regs ≤ length sets → length regs ≤ length outs → slice_get regs n ≡ Some r
    → list_all p (enumerate_from k (zip (zip regs sets) outs)) ≡ true → p (k + n, ((r, slice_index_or sets n set), slice_index_or outs n own)) ≡ true
at-passes p k n r [] sets outs set own room room_out at all = absurd (cc)
at-passes p k n r (x ∷ regs) [] outs set own room room_out at all = absurd (omega arith)
at-passes p k n r (x ∷ regs) (s ∷ sets) [] set own room room_out at all = absurd (omega arith)
at-passes p k zero r (x ∷ regs) (s ∷ sets) (o ∷ outs) set own room room_out at all =
    let parts = and_parts (p (k, ((x, s), o))) _ all in
    let same : x ≡ r = cc in
    let sum : k ≡ k + 0 = omega arith in
    subst (λ m. p (m, ((r, s), o)) ≡ true) sum (subst (λ y. p (k, ((y, s), o)) ≡ true) same parts.0)
at-passes p k (suc n) r (x ∷ regs) (s ∷ sets) (o ∷ outs) set own room room_out at all =
    let parts = and_parts (p (k, ((x, s), o))) _ all in
    let sum : k + 1 + n ≡ k + suc n = omega arith in
    subst (λ m. p (m, ((r, slice_index_or sets n set), slice_index_or outs n own)) ≡ true) sum (at-passes p (k + 1) n r regs sets outs set own (omega arith) (omega arith) at parts.1)

-- and what is asked of one place alone
only-at : (f : ℕ → RegSet → Reg → Bool) (k n : ℕ) (regs : List Reg) (sets : List RegSet) (outs : List Reg) (set : RegSet) (own : Reg)
    → f (k + n) (slice_index_or sets n set) (slice_index_or outs n own) ≡ true
    → list_all (λ x. not (x.0 == k + n) || f x.0 x.1.0.1 x.1.1) (enumerate_from k (zip (zip regs sets) outs)) ≡ true
only-at f k n [] sets outs set own ok = refl
only-at f k n (x ∷ regs) [] outs set own ok = refl
only-at f k n (x ∷ regs) (s ∷ sets) [] set own ok = refl
only-at f k zero (x ∷ regs) (s ∷ sets) (o ∷ outs) set own ok =
    let sum : k + 0 ≡ k = omega arith in
    and_from _ _ (or_right (not (eqb k (k + 0))) (f k s o) (subst (λ m. f m s o ≡ true) sum ok)) (later (k + 1) (k + 0) regs sets outs (omega arith))
  where
    later : (j m : ℕ) (regs : List Reg) (sets : List RegSet) (outs : List Reg) → m < j → list_all (λ x. not (x.0 == m) || f x.0 x.1.0.1 x.1.1) (enumerate_from j (zip (zip regs sets) outs)) ≡ true
    later j m [] sets outs past = refl
    later j m (x ∷ regs) [] outs past = refl
    later j m (x ∷ regs) (s ∷ sets) [] past = refl
    later j m (x ∷ regs) (s ∷ sets) (o ∷ outs) past =
        and_from _ _ (or_left (not (eqb j m)) (f j s o) (ap not (ne_eqb j m (λ (e : j ≡ m). omega arith)))) (later (j + 1) m regs sets outs (omega arith))
only-at f k (suc n) (x ∷ regs) (s ∷ sets) (o ∷ outs) set own ok =
    let sum : k + suc n ≡ k + 1 + n = omega arith in
    and_from _ _ (or_left (not (eqb k (k + suc n))) (f k s o) (ap not (ne_eqb k (k + suc n) (λ (e : k ≡ k + suc n). omega arith))))
    (subst (λ m. list_all (λ x. not (x.0 == m) || f x.0 x.1.0.1 x.1.1) (enumerate_from (k + 1) (zip (zip regs sets) outs)) ≡ true) (sym sum)
    (only-at f (k + 1) n regs sets outs set own (subst (λ m. f m (slice_index_or sets n set) (slice_index_or outs n own) ≡ true) sum ok)))

-- a register behind others stands at the number of those
at-behind : (front : List Reg) (r : Reg) (rest : List Reg) → slice_get (front ++ r ∷ rest) (length front) ≡ Some r
at-behind [] r rest = refl
at-behind (x ∷ front) r rest = at-behind front r rest

-- and one before it is one of them
at-front : (front : List Reg) (n : ℕ) (r : Reg) (rest : List Reg) → n < length front → slice_get (front ++ rest) n ≡ Some r → Has r front
at-front [] n r rest less at = absurd (omega arith)
at-front (x ∷ front) zero r rest less at = inl (cc)
at-front (x ∷ front) (suc n) r rest less at = inr (at-front front n r rest (omega arith) at)

-- the tie of an output at a place
at-tied : (p : Reg × Option ℕ → Bool) (n : ℕ) (r : Reg) (operand : ℕ) (regs : List Reg) (tied : List (Option ℕ)) → slice_get regs n ≡ Some r → slice_get tied n ≡ Some (Some operand)
    → list_all p (zip regs tied) ≡ true → p (r, Some operand) ≡ true
at-tied p n r operand [] tied at is all = absurd (cc)
at-tied p n r operand (x ∷ regs) [] at is all = absurd (cc)
at-tied p zero r operand (x ∷ regs) (t ∷ tied) at is all =
    let parts = and_parts (p (x, t)) (list_all p (zip regs tied)) all in
    let same : x ≡ r = cc in
    let tie : t ≡ Some operand = cc in
    subst (λ y. p (y, Some operand) ≡ true) same (subst (λ u. p (x, u) ≡ true) tie parts.0)
at-tied p (suc n) r operand (x ∷ regs) (t ∷ tied) at is all = at-tied p n r operand regs tied at is (and_parts (p (x, t)) (list_all p (zip regs tied)) all).1

some-tied : (t : Option (Option ℕ)) → tied_at t ≡ true → (operand : ℕ) × (t ≡ Some (Some operand))
some-tied None e = absurd (true≢false (sym e))
some-tied (Some None) e = absurd (true≢false (sym e))
some-tied (Some (Some operand)) e = (operand, refl)

-- a register that is given to a source of a list
given-read : (done : List Choice) (r : Reg) (k : ℕ) (sources : List Source) → is_given done r (slice_get sources k) ≡ true → list_any (λ s. is_register r (given done s)) sources ≡ true
given-read done r k [] is = absurd (true≢false (sym is))
given-read done r zero (s ∷ sources) is = or_left (is_register r (given done s)) (list_any (λ s. is_register r (given done s)) sources) is
given-read done r (suc k) (s ∷ sources) is = or_right (is_register r (given done s)) (list_any (λ s. is_register r (given done s)) sources) (given-read done r k sources is)

module _ (problem : Problem) (search : IsSearchable problem) (done : List Choice) (c : Choice) (of : IsOf problem c) (keeps : KeepsRules problem done c) where
  room : (length (chosen c) ≤ length (info_in problem c.item).out_sets) × (length (chosen c) ≤ length (outputs (item_at problem.graph.items c.item)))
  room =
      let count : length (chosen c) ≡ length (outputs (item_at problem.graph.items c.item)) = of.outputs_given in
      let sets : length (outputs (item_at problem.graph.items c.item)) ≤ length (info_in problem c.item).out_sets = search.output_classes c.item (known-item problem search c of) in
      (omega arith, omega arith)

  suits-at : (n : ℕ) (r : Reg) → slice_get (chosen c) n ≡ Some r → suits_output problem c.item (0 + n, ((r, class_at problem c.item n), own_at problem c.item n)) ≡ true
  suits-at n r at =
      at-passes (suits_output problem c.item) 0 n r (chosen c) (info_in problem c.item).out_sets (outputs (item_at problem.graph.items c.item)) (record { bits = 0 }) (machine_reg General 0) room.0 room.1 at
      (and_parts (list_all (suits_output problem c.item) (output_classes problem c)) (all_differ (chosen c)) keeps.l4).0

  -- the output at a place may go where it went
  went : (n : ℕ) (r : Reg) → slice_get (chosen c) n ≡ Some r → may_go problem done c.item n r ≡ true
  unfolding may_go
  went n r at =
      let sum : 0 + n ≡ n = omega arith in
      and_from _ _ (subst (λ m. suits_output problem c.item (m, ((r, class_at problem c.item n), own_at problem c.item n)) ≡ true) sum (suits-at n r at))
      (passes (may_overwrite problem done c.item) r (chosen c) (place-has r (chosen c) n at) keeps.l7)

  -- an output that isn't free to choose is in a final register, in one that the item reads, or in the flags
  not-free : (n : ℕ) (r : Reg) → slice_get (chosen c) n ≡ Some r → is_free_output problem c (n, r) ≡ false
      → (is_final problem r ≡ true) ⊎ ((is_read_from problem done c.item r ≡ true) ⊎ (is_flags r ≡ true))
  not-free n r at free = ⊎_elim
      (λ (final : is_final_output problem c.item n ≡ true).
      let f = any-has (λ f. same_source f.1 (Item c.item n)) problem.finals final in
      let sum : 0 + n ≡ n = omega arith in
      let suits = subst (λ m. suits_output problem c.item (m, ((r, class_at problem c.item n), own_at problem c.item n)) ≡ true) sum (suits-at n r at) in
      let p1 = and_parts (set_has (allowed_in problem c.item) r) _ suits in
      let p2 = and_parts (set_has (class_at problem c.item n) r) _ p1.1 in
      let p3 = and_parts (suits_readers problem (Item c.item n) r) _ p2.1 in
      let p4 = and_parts (suits_finals problem (Item c.item n) r) _ p3.1 in
      let here = passes (λ f. not (same_source f.1 (Item c.item n)) || same_reg f.0 r) f.0 problem.finals f.1 p4.0 in
      inl (has-any (λ f. same_reg f.0 r) f.0 problem.finals f.1 (subst (λ b. (not b || same_reg f.0.0 r) ≡ true) f.2 here)))
      (λ (other : is_final_output problem c.item n ≡ false). ⊎_elim
      (λ (tied : is_tied_output problem c.item n ≡ true).
      let t = some-tied (slice_get (info_in problem c.item).tied n) tied in
      let given_at = at-tied (is_tied problem done c.item) n r t.0 (chosen c) (info_in problem c.item).tied at t.1 keeps.l3 in
      inr (inl (given-read done r t.0 (sources_in problem c.item) given_at)))
      (λ (loose : is_tied_output problem c.item n ≡ false).
      inr (inr (flags (is_final_output problem c.item n) (is_tied_output problem c.item n) (is_flags r) other loose free)))
      (cases_Bool (is_tied_output problem c.item n)))
      (cases_Bool (is_final_output problem c.item n))
    where
      flags : (a b f : Bool) → a ≡ false → b ≡ false → (not a && (not b && not f)) ≡ false → f ≡ true
      flags true b f ea eb e = absurd (true≢false ea)
      flags false true f ea eb e = absurd (true≢false eb)
      flags false false true ea eb e = refl
      flags false false false ea eb e = absurd (true≢false e)

  -- a lower register of its kind that isn't before it and that the item doesn't read is taken by no other output
  untaken : (front rest : List Reg) (r other : Reg) → chosen c ≡ front ++ r ∷ rest → same_kind problem r other ≡ true → is_flags r ≡ false
      → list_any (λ q. same_reg q other) front ≡ false → is_read_from problem done c.item other ≡ false → is_taken problem c (length front) other ≡ false
  untaken front rest r other is kind plain new unread = false_from_ne_true (is_taken problem c (length front) other) (λ taken.
      let x = any-has (λ x. same_reg x.1 other && (nat_lt x.0 (length front) || (not (x.0 == length front) && not (is_free_output problem c x)))) (placed_outputs c) taken in
      let parts = and_parts (same_reg x.0.1 other) _ x.2 in
      let same : x.0.1 ≡ other = same_reg-true x.0.1 other parts.0 in
      let l = listed-at 0 x.0.0 x.0.1 (chosen c) x.1 in
      let place : x.0.0 ≡ l.0 = (let e : x.0.0 ≡ 0 + l.0 = l.1 in omega arith) in
      let at : slice_get (chosen c) x.0.0 ≡ Some x.0.1 = subst (λ n. slice_get (chosen c) n ≡ Some x.0.1) (sym place) l.2 in
      let k1 = and_parts (bank_number r.bank == bank_number other.bank && (not (is_final problem r) && not (is_final problem other))) _ kind in
      let k2 = and_parts (bank_number r.bank == bank_number other.bank) (not (is_final problem r) && not (is_final problem other)) k1.0 in
      let k3 = and_parts (not (is_final problem r)) (not (is_final problem other)) k2.1 in
      ⊎_elim
      (λ (earlier : nat_lt x.0.0 (length front) ≡ true).
      both_ways (list_any (λ q. same_reg q other) front) new
      (has-any (λ q. same_reg q other) x.0.1 front (at-front front x.0.0 x.0.1 (r ∷ rest) (ltb-true x.0.0 (length front) earlier) (subst (λ regs. slice_get regs x.0.0 ≡ Some x.0.1) is at)) parts.0))
      (λ (later : (not (x.0.0 == length front) && not (is_free_output problem c x.0)) ≡ true).
      let bound_to : is_free_output problem c (x.0.0, x.0.1) ≡ false = not-true (is_free_output problem c x.0) (and_parts (not (x.0.0 == length front)) (not (is_free_output problem c x.0)) later).1 in
      ⊎_elim
      (λ (final : is_final problem x.0.1 ≡ true). both_ways (is_final problem other) (not-true (is_final problem other) k3.1) (subst (λ q. is_final problem q ≡ true) same final))
      (λ (more : (is_read_from problem done c.item x.0.1 ≡ true) ⊎ (is_flags x.0.1 ≡ true)). ⊎_elim
      (λ (read : is_read_from problem done c.item x.0.1 ≡ true). both_ways (is_read_from problem done c.item other) unread (subst (λ q. is_read_from problem done c.item q ≡ true) same read))
      (λ (flags : is_flags x.0.1 ≡ true).
      let number : bank_number r.bank ≡ bank_number other.bank = eqb-true (bank_number r.bank) (bank_number other.bank) k2.0 in
      both_ways (is_flags r) plain (ap (λ n. n == 2) number ∙ subst (λ q. is_flags q ≡ true) same flags))
      more)
      (not-free x.0.0 x.0.1 at bound_to))
      (or_cases (nat_lt x.0.0 (length front)) _ parts.1))

  -- so a reduced choice has no output with such a lower register
  no-lower : (front rest : List Reg) (r : Reg) → chosen c ≡ front ++ r ∷ rest → is_reduced problem done c ≡ true
      → is_free_at problem c.item (length front) r ≡ true
      → has_lower problem done c.item front r ≡ true → ⊥
  unfolding has_lower may_go
  no-lower front rest r is reduced free lower =
      let o = any-has (λ other. nat_lt (bit other) (bit r) && (same_kind problem r other
      && ((suits_output problem c.item (length front, ((other, class_at problem c.item (length front)), own_at problem c.item (length front))) && may_overwrite problem done c.item other)
      && (not (list_any (λ q. same_reg q other) front) && not (is_read_from problem done c.item other))))) machine_regs lower in
      let p1 = and_parts (nat_lt (bit o.0) (bit r)) _ o.2 in
      let p2 = and_parts (same_kind problem r o.0) _ p1.1 in
      let p3 = and_parts (suits_output problem c.item (length front, ((o.0, class_at problem c.item (length front)), own_at problem c.item (length front))) && may_overwrite problem done c.item o.0) _ p2.1 in
      let p4 = and_parts (suits_output problem c.item (length front, ((o.0, class_at problem c.item (length front)), own_at problem c.item (length front)))) (may_overwrite problem done c.item o.0) p3.0 in
      let p5 = and_parts (not (list_any (λ q. same_reg q o.0) front)) (not (is_read_from problem done c.item o.0)) p3.1 in
      let f1 = and_parts (not (is_final_output problem c.item (length front))) _ free in
      let f2 = and_parts (not (is_tied_output problem c.item (length front))) (not (is_flags r)) f1.1 in
      let sum : 0 + length front ≡ length front = omega arith in
      let suits : list_all (λ x. not (x.0 == length front) || suits_output problem c.item (x.0, ((o.0, x.1.0.1), x.1.1))) (output_classes problem c) ≡ true =
      subst (λ m. list_all (λ x. not (x.0 == m) || suits_output problem c.item (x.0, ((o.0, x.1.0.1), x.1.1))) (output_classes problem c) ≡ true) sum
      (only-at (λ m set own. suits_output problem c.item (m, ((o.0, set), own))) 0 (length front) (chosen c) (info_in problem c.item).out_sets (outputs (item_at problem.graph.items c.item)) (record { bits = 0 }) (machine_reg General 0)
      (subst (λ m. suits_output problem c.item (m, ((o.0, class_at problem c.item (length front)), own_at problem c.item (length front))) ≡ true) (sym sum) p4.0)) in
      let le : bit r ≤ bit o.0 = (reduced-from problem done c search of reduced).least (length front) r o.0 (subst (λ regs. slice_get regs (length front) ≡ Some r) (sym is) (at-behind front r rest)) free p2.0
      (and_from _ _ suits p4.1) (untaken front rest r o.0 is p2.0 (not-true (is_flags r) f2.1) (not-true (list_any (λ q. same_reg q o.0) front) p5.0) (not-true (is_read_from problem done c.item o.0) p5.1)) in
      let lt : bit o.0 < bit r = ltb-true (bit o.0) (bit r) p1.0 in
      omega arith

-- What needn't be tried makes no choice that may come.
pub hopeless-never : (problem : Problem) → IsSearchable problem → (done : List Choice) (item unit : ℕ) (front : List Reg) (r : Reg) (rest : List Reg)
    → length (front ++ r ∷ rest) ≡ length (outputs (item_at problem.graph.items item)) → is_hopeless problem done item front r ≡ true
    → may_come problem done (choice_in item unit (front ++ r ∷ rest)) ≡ false
unfolding is_hopeless may_come
hopeless-never problem search done item unit front r rest count hopeless = false_from_ne_true (may_come problem done c) (λ may.
    let parts = and_parts (stands_in item problem.graph.order) _ may in
    let tests = and_parts (not (is_some (first_broken problem done c))) (is_reduced problem done c) parts.1 in
    let few : length (front ++ r ∷ rest) ≤ 3 = subst (λ n. n ≤ 3) (sym count) (search.few_outputs item (search.sources.known item parts.0)) in
    let is : chosen c ≡ front ++ r ∷ rest = padded-back 3 (front ++ r ∷ rest) few in
    let of : IsOf problem c = record { known = parts.0; shape = ap (padded 3) (sym is); outputs_given = ap length is ∙ count } in
    let keeps = keeps_rules problem done c (is_none_from (first_broken problem done c) (not-true (is_some (first_broken problem done c)) tests.0)) in
    ⊎_elim
    (λ (barred : not (may_go problem done item (length front) r) ≡ true).
    both_ways (may_go problem done item (length front) r) (not-true (may_go problem done item (length front) r) barred)
    (went problem search done c of keeps (length front) r (subst (λ regs. slice_get regs (length front) ≡ Some r) (sym is) (at-behind front r rest))))
    (λ (lower : (is_free_at problem item (length front) r && has_lower problem done item front r) ≡ true).
    let l = and_parts (is_free_at problem item (length front) r) (has_lower problem done item front r) lower in
    no-lower problem search done c of keeps front rest r is tests.1 l.0 l.1)
    (or_cases (not (may_go problem done item (length front) r)) _ hopeless))
  where
    c : Choice
    c = choice_in item unit (front ++ r ∷ rest)

pub hopeless-found : (problem : Problem) → IsSearchable problem → (done : List Choice) (after : Option Choice) (item unit : ℕ) (front : List Reg) (r : Reg) (left : ℕ)
    → length front + suc left ≡ length (outputs (item_at problem.graph.items item)) → is_hopeless problem done item front r ≡ true
    → find (may_follow problem done after) (beginning item unit (front ++ r ∷ []) left) ≡ None
hopeless-found problem search done after item unit front r left count hopeless =
    find-never (may_follow problem done after) (beginning item unit (front ++ r ∷ []) left) (λ c h.
    let m = from-map (λ regs. choice_in item unit ((front ++ r ∷ []) ++ regs)) c (reg_lists left) h in
    let long : length m.0 ≡ left = length-regs left m.0 m.1 in
    let whole : length (front ++ r ∷ m.0) ≡ length front + suc (length m.0) = length-append front (r ∷ m.0) in
    let all : length (front ++ r ∷ m.0) ≡ length (outputs (item_at problem.graph.items item)) = omega arith in
    let same : choice_in item unit (front ++ r ∷ m.0) ≡ c = ap (choice_in item unit) (sym (append_assoc front (r ∷ []) m.0)) ∙ m.2 in
    let may : may_come problem done c ≡ false = subst (λ x. may_come problem done x ≡ false) same (hopeless-never problem search done item unit front r m.0 all hopeless) in
    fails-behind (is_behind after c) (may_come problem done c) may)
