-- The entries of a map that is kept in the order of its keys.
use Rattle.std.proofs.Common.{◌≡◌, ℕ, Bool, true, false, ◌&&◌, T, List, [], ◌∷◌, map, sym, subst, ◌∙◌}
use Rattle.std.specs.declared.cmp.Ordering.{Ordering}
use Rattle.std.specs.declared.cmp.Ordering.TheVariants.{Less}
use Rattle.std.specs.Ordering.{is_lt}
use Rattle.std.specs.Cmp.{IsTotalOrder}
use Rattle.std.specs.List.{AllByRecursion}
use Rattle.std.specs.List.Sorted.{IsStrictlySortedBy}
use Rattle.std.specs.FinMap.{IsAntisymmetric, entries, entries_sorted, from_entries, get-entries, get-from_entries, is_sorted}
use Rattle.std.specs.FinMap.Entries.{same_entries, below_all}

both : (a b : Bool) → T a → T b → T (a && b)
both true b p q = q
both false b p q = absurd p

module _ {K : Type 0} (R : K → K → Ordering) where
  below_each : (x : K) (es : List (K × ℕ)) → AllByRecursion (λ y. R x y ≡ Less) (map (λ e. e.0) es) → T (below_all R x es)
  below_each x [] h = tt
  below_each x (e ∷ es) h = both _ _ (subst (λ r. T (is_lt r)) (sym h.0) tt) (below_each x es h.1)

  sorted_kept : (es : List (K × ℕ)) → IsStrictlySortedBy R (map (λ e. e.0) es) → T (is_sorted R es)
  unfolding IsStrictlySortedBy
  sorted_kept [] h = tt
  sorted_kept (e ∷ es) h = both _ _ (below_each e.0 es h.0) (sorted_kept es h.1)

  -- they are those of the map that they make
  pub entries_kept : IsTotalOrder R → IsAntisymmetric R → (es : List (K × ℕ)) → IsStrictlySortedBy R (map (λ e. e.0) es) → entries (from_entries {R = R} es) ≡ es
  entries_kept o same es h = same_entries R o same (entries (from_entries es)) es (entries_sorted (from_entries es)) (sorted_kept es h)
      (λ q. sym (get-entries (from_entries es) q) ∙ get-from_entries o es q)
