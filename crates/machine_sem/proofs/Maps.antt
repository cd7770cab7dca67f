-- Maps that are kept as entries, seen as finite maps.
use Rattle.std.proofs.Common.{◌≡◌, ℕ, Bool, true, false, cond, List, [], ◌∷◌, Option, Some, None, refl, sym, ap, ◌∙◌}
use Rattle.std.specs.declared.cmp.Ordering.{Ordering}
use Rattle.std.specs.Ordering.{eq_by_cmp, nat_cmp}
use Rattle.std.specs.Cmp.{IsTotalOrder, Equal-is, eq_by_cmp_equiv}
use Rattle.std.specs.Cmp.Lexicographic.{slice_cmp}
use Rattle.std.specs.BTreeMap.{is_at}
use Rattle.std.specs.Map.{lookup}
use Rattle.std.specs.FinMap.{FinMap, IsAntisymmetric, nat_cmp-IsAntisymmetric, slice_cmp-IsAntisymmetric, get, insert, remove, find, from_entries, get-from_entries, get-insert, get-remove, same_map}
use Rattle.machine_sem.specs.StateCode.{restored}

module _ {K : Type 0} {R : K → K → Ordering} (o : IsTotalOrder R) (same : IsAntisymmetric R) where
  find_kept : (es : List (K × ℕ)) (q : K) → find R q es ≡ lookup (is_at (R q)) es
  find_kept [] q = refl
  find_kept (e ∷ es) q = ap (cond (is_at (R q) e.0) (Some e.1)) (find_kept es q)

  -- what the map of some entries has at a key
  pub get_kept : (es : List (K × ℕ)) (q : K) → get (from_entries {R = R} es) q ≡ lookup (is_at (R q)) es
  get_kept es q = get-from_entries o es q ∙ find_kept es q

  -- entries that differ at one key make maps that differ there
  pub one_set : (es fs : List (K × ℕ)) (k : K) (v : ℕ) → ((q : K) → lookup (is_at (R q)) fs ≡ cond (is_at (R k) q) (Some v) (lookup (is_at (R q)) es)) → from_entries {R = R} fs ≡ insert (from_entries es) k v
  one_set es fs k v h = same_map o same _ _ (λ q.
      get_kept fs q ∙ h q ∙ ap (λ b. cond b (Some v) (lookup (is_at (R q)) es)) ((eq_by_cmp_equiv o).symm k q)
      ∙ sym (get-insert o (from_entries es) k v q ∙ ap (cond (is_at (R q) k) (Some v)) (get_kept es q)))

  pub one_removed : (es fs : List (K × ℕ)) (k : K) → ((q : K) → lookup (is_at (R q)) fs ≡ cond (is_at (R k) q) None (lookup (is_at (R q)) es)) → from_entries {R = R} fs ≡ remove (from_entries es) k
  one_removed es fs k h = same_map o same _ _ (λ q.
      get_kept fs q ∙ h q ∙ ap (λ b. cond b None (lookup (is_at (R q)) es)) ((eq_by_cmp_equiv o).symm k q)
      ∙ sym (get-remove o (from_entries es) k q ∙ ap (cond (is_at (R q) k) None) (get_kept es q)))

  overwritten : (b : Bool) (x : Option ℕ) (v : ℕ) (y : Option ℕ) → (b ≡ true → y ≡ x) → cond b x (cond b (Some v) y) ≡ y
  overwritten true x v y h = sym (h refl)
  overwritten false x v y h = refl

  restored_at : (m : FinMap R ℕ) (k : K) (v : ℕ) (before : Option ℕ) (q : K) → get (restored (insert m k v) k before) q ≡ cond (eq_by_cmp R q k) before (cond (eq_by_cmp R q k) (Some v) (get m q))
  unfolding restored
  restored_at m k v None q = get-remove o (insert m k v) k q ∙ ap (cond (eq_by_cmp R q k) None) (get-insert o m k v q)
  restored_at m k v (Some b) q = get-insert o (insert m k v) k b q ∙ ap (cond (eq_by_cmp R q k) (Some b)) (get-insert o m k v q)

  -- what was set is put back to what it was
  pub undone : (m : FinMap R ℕ) (k : K) (v : ℕ) → restored (insert m k v) k (get m k) ≡ m
  undone m k v = same_map o same _ _ (λ q.
      restored_at m k v (get m k) q
      ∙ overwritten (eq_by_cmp R q k) (get m k) v (get m q) (λ e. ap (get m) (same q k ((Equal-is (R q k)).0 e))))

pub keys_differ : IsAntisymmetric (slice_cmp nat_cmp)
keys_differ = slice_cmp-IsAntisymmetric nat_cmp-IsAntisymmetric
