use Rattle.std.proofs.Common.{◌≡◌, ◌≤◌, ◌*ℤ◌, ◌^◌, ◌∙◌, ap, subst, sym, unsigned_abs, ℤ, FitsSigned, to_z, of_z, lit<}
use Rattle.std.proofs.lemmas.Int.{fits_signed_mul, to_z-of_z, unsigned_abs-mul}
use Rattle.std.proofs.lemmas.Nat.{mul-le}
use Rattle.std.specs.Int.{w128}
use Rattle.lane_ops.proofs.signed.product.Goals as goal

fits : (n m : ℤ) → unsigned_abs n ≤ 2 ^ 63 → unsigned_abs m ≤ 2 ^ 63 → FitsSigned w128 (n *ℤ m)
fits n m f s = fits_signed_mul w128 n m (2 ^ 63) (2 ^ 63) f s (lit< tt)

same : (n m : ℤ) → FitsSigned w128 n → FitsSigned w128 m → to_z w128 (of_z w128 n) *ℤ to_z w128 (of_z w128 m) ≡ n *ℤ m
same n m f s = ap (λ v. v *ℤ to_z w128 (of_z w128 m)) (to_z-of_z w128 n f) ∙ ap (λ v. n *ℤ v) (to_z-of_z w128 m s)

value : (n m : ℤ) → FitsSigned w128 n → FitsSigned w128 m → unsigned_abs n ≤ 2 ^ 63 → unsigned_abs m ≤ 2 ^ 63
    → to_z w128 (of_z w128 (to_z w128 (of_z w128 n) *ℤ to_z w128 (of_z w128 m))) ≡ n *ℤ m
value n m f s p q = ap (λ v. to_z w128 (of_z w128 v)) (same n m f s) ∙ to_z-of_z w128 (n *ℤ m) (fits n m p q)

small : (n m : ℤ) → unsigned_abs n ≤ 2 ^ 63 → unsigned_abs m ≤ 2 ^ 63 → unsigned_abs (n *ℤ m) ≤ 2 ^ 126
small n m p q = subst (λ v. v ≤ 2 ^ 126) (sym (unsigned_abs-mul n m)) (mul-le (unsigned_abs n) (unsigned_abs m) (2 ^ 63) (2 ^ 63) p q)

pub overflow_mul-result : goal.overflow_mul-result
overflow_mul-result c = subst (FitsSigned w128) (sym (same c.args.n c.args.m c.ranges.n c.ranges.m)) (fits c.args.n c.args.m c.requires.first c.requires.second)

pub returns-clause-value : goal.returns-clause-value
returns-clause-value c = value c.args.n c.args.m c.ranges.n c.ranges.m c.requires.first c.requires.second

pub returns-clause-small : goal.returns-clause-small
returns-clause-small c =
    subst (λ v. unsigned_abs v ≤ 2 ^ 126) (sym (value c.args.n c.args.m c.ranges.n c.ranges.m c.requires.first c.requires.second))
    (small c.args.n c.args.m c.requires.first c.requires.second)
