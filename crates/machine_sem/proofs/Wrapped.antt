-- Addresses are taken modulo the space.
use Rattle.std.proofs.Common.{◌≡◌, ℕ, zero, suc, ◌+◌, ◌%◌, List, [], ◌∷◌, refl, sym, ap, ◌∙◌}
use Rattle.std.specs.Ordering.{nat_cmp}
use Rattle.std.specs.FinMap.{FinMap}
use Rattle.std.proofs.Math.Nat.{mod-mod, mod-add-mod}
use Rattle.sl_model.specs.State.{byte, put, load, store}

-- the address behind a wrapped one
pub next_wrapped : (s a : ℕ) → (a % s + 1) % s ≡ (a + 1) % s
next_wrapped s a = mod-add-mod a s 1

pub load_wrapped : (s : ℕ) (m : FinMap nat_cmp ℕ) (a n : ℕ) → load s m (a % s) n ≡ load s m a n
unfolding load
load_wrapped s m a zero = refl
load_wrapped s m a (suc n) =
    let behind : load s m (a % s + 1) n ≡ load s m (a + 1) n =
    sym (load_wrapped s m (a % s + 1) n) ∙ ap (λ b. load s m b n) (next_wrapped s a) ∙ load_wrapped s m (a + 1) n in
    ap (λ b. byte m b ∷ load s m (a % s + 1) n) (mod-mod a s) ∙ ap (λ rest. byte m (a % s) ∷ rest) behind

pub store_wrapped : (s a : ℕ) (bytes : List ℕ) (m : FinMap nat_cmp ℕ) → store s (a % s) bytes m ≡ store s a bytes m
unfolding store
store_wrapped s a [] m = refl
store_wrapped s a (b ∷ bytes) m =
    ap (λ at. store s (a % s + 1) bytes (put at b m)) (mod-mod a s)
    ∙ sym (store_wrapped s (a % s + 1) bytes (put (a % s) b m))
    ∙ ap (λ at. store s at bytes (put (a % s) b m)) (next_wrapped s a)
    ∙ store_wrapped s (a + 1) bytes (put (a % s) b m)

-- bytes that are loaded one after the other
pub load_next : (s : ℕ) (m : FinMap nat_cmp ℕ) (a b n : ℕ) → b ≡ (a + 1) % s → byte m (a % s) ∷ load s m b n ≡ load s m a (suc n)
unfolding load
load_next s m a b n is = ap (λ rest. byte m (a % s) ∷ rest) (ap (λ at. load s m at n) is ∙ load_wrapped s m (a + 1) n)

-- bytes that are stored one after the other
pub store_next : (s a b c : ℕ) (bytes : List ℕ) (m : FinMap nat_cmp ℕ) → b ≡ (a + 1) % s → store s b bytes (put (a % s) c m) ≡ store s a (c ∷ bytes) m
unfolding store
store_next s a b c bytes m is = ap (λ at. store s at bytes (put (a % s) c m)) is ∙ store_wrapped s (a + 1) bytes (put (a % s) c m)
