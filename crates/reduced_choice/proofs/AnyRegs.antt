-- A test of the registers of the machine, one bit after the other.
use Rattle.std.proofs.Common.{◌≡◌, ℕ, zero, suc, ◌+◌, ◌<◌, ◌≤◌, Bool, true, false, ◌||◌, List, [], ◌∷◌, ◌++◌, map, ⊎_elim, refl, sym, ap, ◌∙◌, subst, add-one, arith}
use Rattle.std.specs.List.{list_any}
use Rattle.std.proofs.lemmas.Bool.{cases_lt, or_left, or_right}
use Rattle.sl_model.specs.declared.register.Reg.{Reg}
use Rattle.sl_model.specs.Source.{numbers_below}
use Rattle.sl_laws.proofs.Elements.{list_any-map}
use Rattle.search_space.specs.Next.{machine_regs}
use Rattle.search_space.specs.Trials.{reg_of_bit, reg_count}

-- the registers by their bits
by-bits : machine_regs ≡ map reg_of_bit (numbers_below reg_count)
unfolding machine_regs numbers_below
by-bits = refl

module _ (p : Reg → Bool) where
  -- does a register with a lower bit pass?
  abbrev pub any_below : ℕ → Bool
  any_below n = list_any (λ bit. p (reg_of_bit bit)) (numbers_below n)

  -- of all
  any-regs : list_any p machine_regs ≡ any_below reg_count
  any-regs = ap (list_any p) by-bits ∙ list_any-map p reg_of_bit (numbers_below reg_count)

  any-last : (n : ℕ) → any_below (suc n) ≡ (any_below n || p (reg_of_bit n))
  unfolding numbers_below
  any-last n = joined (numbers_below n)
    where
      by : (a b c d : Bool) → c ≡ (b || d) → (a || c) ≡ ((a || b) || d)
      by true b c d e = refl
      by false b c d e = e

      none : (b : Bool) → (b || false) ≡ b
      none true = refl
      none false = refl

      joined : (ns : List ℕ) → list_any (λ bit. p (reg_of_bit bit)) (ns ++ n ∷ []) ≡ (list_any (λ bit. p (reg_of_bit bit)) ns || p (reg_of_bit n))
      joined [] = none (p (reg_of_bit n))
      joined (m ∷ ns) = by (p (reg_of_bit m)) (list_any (λ bit. p (reg_of_bit bit)) ns) (list_any (λ bit. p (reg_of_bit bit)) (ns ++ n ∷ [])) (p (reg_of_bit n)) (joined ns)

  -- none at first
  pub any-first : any_below 0 ≡ false
  unfolding numbers_below
  any-first = refl

  -- and none of one more, where that doesn't pass
  pub any-more : (n : ℕ) → any_below n ≡ false → p (reg_of_bit n) ≡ false → any_below (n + 1) ≡ false
  any-more n before here = ap any_below (add-one n) ∙ any-last n ∙ ap (λ b. b || p (reg_of_bit n)) before ∙ here

  -- one that passes is one of so many
  any-found : (n all : ℕ) → n < all → p (reg_of_bit n) ≡ true → any_below all ≡ true
  any-found n zero below here = absurd (omega arith)
  any-found n (suc all) below here = ⊎_elim
      (λ (earlier : n < all). any-last all ∙ or_left (any_below all) (p (reg_of_bit all)) (any-found n all earlier here))
      (λ (last : all ≤ n).
      let same : n ≡ all = omega arith in
      any-last all ∙ or_right (any_below all) (p (reg_of_bit all)) (subst (λ k. p (reg_of_bit k) ≡ true) same here))
      (cases_lt n all)

  -- So one that passes is one of all,
  pub some-reg : (n : ℕ) → n < reg_count → p (reg_of_bit n) ≡ true → true ≡ list_any p machine_regs
  some-reg n below here = sym (any-regs ∙ any-found n reg_count below here)

  -- and where none does, none of all does.
  pub no-reg : (n : ℕ) → reg_count ≤ n → n ≤ reg_count → any_below n ≡ false → false ≡ list_any p machine_regs
  no-reg n least most none =
      let all : n ≡ reg_count = omega arith in
      sym (any-regs ∙ subst (λ k. any_below k ≡ false) all none)
