-- The registers of a set, one after the other and bank by bank.
use Rattle.std.proofs.Common.{◌≡◌, ℕ, ◌+◌, true, false, cond, List, [], ◌∷◌, ◌++◌, append_assoc, filter, map, refl, sym, ap, ◌∙◌, add-one}
use Rattle.std.proofs.lemmas.List.{append-nil, map-append}
use Rattle.std.proofs.lemmas.List.Elements.{filter-append}
use Rattle.sl_model.specs.declared.register.Bank.{Bank}
use Rattle.sl_model.specs.declared.register.Bank.TheVariants.{General, Vector, Flags, Stack}
use Rattle.sl_model.specs.declared.register.Reg.{Reg}
use Rattle.sl_model.specs.declared.register.RegSet.{RegSet}
use Rattle.sl_model.specs.RegSets.{machine_reg, bank_regs, machine_regs, set_has, regs_in}
use Rattle.sl_model.specs.Source.{numbers_below}

-- the registers of a set in a bank, with a number below one
abbrev pub regs_below : RegSet → Bank → ℕ → List Reg
regs_below set bank number = filter (set_has set) (map (machine_reg bank) (numbers_below number))

-- none yet
pub regs-none : (set : RegSet) (bank : Bank) → regs_below set bank 0 ≡ []
unfolding numbers_below
regs-none set bank = refl

-- one more number
regs-next : (set : RegSet) (bank : Bank) (number : ℕ)
    → regs_below set bank (number + 1) ≡ regs_below set bank number ++ filter (set_has set) (machine_reg bank number ∷ [])
unfolding numbers_below
regs-next set bank number =
    ap (regs_below set bank) (add-one number)
    ∙ ap (filter (set_has set)) (map-append (machine_reg bank) (numbers_below number) (number ∷ []))
    ∙ filter-append (set_has set) (map (machine_reg bank) (numbers_below number)) (machine_reg bank number ∷ [])

-- its register is of the set or not
pub regs-more : (set : RegSet) (bank : Bank) (number : ℕ) → set_has set (machine_reg bank number) ≡ true
    → regs_below set bank (number + 1) ≡ regs_below set bank number ++ machine_reg bank number ∷ []
regs-more set bank number is =
    regs-next set bank number
    ∙ ap (λ b. regs_below set bank number ++ cond b (machine_reg bank number ∷ []) []) is

pub regs-same : (set : RegSet) (bank : Bank) (number : ℕ) → set_has set (machine_reg bank number) ≡ false
    → regs_below set bank (number + 1) ≡ regs_below set bank number
regs-same set bank number is =
    regs-next set bank number
    ∙ ap (λ b. regs_below set bank number ++ cond b (machine_reg bank number ∷ []) []) is
    ∙ append-nil (regs_below set bank number)

-- the registers of a set in a bank
abbrev pub in_bank : RegSet → Bank → List Reg
in_bank set bank = filter (set_has set) (bank_regs bank)

-- those of the four banks, one behind the other, are those of the set
pub regs-all : (set : RegSet) (none one two three four : List Reg) → none ≡ [] → one ≡ none ++ in_bank set General → two ≡ one ++ in_bank set Vector
    → three ≡ two ++ in_bank set Flags → four ≡ three ++ in_bank set Stack → four ≡ regs_in set
unfolding regs_in machine_regs
regs-all set none one two three four at_first general vector flags stack =
    let last : List Reg = in_bank set Flags ++ in_bank set Stack in
    stack
    ∙ ap (λ l. l ++ in_bank set Stack) flags ∙ append_assoc two (in_bank set Flags) (in_bank set Stack)
    ∙ ap (λ l. l ++ last) vector ∙ append_assoc one (in_bank set Vector) last
    ∙ ap (λ l. l ++ (in_bank set Vector ++ last)) (general ∙ ap (λ l. l ++ in_bank set General) at_first)
    ∙ ap (λ l. in_bank set General ++ (in_bank set Vector ++ l)) (sym (filter-append (set_has set) (bank_regs Flags) (bank_regs Stack)))
    ∙ ap (λ l. in_bank set General ++ l) (sym (filter-append (set_has set) (bank_regs Vector) (bank_regs Flags ++ bank_regs Stack)))
    ∙ sym (filter-append (set_has set) (bank_regs General) (bank_regs Vector ++ (bank_regs Flags ++ bank_regs Stack)))
