-- Tied outputs are in the registers of the inputs that they are tied to.
use Rattle.std.proofs.Common.{◌≡◌, ◌∙◌, sym, ap, subst, refl, ℕ, zero, suc, ◌+◌, Bool, true, false, cond, ◌&&◌, List, [], ◌∷◌, ◌++◌, length, map, arith}
use Rattle.std.specs.Prelude.{Option, Some, None, is_some, slice_get}
use Rattle.std.specs.List.{list_all, zip}
use Rattle.sl_model.specs.declared.register.Reg.{Reg}
use Rattle.sl_model.specs.Lawful.{is_some_reg, is_reg_at, is_tied_to}
use Rattle.form_table.specs.Rows.{row_operands}
use Rattle.form_table.specs.Reads.{is_picked, kept, picked}
use Rattle.form_table.specs.Printed.{has_register}
use Rattle.form_table.specs.declared.rows.Role.{Role}
use Rattle.form_table.specs.declared.rows.Role.TheVariants as role
use Rattle.form_table.specs.declared.rows.Operand.{Operand}
use Rattle.form_table.specs.declared.rows.Row.{Row}
use Rattle.form_table.specs.declared.spells.Held.{Held}
use Rattle.form_table.specs.declared.reader.Pick.TheVariants as pick
use Rattle.form_table.proofs.ForCallers.{IsShaped, Shaped}
use Rattle.form_isa.specs.Info.{classes, ties, places_of, all_ties, padded_ties}
use Rattle.form_isa.proofs.Places.{flags_among, read_regs, written_regs}
use Rattle.sl_laws.proofs.Elements.{slice_get-front}
use Rattle.sl_laws.proofs.Registers.{same_reg-refl}

-- From a place on, these registers stand in a list.
abbrev pub StandFrom : List Reg → ℕ → List Reg → Type 0
StandFrom ins from regs = (k : ℕ) (r : Reg) → slice_get regs k ≡ Some r → slice_get ins (from + k) ≡ Some r

stand-first : (ins : List Reg) (from : ℕ) (r : Reg) (regs : List Reg) → StandFrom ins from (r ∷ regs) →
    is_reg_at ins from r ≡ true
stand-first ins from r regs h =
    let here : from + 0 ≡ from = omega arith in
    ap (λ o. is_some_reg o r) (ap (slice_get ins) (sym here) ∙ h 0 r refl) ∙ same_reg-refl r

pub stand-next : (ins : List Reg) (from : ℕ) (r : Reg) (regs : List Reg) → StandFrom ins from (r ∷ regs) →
    StandFrom ins (from + 1) regs
stand-next ins from r regs h k q e =
    let same : from + suc k ≡ from + 1 + k = omega arith in
    subst (λ n. slice_get ins n ≡ Some q) same (h (suc k) q e)

-- Outputs are tied as these places say.
abbrev pub AreTied : List Reg → List Reg → List (Option ℕ) → Type 0
AreTied ins outs places = list_all (is_tied_to ins) (zip outs places) ≡ true

untied : (ins : List Reg) (n : ℕ) (outs : List Reg) → AreTied ins outs (padded_ties n [])
unfolding padded_ties
untied ins zero [] = refl
untied ins zero (r ∷ outs) = refl
untied ins (suc n) [] = refl
untied ins (suc n) (r ∷ outs) = untied ins n outs

one-free : (ins : List Reg) (r : Reg) (outs : List Reg) (n : ℕ) (places : List (Option ℕ)) →
    ((m : ℕ) → AreTied ins outs (padded_ties m places)) →
    AreTied ins (r ∷ outs) (padded_ties n (None ∷ places))
unfolding padded_ties
one-free ins r outs zero places rest = refl
one-free ins r outs (suc n) places rest = rest n

one-tied : (ins : List Reg) (r : Reg) (outs : List Reg) (n next : ℕ) (places : List (Option ℕ)) → is_reg_at ins next r ≡ true →
    ((m : ℕ) → AreTied ins outs (padded_ties m places)) → AreTied ins (r ∷ outs) (padded_ties n (Some next ∷ places))
unfolding padded_ties
one-tied ins r outs zero next places here rest = refl
one-tied ins r outs (suc n) next places here rest =
    ap (λ b. b && list_all (is_tied_to ins) (zip outs (padded_ties n places))) here ∙ rest n

-- the places of an operand and of those behind it
abbrev pub placed : Bool → Role → ℕ → (ℕ → List (Option ℕ)) → List (Option ℕ)
placed has r next behind =
    cond (cond has (is_picked pick.Tied r) false) (Some next ∷ behind (next + 1))
    (cond (cond has (is_picked pick.Written r) false) (None ∷ behind next) (behind next))

abbrev RestTied : List Reg → List Reg → List Reg → (ℕ → List (Option ℕ)) → Type 0
RestTied ins tied outs behind = (n next : ℕ) → StandFrom ins next tied → AreTied ins outs (padded_ties n (behind next))

step-tied : (ins : List Reg) (r : Role) (o : Option Reg) (tied written more : List Reg) (n next : ℕ)
    (behind : ℕ → List (Option ℕ)) →
    StandFrom ins next (kept (is_picked pick.Tied r) o tied) → RestTied ins tied (written ++ more) behind →
    AreTied ins (kept (is_picked pick.Written r) o written ++ more) (padded_ties n (placed (is_some o) r next behind))
step-tied ins role.In None tied written more n next behind h rest = rest n next h
step-tied ins role.Out None tied written more n next behind h rest = rest n next h
step-tied ins role.Tied None tied written more n next behind h rest = rest n next h
step-tied ins role.Base None tied written more n next behind h rest = rest n next h
step-tied ins role.Back None tied written more n next behind h rest = rest n next h
step-tied ins role.In (Some r) tied written more n next behind h rest = rest n next h
step-tied ins role.Out (Some r) tied written more n next behind h rest =
    one-free ins r (written ++ more) n (behind next) (λ m. rest m next h)
step-tied ins role.Tied (Some r) tied written more n next behind h rest =
    one-tied ins r (written ++ more) n next (behind (next + 1)) (stand-first ins next r tied h)
    (λ m. rest m (next + 1) (stand-next ins next r tied h))
step-tied ins role.Base (Some r) tied written more n next behind h rest = rest n next h
step-tied ins role.Back (Some r) tied written more n next behind h rest = rest n next h

-- what stands behind all of them
pub placed-append : (has : Bool) (r : Role) (next : ℕ) (behind : ℕ → List (Option ℕ)) (others : List (Option ℕ)) →
    placed has r next behind ++ others ≡ placed has r next (λ from. behind from ++ others)
placed-append false r next behind others = refl
placed-append true role.In next behind others = refl
placed-append true role.Out next behind others = refl
placed-append true role.Tied next behind others = refl
placed-append true role.Base next behind others = refl
placed-append true role.Back next behind others = refl

operands-tied : (ins : List Reg) (operands : List Operand) (helds : List Held) (more : List Reg) (others : List (Option ℕ))
    (n next : ℕ) → Shaped operands helds →
    StandFrom ins next (picked pick.Tied operands helds) → ((m : ℕ) → AreTied ins more (padded_ties m others)) →
    AreTied ins (picked pick.Written operands helds ++ more) (padded_ties n (ties next operands ++ others))
unfolding picked ties
operands-tied ins [] [] more others n next s h rest = rest n
operands-tied ins [] (held ∷ helds) more others n next s h rest = absurd s
operands-tied ins (operand ∷ operands) [] more others n next s h rest = absurd s
operands-tied ins (operand ∷ operands) (held ∷ helds) more others n next s h rest =
    let shaped : IsShaped operand held = s.0 in
    let written : List Reg = picked pick.Written operands helds in
    let outs : List Reg = kept (is_picked pick.Written operand.role) held.register written ++ more in
    let behind : ℕ → List (Option ℕ) = λ from. ties from operands ++ others in
    subst (λ (places : List (Option ℕ)). AreTied ins outs (padded_ties n places))
    (sym (placed-append (has_register operand.shape) operand.role next (λ from. ties from operands) others))
    (subst (λ has. AreTied ins outs (padded_ties n (placed has operand.role next behind))) shaped.register
    (step-tied ins operand.role held.register (picked pick.Tied operands helds) written more n next behind h
    (λ m from g. operands-tied ins operands helds more others m from s.1 g rest)))

-- the places of an operand among the bases that are written back
abbrev pub based : Bool → Role → ℕ → (ℕ → List ℕ) → List ℕ
based has r next behind =
    cond (cond has (is_picked pick.Back r) false) (next ∷ behind (next + 1))
    (cond (cond has (is_picked pick.Read r) false) (behind (next + 1)) (behind next))

abbrev pub as_ties : List ℕ → List (Option ℕ)
as_ties places = map (λ place. Some place) places

abbrev BasesTied : List Reg → List Reg → List Reg → (ℕ → List ℕ) → Type 0
BasesTied ins read outs behind = (n next : ℕ) → StandFrom ins next read → AreTied ins outs (padded_ties n (as_ties (behind next)))

step-base : (ins : List Reg) (r : Role) (o : Option Reg) (read back more : List Reg) (n next : ℕ) (behind : ℕ → List ℕ) →
    StandFrom ins next (kept (is_picked pick.Read r) o read) → BasesTied ins read (back ++ more) behind →
    AreTied ins (kept (is_picked pick.Back r) o back ++ more) (padded_ties n (as_ties (based (is_some o) r next behind)))
step-base ins role.In None read back more n next behind h rest = rest n next h
step-base ins role.Out None read back more n next behind h rest = rest n next h
step-base ins role.Tied None read back more n next behind h rest = rest n next h
step-base ins role.Base None read back more n next behind h rest = rest n next h
step-base ins role.Back None read back more n next behind h rest = rest n next h
step-base ins role.In (Some r) read back more n next behind h rest = rest n (next + 1) (stand-next ins next r read h)
step-base ins role.Out (Some r) read back more n next behind h rest = rest n next h
step-base ins role.Tied (Some r) read back more n next behind h rest = rest n next h
step-base ins role.Base (Some r) read back more n next behind h rest = rest n (next + 1) (stand-next ins next r read h)
step-base ins role.Back (Some r) read back more n next behind h rest =
    one-tied ins r (back ++ more) n next (as_ties (behind (next + 1))) (stand-first ins next r read h)
    (λ m. rest m (next + 1) (stand-next ins next r read h))

-- A base that is written back is tied to itself.
bases-tied : (ins : List Reg) (operands : List Operand) (helds : List Held) (more : List Reg) (n next : ℕ) →
    Shaped operands helds → StandFrom ins next (picked pick.Read operands helds) →
    AreTied ins (picked pick.Back operands helds ++ more) (padded_ties n (as_ties (places_of pick.Back next operands)))
unfolding picked places_of
bases-tied ins [] [] more n next s h = untied ins n more
bases-tied ins [] (held ∷ helds) more n next s h = absurd s
bases-tied ins (operand ∷ operands) [] more n next s h = absurd s
bases-tied ins (operand ∷ operands) (held ∷ helds) more n next s h =
    let shaped : IsShaped operand held = s.0 in
    let back : List Reg = picked pick.Back operands helds in
    let outs : List Reg = kept (is_picked pick.Back operand.role) held.register back ++ more in
    let behind : ℕ → List ℕ = λ from. places_of pick.Back from operands in
    subst (λ has. AreTied ins outs (padded_ties n (as_ties (based has operand.role next behind)))) shaped.register
    (step-base ins operand.role held.register (picked pick.Read operands helds) back more n next behind h
    (λ m from g. bases-tied ins operands helds more m from s.1 g))

-- what stands behind a list, and what stands in front
pub behind-at : {A : Type 0} (front back : List A) (k : ℕ) → slice_get (front ++ back) (length front + k) ≡ slice_get back k
behind-at [] back k = let same : 0 + k ≡ k = omega arith in ap (slice_get back) same
behind-at (x ∷ front) back k =
    let same : suc (length front) + k ≡ suc (length front + k) = omega arith in
    ap (slice_get (x ∷ (front ++ back))) same ∙ behind-at front back k

tied-stand : (read tied more : List Reg) → StandFrom (read ++ (tied ++ more)) (length read) tied
tied-stand read tied more k r e = behind-at read (tied ++ more) k ∙ slice_get-front tied more k r e

pub read-stand : (read more : List Reg) → StandFrom (read ++ more) 0 read
read-stand read more k r e =
    let same : 0 + k ≡ k = omega arith in ap (slice_get (read ++ more)) same ∙ slice_get-front read more k r e

-- The outputs of a row's instruction are tied as the row says.
pub row-tied : (row : Row) (helds : List Held) (n : ℕ) → Shaped (row_operands row) helds →
    length (picked pick.Read (row_operands row) helds) ≡ length (classes pick.Read (row_operands row)) →
    list_all (is_tied_to (read_regs row helds))
    (zip (written_regs row helds) (padded_ties n (all_ties (row_operands row)))) ≡ true
unfolding all_ties
row-tied row helds n s count =
    operands-tied (read_regs row helds) (row_operands row) helds
    (picked pick.Back (row_operands row) helds ++ flags_among row.sets_flags)
    (as_ties (places_of pick.Back 0 (row_operands row))) n (length (classes pick.Read (row_operands row))) s
    (subst (λ from. StandFrom (read_regs row helds) from (picked pick.Tied (row_operands row) helds)) count
    (tied-stand (picked pick.Read (row_operands row) helds) (picked pick.Tied (row_operands row) helds)
    (flags_among row.reads_flags)))
    (λ m. bases-tied (read_regs row helds) (row_operands row) helds (flags_among row.sets_flags) m 0 s
    (read-stand (picked pick.Read (row_operands row) helds) _))
