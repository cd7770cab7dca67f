-- Where tied outputs are in the registers of their operands, the operands' registers are told by the outputs.
use Rattle.std.proofs.Common.{◌≡◌, ◌∙◌, sym, ap, subst, refl, ℕ, zero, suc, ◌+◌, ◌≤◌, true, false, cond, List, [], ◌∷◌, ◌++◌, length, arith}
use Rattle.std.specs.Prelude.{Option, Some, None, is_some, slice_get}
use Rattle.std.specs.List.{list_all, zip}
use Rattle.std.proofs.lemmas.Bool.{and_parts, false≢true}
use Rattle.sl_model.specs.declared.register.Reg.{Reg}
use Rattle.sl_model.specs.declared.register.RegSet.{RegSet}
use Rattle.sl_model.specs.Lawful.{is_some_reg, is_reg_at, is_tied_to}
use Rattle.form_table.specs.Reads.{is_picked, kept, picked}
use Rattle.form_table.specs.Printed.{has_register}
use Rattle.form_table.specs.declared.rows.Role.{Role}
use Rattle.form_table.specs.declared.rows.Role.TheVariants as role
use Rattle.form_table.specs.declared.rows.Operand.{Operand}
use Rattle.form_table.specs.declared.spells.Held.{Held}
use Rattle.form_table.specs.declared.reader.Pick.TheVariants as pick
use Rattle.form_table.proofs.ForCallers.{Shaped}
use Rattle.form_isa.specs.Info.{classes, ties, places_of, padded_ties}
use Rattle.form_isa.proofs.Ties.{StandFrom, AreTied, placed, placed-append, based, as_ties, behind-at, stand-next}
use Rattle.sl_laws.proofs.Registers.{same_reg-true}

-- ---- the first output and those behind it

reg-found : (o : Option Reg) (r : Reg) → is_some_reg o r ≡ true → o ≡ Some r
reg-found None r e = absurd (false≢true e)
reg-found (Some q) r e = ap Some (same_reg-true q r e)

-- the first output is in its operand's register
first-tied : (ins : List Reg) (r : Reg) (outs : List Reg) (n next : ℕ) (places : List (Option ℕ)) → length (r ∷ outs) ≤ n →
    AreTied ins (r ∷ outs) (padded_ties n (Some next ∷ places)) → slice_get ins next ≡ Some r
unfolding padded_ties
first-tied ins r outs zero next places few e = absurd (omega arith)
first-tied ins r outs (suc n) next places few e =
    reg-found (slice_get ins next) r (and_parts (is_reg_at ins next r) (list_all (is_tied_to ins) (zip outs (padded_ties n places))) e).0

-- What is known of the outputs behind the first one.
record Later (ins outs : List Reg) (n : ℕ) (places : List (Option ℕ)) : Type 0 where
  room : ℕ
  few : length outs ≤ room
  tied : AreTied ins outs (padded_ties room places)

later-tied : (ins : List Reg) (r : Reg) (outs : List Reg) (n : ℕ) (tie : Option ℕ) (places : List (Option ℕ)) → length (r ∷ outs) ≤ n →
    AreTied ins (r ∷ outs) (padded_ties n (tie ∷ places)) → Later ins outs n places
unfolding padded_ties
later-tied ins r outs zero tie places few e = absurd (omega arith)
later-tied ins r outs (suc n) tie places few e = record {
  room = n;
  few = omega arith;
  tied = (and_parts (is_tied_to ins (r, tie)) (list_all (is_tied_to ins) (zip outs (padded_ties n places))) e).1;
}

stand-more : (ins : List Reg) (from : ℕ) (r : Reg) (regs : List Reg) → slice_get ins from ≡ Some r → StandFrom ins (from + 1) regs → StandFrom ins from (r ∷ regs)
stand-more ins from r regs first rest zero q e =
    let here : from ≡ from + 0 = omega arith in ap (slice_get ins) (sym here) ∙ first ∙ e
stand-more ins from r regs first rest (suc k) q e =
    let there : from + 1 + k ≡ from + suc k = omega arith in
    ap (slice_get ins) (sym there) ∙ rest k q e

-- ---- tied operands

-- The tied operands' registers stand among the inputs, and the other outputs are tied as the other ties say.
pub record TiedBack (ins : List Reg) (next : ℕ) (tied more : List Reg) (others : List (Option ℕ)) : Type 0 where
  pub stand : StandFrom ins next tied
  pub room : ℕ
  pub few : length more ≤ room
  pub behind : AreTied ins more (padded_ties room others)

abbrev RestBack : List Reg → List Reg → List Reg → (ℕ → List (Option ℕ)) → List Reg → List (Option ℕ) → Type 0
RestBack ins tied outs behind more others =
    (n next : ℕ) → length outs ≤ n → AreTied ins outs (padded_ties n (behind next)) → TiedBack ins next tied more others

step-back : (ins : List Reg) (r : Role) (o : Option Reg) (tied written more : List Reg) (others : List (Option ℕ)) (n next : ℕ)
    (behind : ℕ → List (Option ℕ)) →
    length (kept (is_picked pick.Written r) o written ++ more) ≤ n → RestBack ins tied (written ++ more) behind more others →
    AreTied ins (kept (is_picked pick.Written r) o written ++ more) (padded_ties n (placed (is_some o) r next behind)) →
    TiedBack ins next (kept (is_picked pick.Tied r) o tied) more others
step-back ins role.In None tied written more others n next behind few rest e = rest n next few e
step-back ins role.Out None tied written more others n next behind few rest e = rest n next few e
step-back ins role.Tied None tied written more others n next behind few rest e = rest n next few e
step-back ins role.Base None tied written more others n next behind few rest e = rest n next few e
step-back ins role.Back None tied written more others n next behind few rest e = rest n next few e
step-back ins role.In (Some r) tied written more others n next behind few rest e = rest n next few e
step-back ins role.Out (Some r) tied written more others n next behind few rest e =
    let later = later-tied ins r (written ++ more) n None (behind next) few e in
    rest later.room next later.few later.tied
step-back ins role.Tied (Some r) tied written more others n next behind few rest e =
    let later = later-tied ins r (written ++ more) n (Some next) (behind (next + 1)) few e in
    let found = rest later.room (next + 1) later.few later.tied in
    record {
      stand = stand-more ins next r tied (first-tied ins r (written ++ more) n next (behind (next + 1)) few e) found.stand;
      room = found.room;
      few = found.few;
      behind = found.behind;
    }
step-back ins role.Base (Some r) tied written more others n next behind few rest e = rest n next few e
step-back ins role.Back (Some r) tied written more others n next behind few rest e = rest n next few e

none-back : (ins more : List Reg) (n next : ℕ) (others : List (Option ℕ)) → length more ≤ n → AreTied ins more (padded_ties n others) →
    TiedBack ins next [] more others
none-back ins more n next others few e = record { stand = λ k r at. absurd cc; room = n; few = few; behind = e }

pub tied-back : (ins : List Reg) (operands : List Operand) (helds : List Held) (more : List Reg) (others : List (Option ℕ)) (n next : ℕ) →
    Shaped operands helds → length (picked pick.Written operands helds ++ more) ≤ n →
    AreTied ins (picked pick.Written operands helds ++ more) (padded_ties n (ties next operands ++ others)) →
    TiedBack ins next (picked pick.Tied operands helds) more others
unfolding picked ties
tied-back ins [] [] more others n next s few e = none-back ins more n next others few e
tied-back ins [] (held ∷ helds) more others n next s few e = absurd s
tied-back ins (operand ∷ operands) [] more others n next s few e = absurd s
tied-back ins (operand ∷ operands) (held ∷ helds) more others n next s few e =
    let written : List Reg = picked pick.Written operands helds in
    let outs : List Reg = kept (is_picked pick.Written operand.role) held.register written ++ more in
    let behind : ℕ → List (Option ℕ) = λ from. ties from operands ++ others in
    step-back ins operand.role held.register (picked pick.Tied operands helds) written more others n next behind few
    (λ m from fits f. tied-back ins operands helds more others m from s.1 fits f)
    (subst (λ has. AreTied ins outs (padded_ties n (placed has operand.role next behind))) (sym s.0.register)
    (subst (λ (places : List (Option ℕ)). AreTied ins outs (padded_ties n places))
    (placed-append (has_register operand.shape) operand.role next (λ from. ties from operands) others) e))

-- ---- bases that are written back

abbrev BasesBack : List Reg → List Reg → List RegSet → List Reg → List Reg → (ℕ → List ℕ) → Type 0
BasesBack ins read sets back more behind =
    (n next : ℕ) (outs : List Reg) → length (outs ++ more) ≤ n → StandFrom ins next read → length outs ≡ length sets →
    AreTied ins (outs ++ more) (padded_ties n (as_ties (behind next))) → outs ≡ back

same-some : (q r : Reg) (o : Option Reg) → o ≡ Some q → o ≡ Some r → q ≡ r
same-some q r o e f = let same : Some q ≡ Some r = sym e ∙ f in cc

stand-first : (ins : List Reg) (from : ℕ) (r : Reg) (regs : List Reg) → StandFrom ins from (r ∷ regs) → slice_get ins from ≡ Some r
stand-first ins from r regs h = let here : from + 0 ≡ from = omega arith in ap (slice_get ins) (sym here) ∙ h 0 r refl

-- a base that is written back is its output
base-back : (ins : List Reg) (q : Reg) (outs more read : List Reg) (sets : List RegSet) (set : RegSet) (back : List Reg) (n next : ℕ) (r : Reg) (behind : ℕ → List ℕ) →
    length ((q ∷ outs) ++ more) ≤ n → StandFrom ins next (r ∷ read) → length (q ∷ outs) ≡ length (set ∷ sets) → BasesBack ins read sets back more behind →
    AreTied ins ((q ∷ outs) ++ more) (padded_ties n (as_ties (next ∷ behind (next + 1)))) → q ∷ outs ≡ r ∷ back
base-back ins q outs more read sets set back n next r behind few h count rest e =
    let later = later-tied ins q (outs ++ more) n (Some next) (as_ties (behind (next + 1))) few e in
    let first : slice_get ins next ≡ Some q = first-tied ins q (outs ++ more) n next (as_ties (behind (next + 1))) few e in
    let same : q ≡ r = same-some q r (slice_get ins next) first (stand-first ins next r read h) in
    ap (λ x. x ∷ outs) same ∙ ap (λ l. r ∷ l) (rest later.room (next + 1) outs later.few (stand-next ins next r read h) (omega arith) later.tied)

step-base : (ins : List Reg) (r : Role) (o : Option Reg) (set : RegSet) (read : List Reg) (sets : List RegSet) (outs back more : List Reg) (n next : ℕ) (behind : ℕ → List ℕ) →
    length (outs ++ more) ≤ n → StandFrom ins next (kept (is_picked pick.Read r) o read) →
    length outs ≡ length (cond (cond (is_some o) (is_picked pick.Back r) false) (set ∷ sets) sets) → BasesBack ins read sets back more behind →
    AreTied ins (outs ++ more) (padded_ties n (as_ties (based (is_some o) r next behind))) → outs ≡ kept (is_picked pick.Back r) o back
step-base ins role.In None set read sets outs back more n next behind few h count rest e = rest n next outs few h count e
step-base ins role.Out None set read sets outs back more n next behind few h count rest e = rest n next outs few h count e
step-base ins role.Tied None set read sets outs back more n next behind few h count rest e = rest n next outs few h count e
step-base ins role.Base None set read sets outs back more n next behind few h count rest e = rest n next outs few h count e
step-base ins role.Back None set read sets outs back more n next behind few h count rest e = rest n next outs few h count e
step-base ins role.In (Some r) set read sets outs back more n next behind few h count rest e = rest n (next + 1) outs few (stand-next ins next r read h) count e
step-base ins role.Out (Some r) set read sets outs back more n next behind few h count rest e = rest n next outs few h count e
step-base ins role.Tied (Some r) set read sets outs back more n next behind few h count rest e = rest n next outs few h count e
step-base ins role.Base (Some r) set read sets outs back more n next behind few h count rest e = rest n (next + 1) outs few (stand-next ins next r read h) count e
step-base ins role.Back (Some r) set read sets [] back more n next behind few h count rest e = absurd (omega arith)
step-base ins role.Back (Some r) set read sets (q ∷ outs) back more n next behind few h count rest e =
    base-back ins q outs more read sets set back n next r behind few h count rest e

pub bases-back : (ins : List Reg) (operands : List Operand) (helds : List Held) (more : List Reg) (n next : ℕ) (outs : List Reg) → Shaped operands helds →
    length (outs ++ more) ≤ n → StandFrom ins next (picked pick.Read operands helds) → length outs ≡ length (classes pick.Back operands) →
    AreTied ins (outs ++ more) (padded_ties n (as_ties (places_of pick.Back next operands))) → outs ≡ picked pick.Back operands helds
unfolding picked places_of classes
bases-back ins [] [] more n next [] s few h count e = refl
bases-back ins [] [] more n next (q ∷ outs) s few h count e = absurd (omega arith)
bases-back ins [] (held ∷ helds) more n next outs s few h count e = absurd s
bases-back ins (operand ∷ operands) [] more n next outs s few h count e = absurd s
bases-back ins (operand ∷ operands) (held ∷ helds) more n next outs s few h count e =
    let behind : ℕ → List ℕ = λ from. places_of pick.Back from operands in
    step-base ins operand.role held.register operand.class (picked pick.Read operands helds) (classes pick.Back operands) outs (picked pick.Back operands helds) more n next behind few h
    (subst (λ has. length outs ≡ length (cond (cond has (is_picked pick.Back operand.role) false) (operand.class ∷ classes pick.Back operands) (classes pick.Back operands))) (sym s.0.register) count)
    (λ m from regs fits stand many f. bases-back ins operands helds more m from regs s.1 fits stand many f)
    (subst (λ has. AreTied ins (outs ++ more) (padded_ties n (as_ties (based has operand.role next behind)))) (sym s.0.register) e)

-- ---- registers that stand where others do are these

pub same-front : (tied regs behind : List Reg) → length tied ≡ length regs → ((k : ℕ) (r : Reg) → slice_get tied k ≡ Some r → slice_get (regs ++ behind) k ≡ Some r) →
    tied ≡ regs
same-front [] [] behind count each = refl
same-front [] (q ∷ regs) behind count each = absurd (omega arith)
same-front (r ∷ tied) [] behind count each = absurd (omega arith)
same-front (r ∷ tied) (q ∷ regs) behind count each =
    let first : q ≡ r = same-some q r (Some q) refl (each 0 r refl) in
    ap (λ x. x ∷ tied) (sym first) ∙ ap (λ l. q ∷ l) (same-front tied regs behind (omega arith) (λ k p at. each (suc k) p at))

-- Registers that stand behind a front of a list stand in its back.
pub stand-behind : (front back regs : List Reg) → StandFrom (front ++ back) (length front) regs → (k : ℕ) (r : Reg) → slice_get regs k ≡ Some r → slice_get back k ≡ Some r
stand-behind front back regs h k r at = sym (behind-at front back k) ∙ h k r at
