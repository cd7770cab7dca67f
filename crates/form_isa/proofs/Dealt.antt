-- The registers of an instruction, dealt to the operands of its row.
use Rattle.std.proofs.Common.{◌≡◌, ◌∙◌, ap, refl, ℕ, zero, suc, ◌+◌, ◌≤◌, ◌&&◌, Bool, true, false, cond, not, List, [], ◌∷◌, ◌++◌, length, arith}
use Rattle.std.specs.Prelude.{ℤ, pos, Option, Some, None, is_some, slice_index_or}
use Rattle.std.specs.List.{list_all, zip}
use Rattle.std.proofs.lemmas.Bool.{and_parts}
use Rattle.sl_model.specs.declared.register.Reg.{Reg}
use Rattle.sl_model.specs.declared.register.RegSet.{RegSet}
use Rattle.sl_model.specs.declared.instruction.Instr.{Instr}
use Rattle.sl_model.specs.Lawful.{suits_set}
use Rattle.sl_isa.specs.Language.{is_concrete}
use Rattle.form_table.specs.Reads.{is_picked, kept, picked, register_suits, registers_suit}
use Rattle.form_table.specs.Printed.{has_register, has_number, one_if, among_ins, among_outs, register_in, held_in, helds_in}
use Rattle.form_table.specs.declared.rows.Role.{Role}
use Rattle.form_table.specs.declared.rows.Role.TheVariants as role
use Rattle.form_table.specs.declared.rows.Operand.{Operand}
use Rattle.form_table.specs.declared.spells.Held.{Held}
use Rattle.form_table.specs.declared.reader.Pick.TheVariants as pick
use Rattle.form_table.proofs.ForCallers.{Shaped, SameNumbers, HoldFrom, hold_first, hold_next, hold_same, is_plain_register, is_plain}
use Rattle.form_isa.specs.Info.{classes, padded_classes}
use Rattle.form_isa.proofs.Suits.{AreOf}
use Rattle.form_isa.proofs.BaseApart.{kept-none}

-- ---- registers of classes, in parts

-- Registers that suit classes, one each, are of the classes.
pub of-suits : (n : ℕ) (regs : List Reg) (sets : List RegSet) → length regs ≡ length sets → length regs ≤ n →
    list_all suits_set (zip regs (padded_classes n sets)) ≡ true → AreOf regs sets
unfolding padded_classes
of-suits n [] [] count few suits = tt
of-suits n [] (set ∷ sets) count few suits = absurd (omega arith)
of-suits n (r ∷ regs) [] count few suits = absurd (omega arith)
of-suits zero (r ∷ regs) (set ∷ sets) count few suits = absurd (omega arith)
of-suits (suc n) (r ∷ regs) (set ∷ sets) count few suits =
    let parts = and_parts (suits_set (r, set)) (list_all suits_set (zip regs (padded_classes n sets))) suits in
    (parts.0, of-suits n regs sets (omega arith) (omega arith) parts.1)

-- All of some registers are the machine's.
abbrev pub AreConcrete : List Reg → Type 0
AreConcrete regs = list_all is_concrete regs ≡ true

-- Registers of the machine in two parts, each of its classes.
pub record Parts (regs : List Reg) (sets others : List RegSet) : Type 0 where
  pub front : List Reg
  pub back : List Reg
  pub whole : regs ≡ front ++ back
  pub of_front : AreOf front sets
  pub of_back : AreOf back others
  pub front_known : AreConcrete front
  pub back_known : AreConcrete back

pub in-parts : (sets others : List RegSet) (regs : List Reg) → AreOf regs (sets ++ others) → AreConcrete regs → Parts regs sets others
in-parts [] others regs of known = record { front = []; back = regs; whole = refl; of_front = tt; of_back = of; front_known = refl; back_known = known }
in-parts (set ∷ sets) others [] of known = absurd of
in-parts (set ∷ sets) others (r ∷ regs) of known =
    let parts = and_parts (is_concrete r) (list_all is_concrete regs) known in
    let rest = in-parts sets others regs of.1 parts.1 in
    record {
      front = r ∷ rest.front;
      back = rest.back;
      whole = ap (λ l. r ∷ l) rest.whole;
      of_front = (of.0, rest.of_front);
      of_back = rest.of_back;
      front_known = ap (λ b. b && list_all is_concrete rest.front) parts.0 ∙ rest.front_known;
      back_known = rest.back_known;
    }

-- ---- the numbers are those of any instruction with the same

pub same-numbers : (i j : Instr) (operands : List Operand) (ins outs numbers : ℕ) (ins' outs' : ℕ) → j.imms ≡ i.imms →
    SameNumbers (helds_in i operands ins outs numbers) (helds_in j operands ins' outs' numbers)
unfolding helds_in held_in
same-numbers i j [] ins outs numbers ins' outs' e = tt
same-numbers i j (operand ∷ operands) ins outs numbers ins' outs' e = (
  ap (λ imms. cond (has_number operand.shape) (Some (slice_index_or imms numbers (pos 0))) None) e,
  same-numbers i j operands (ins + one_if (among_ins operand)) (outs + one_if (among_outs operand)) (numbers + one_if (has_number operand.shape))
      (ins' + one_if (among_ins operand)) (outs' + one_if (among_outs operand)) e,
)

-- ---- the registers

-- Is a register of a class, if there is one?
abbrev is_of : RegSet → Option Reg → Bool
is_of set None = true
is_of set (Some r) = suits_set (r, set)

-- An operand's register, and those that are left for the operands behind it.
record StepDealt (has writes reads : Bool) (set : RegSet) (in_places out_places : List (Option Reg)) (ins outs : ℕ) (read written : List Reg)
    (read_sets written_sets : List RegSet) (register : Option Reg) : Type 0 where
  read_left : List Reg
  written_left : List Reg
  of_read : AreOf read_left read_sets
  of_written : AreOf written_left written_sets
  hold_read : HoldFrom in_places (ins + one_if (cond has reads false)) read_left
  hold_written : HoldFrom out_places (outs + one_if (cond has writes false)) written_left
  shaped : is_some register ≡ has
  suits : is_of set register ≡ true
  plain : is_plain_register register ≡ true
  read_known : AreConcrete read_left
  written_known : AreConcrete written_left
  is_read : kept reads register read_left ≡ read
  is_written : kept writes register written_left ≡ written

abbrev the_register : Bool → Bool → Bool → List (Option Reg) → List (Option Reg) → ℕ → ℕ → Option Reg
the_register has writes reads in_places out_places ins outs =
    cond (cond has writes false) (slice_index_or out_places outs None) (cond (cond has reads false) (slice_index_or in_places ins None) None)

step-dealt : (has writes reads : Bool) (set : RegSet) (in_places out_places : List (Option Reg)) (ins outs : ℕ) (read written : List Reg)
    (read_sets written_sets : List RegSet) → reads ≡ not writes →
    AreOf read (cond (cond has reads false) (set ∷ read_sets) read_sets) → AreOf written (cond (cond has writes false) (set ∷ written_sets) written_sets) →
    HoldFrom in_places ins read → HoldFrom out_places outs written → AreConcrete read → AreConcrete written →
    StepDealt has writes reads set in_places out_places ins outs read written read_sets written_sets (the_register has writes reads in_places out_places ins outs)
step-dealt false writes reads set in_places out_places ins outs read written read_sets written_sets turned of_read of_written a b known shown = record {
  read_left = read;
  written_left = written;
  of_read = of_read;
  of_written = of_written;
  hold_read = hold_same in_places ins read a;
  hold_written = hold_same out_places outs written b;
  shaped = refl;
  suits = refl;
  plain = refl;
  read_known = known;
  written_known = shown;
  is_read = kept-none reads read;
  is_written = kept-none writes written;
}
step-dealt true true true set in_places out_places ins outs read written read_sets written_sets turned of_read of_written a b known shown = absurd cc
step-dealt true false false set in_places out_places ins outs read written read_sets written_sets turned of_read of_written a b known shown = absurd cc
step-dealt true true false set in_places out_places ins outs read [] read_sets written_sets turned of_read of_written a b known shown = absurd of_written
step-dealt true true false set in_places out_places ins outs read (r ∷ written) read_sets written_sets turned of_read of_written a b known shown =
    let is : slice_index_or out_places outs None ≡ Some r = hold_first out_places outs r written b in
    let parts = and_parts (is_concrete r) (list_all is_concrete written) shown in
    record {
      read_left = read;
      written_left = written;
      of_read = of_read;
      of_written = of_written.1;
      hold_read = hold_same in_places ins read a;
      hold_written = hold_next out_places outs r written b;
      shaped = ap is_some is;
      suits = ap (is_of set) is ∙ of_written.0;
      plain = ap is_plain_register is ∙ parts.0;
      read_known = known;
      written_known = parts.1;
      is_read = refl;
      is_written = ap (λ o. kept true o written) is;
    }
step-dealt true false true set in_places out_places ins outs [] written read_sets written_sets turned of_read of_written a b known shown = absurd of_read
step-dealt true false true set in_places out_places ins outs (r ∷ read) written read_sets written_sets turned of_read of_written a b known shown =
    let is : slice_index_or in_places ins None ≡ Some r = hold_first in_places ins r read a in
    let parts = and_parts (is_concrete r) (list_all is_concrete read) known in
    record {
      read_left = read;
      written_left = written;
      of_read = of_read.1;
      of_written = of_written;
      hold_read = hold_next in_places ins r read a;
      hold_written = hold_same out_places outs written b;
      shaped = ap is_some is;
      suits = ap (is_of set) is ∙ of_read.0;
      plain = ap is_plain_register is ∙ parts.0;
      read_known = parts.1;
      written_known = shown;
      is_read = ap (λ o. kept true o read) is;
      is_written = refl;
    }

-- each role is read where it stands, or written
reads-turned : (r : Role) → is_picked pick.Read r ≡ not (is_picked pick.Written r)
reads-turned role.In = refl
reads-turned role.Out = refl
reads-turned role.Tied = refl
reads-turned role.Base = refl
reads-turned role.Back = refl

-- What the operands hold: registers of the machine, of their classes, which are those that are read and written where they stand.
pub record IsDealt (operands : List Operand) (helds : List Held) (read written : List Reg) : Type 0 where
  pub shaped : Shaped operands helds
  pub suit : registers_suit operands helds ≡ true
  pub plain : list_all is_plain helds ≡ true
  pub is_read : picked pick.Read operands helds ≡ read
  pub is_written : picked pick.Written operands helds ≡ written

number-there : (has : Bool) (n : ℤ) → is_some (cond has (Some n) None) ≡ has
number-there true n = refl
number-there false n = refl

is_of-suits : (operand : Operand) (o : Option Reg) → is_of operand.class o ≡ true → register_suits operand o ≡ true
is_of-suits operand None e = refl
is_of-suits operand (Some r) e = e

-- Where the places of an instruction hold registers of the operands' classes, its operands hold them.
pub dealt : (i : Instr) (operands : List Operand) (ins outs numbers : ℕ) (read written : List Reg) → AreOf read (classes pick.Read operands) →
    AreOf written (classes pick.Written operands) → HoldFrom i.ins ins read → HoldFrom i.outs outs written → AreConcrete read → AreConcrete written →
    IsDealt operands (helds_in i operands ins outs numbers) read written
unfolding classes picked helds_in held_in registers_suit
dealt i [] ins outs numbers [] [] of_read of_written a b known shown = record { shaped = tt; suit = refl; plain = refl; is_read = refl; is_written = refl }
dealt i [] ins outs numbers (r ∷ read) written of_read of_written a b known shown = absurd of_read
dealt i [] ins outs numbers [] (r ∷ written) of_read of_written a b known shown = absurd of_written
dealt i (operand ∷ operands) ins outs numbers read written of_read of_written a b known shown =
    let writes : Bool = is_picked pick.Written operand.role in
    let reads : Bool = is_picked pick.Read operand.role in
    let step = step-dealt (has_register operand.shape) writes reads operand.class i.ins i.outs ins outs read written (classes pick.Read operands)
    (classes pick.Written operands) (reads-turned operand.role) of_read of_written a b known shown in
    let rest : IsDealt operands (helds_in i operands (ins + one_if (among_ins operand)) (outs + one_if (among_outs operand)) (numbers + one_if (has_number operand.shape)))
    step.read_left step.written_left =
    dealt i operands (ins + one_if (among_ins operand)) (outs + one_if (among_outs operand)) (numbers + one_if (has_number operand.shape)) step.read_left step.written_left
    step.of_read step.of_written step.hold_read step.hold_written step.read_known step.written_known in
    let register : Option Reg = register_in i operand ins outs in
    let suits : register_suits operand register ≡ true = is_of-suits operand register step.suits in
    record {
      shaped = (record { register = step.shaped; number = number-there (has_number operand.shape) (slice_index_or i.imms numbers (pos 0)) }, rest.shaped);
      suit = ap (λ b. cond b (registers_suit operands (helds_in i operands (ins + one_if (among_ins operand)) (outs + one_if (among_outs operand)) (numbers + one_if (has_number operand.shape)))) false) suits ∙ rest.suit;
      plain = ap (λ b. b && list_all is_plain (helds_in i operands (ins + one_if (among_ins operand)) (outs + one_if (among_outs operand)) (numbers + one_if (has_number operand.shape)))) step.plain ∙ rest.plain;
      is_read = ap (kept reads register) rest.is_read ∙ step.is_read;
      is_written = ap (kept writes register) rest.is_written ∙ step.is_written;
    }
