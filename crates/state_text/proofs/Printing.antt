-- What is printed, piece by piece.
use Rattle.std.proofs.Common.{◌≡◌, ℕ, zero, suc, ◌+◌, ◌-◌, ◌*◌, ◌/◌, ◌%◌, ◌^◌, ◌<◌, List, [], ◌∷◌, ◌++◌, Result, Ok, Err, OnOk, refl, sym, ap, ◌∙◌, append_assoc, append-nil, arith}
use Rattle.std.specs.Char.{digit_char}
use Rattle.std.specs.FinMap.{entries}
use Rattle.sl_model.specs.declared.register.Bank.{Bank}
use Rattle.sl_model.specs.declared.register.Bank.TheVariants.{Vector, Flags, Stack}
use Rattle.sl_model.specs.declared.register.Reg.{Reg}
use Rattle.sl_model.specs.declared.instruction.ArchName.{ArchName}
use Rattle.sl_model.specs.State.{State}
use Rattle.sl_model.specs.RegisterNames.{register_in, registers_from, general_registers, other_registers}
use Rattle.state_text.specs.StateText.{hex_digits, register_text, registers_text, bytes_start, byte_text, room_behind, bytes_behind, bytes_text, state_text}

pub digits_none : (count number : ℕ) → count ≡ 0 → hex_digits count number ≡ []
unfolding hex_digits
digits_none zero number e = refl
digits_none (suc count) number e = absurd (omega arith)

pub digits_more : (count number : ℕ) → 0 < count → hex_digits count number ≡ digit_char (number / 2 ^ (4 * (count - 1)) % 16) ∷ hex_digits (count - 1) number
unfolding hex_digits
digits_more zero number some = absurd (omega arith)
digits_more (suc count) number some =
    let less : count ≡ suc count - 1 = omega arith in
    ap (λ n. digit_char (number / 2 ^ (4 * n) % 16) ∷ hex_digits n number) less

pub registers_none : (arch : ArchName) (bank : Bank) (first count : ℕ) (s : State) → count ≡ 0 → registers_text arch (registers_from bank first count) s ≡ []
unfolding registers_from registers_text
registers_none arch bank first zero s e = refl
registers_none arch bank first (suc count) s e = absurd (omega arith)

pub registers_more : (arch : ArchName) (bank : Bank) (first count : ℕ) (s : State) → 0 < count → registers_text arch (registers_from bank first count) s ≡ register_text arch (register_in bank first) s ++ registers_text arch (registers_from bank (first + 1) (count - 1)) s
unfolding registers_from registers_text
registers_more arch bank first zero s some = absurd (omega arith)
registers_more arch bank first (suc count) s some =
    let less : count ≡ suc count - 1 = omega arith in
    ap (λ n. register_text arch (register_in bank first) s ++ registers_text arch (registers_from bank (first + 1) n) s) less

-- the lines of some registers and of others
pub registers_in_two : (arch : ArchName) (regs others : List Reg) (s : State) → registers_text arch (regs ++ others) s ≡ registers_text arch regs s ++ registers_text arch others s
unfolding registers_text
registers_in_two arch [] others s = refl
registers_in_two arch (r ∷ regs) others s =
    ap (λ text. register_text arch r s ++ text) (registers_in_two arch regs others s)
    ∙ sym (append_assoc (register_text arch r s) (registers_text arch regs s) (registers_text arch others s))

pub others_are : (arch : ArchName) (s : State) → registers_text arch other_registers s
    ≡ registers_text arch (registers_from Stack 0 1) s ++ (registers_text arch (registers_from Vector 0 32) s ++ registers_text arch (registers_from Flags 0 1) s)
unfolding other_registers
others_are arch s =
    registers_in_two arch (registers_from Stack 0 1) (registers_from Vector 0 32 ++ registers_from Flags 0 1) s
    ∙ ap (λ text. registers_text arch (registers_from Stack 0 1) s ++ text) (registers_in_two arch (registers_from Vector 0 32) (registers_from Flags 0 1) s)

-- ---- one text behind the other

-- a text in two parts, of which the second one is added to what the first one was added to
pub in_two : {T E : Type 0} (r : Result T E) (out mid new first rest all : List ℕ) → mid ≡ out ++ first → all ≡ first ++ rest → OnOk r (new ≡ mid ++ rest) → OnOk r (new ≡ out ++ all)
in_two (Err e) out mid new first rest all a b c = tt
in_two (Ok x) out mid new first rest all a b c = c ∙ ap (λ v. v ++ rest) a ∙ append_assoc out first rest ∙ ap (λ v. out ++ v) (sym b)

-- a text in three parts
pub in_three : {T E : Type 0} (r : Result T E) (out one two new first second third all : List ℕ) → one ≡ out ++ first → two ≡ one ++ second → all ≡ first ++ (second ++ third) → OnOk r (new ≡ two ++ third) → OnOk r (new ≡ out ++ all)
in_three r out one two new first second third all a b c d =
    in_two r out one new first (second ++ third) all a c (in_two r one two new second third (second ++ third) b refl d)

-- ---- a state

pub state_is : (arch : ArchName) (s : State) → state_text arch s
    ≡ registers_text arch (general_registers arch) s ++ (registers_text arch other_registers s ++ bytes_text arch (entries s.memory))
unfolding state_text
state_is arch s =
    ap (λ text. text ++ bytes_text arch (entries s.memory)) (registers_in_two arch (general_registers arch) other_registers s)
    ∙ append_assoc (registers_text arch (general_registers arch) s) (registers_text arch other_registers s) (bytes_text arch (entries s.memory))

-- ---- bytes

pub bytes_none : (arch : ArchName) (out : List ℕ) (bytes : List (ℕ × ℕ)) → bytes ≡ [] → out ≡ out ++ bytes_text arch bytes
unfolding bytes_text
bytes_none arch out bytes none = sym (ap (λ rest. out ++ bytes_text arch rest) none ∙ append-nil out)

pub bytes_begin : (arch : ArchName) (out new : List ℕ) (bytes rest : List (ℕ × ℕ)) (address byte next : ℕ) → bytes ≡ (address, byte) ∷ rest → new ≡ out ++ bytes_start arch (address, byte) → next ≡ address + 1
    → new ++ bytes_behind arch 15 next rest ≡ out ++ bytes_text arch bytes
unfolding bytes_text
bytes_begin arch out new bytes rest address byte next is begun behind =
    ap (λ v. v ++ bytes_behind arch 15 next rest) begun
    ∙ append_assoc out (bytes_start arch (address, byte)) (bytes_behind arch 15 next rest)
    ∙ ap (λ n. out ++ (bytes_start arch (address, byte) ++ bytes_behind arch 15 n rest)) behind
    ∙ ap (λ all. out ++ bytes_text arch all) (sym is)

pub bytes_more : (arch : ArchName) (out new : List ℕ) (bytes rest : List (ℕ × ℕ)) (room next room_then next_then address byte : ℕ) → bytes ≡ (address, byte) ∷ rest → new ≡ out ++ byte_text arch room next (address, byte)
    → room_then ≡ room_behind room next address → next_then ≡ address + 1 → new ++ bytes_behind arch room_then next_then rest ≡ out ++ bytes_behind arch room next bytes
unfolding bytes_behind
bytes_more arch out new bytes rest room next room_then next_then address byte is added left behind =
    ap (λ v. v ++ bytes_behind arch room_then next_then rest) added
    ∙ append_assoc out (byte_text arch room next (address, byte)) (bytes_behind arch room_then next_then rest)
    ∙ ap (λ n. out ++ (byte_text arch room next (address, byte) ++ bytes_behind arch n next_then rest)) left
    ∙ ap (λ n. out ++ (byte_text arch room next (address, byte) ++ bytes_behind arch (room_behind room next address) n rest)) behind
    ∙ ap (λ all. out ++ bytes_behind arch room next all) (sym is)

pub bytes_end : {T E : Type 0} (r : Result T E) (arch : ArchName) (out new all : List ℕ) (bytes : List (ℕ × ℕ)) (room next : ℕ) → bytes ≡ [] → out ++ bytes_behind arch room next bytes ≡ all → OnOk r (new ≡ out ++ 10 ∷ []) → OnOk r (new ≡ all)
unfolding bytes_behind
bytes_end (Err e) arch out new all bytes room next none is ended = tt
bytes_end (Ok x) arch out new all bytes room next none is ended = ended ∙ ap (λ rest. out ++ bytes_behind arch room next rest) (sym none) ∙ is
