-- Spellings of Armv7E-M with their answers, written by hand; the checker computes them from
-- the document.
use Rattle.std.proofs.Common.{◌≡◌, refl, ℕ, List, [], ◌∷◌, map, Ok, Err, false}
use Rattle.std.specs.Prelude.{codes, Result}
use Rattle.std.specs.Fmt.{digits}
use Rattle.std.specs.Str.{chars}
use Rattle.sl_model.specs.declared.text.Comments.TheVariants.{SlashAt}
use Rattle.sl_model.specs.declared.instruction.Instr.{Instr}
use Rattle.sl_model.specs.Digits.{digits_number, decimal_number, spelled_number}
use Rattle.sl_model.specs.Token.{Lexeme, first_token, tokens_from, tokens_at}
use Rattle.sl_model.specs.RegSets.{set_has}
use Rattle.sl_model.specs.Register.{same_reg}
use Rattle.sl_isa.specs.Arch.{padded_values}
use Rattle.sl_isa.specs.Symbols.{Pair, place_from, has_pair, with_pair, with_pairs}
use Rattle.sl_isa.specs.declared.reasons.FormReason.{FormReason}
use Rattle.sl_isa.specs.declared.reasons.FormReason.TheVariants.{UnknownMnemonic, BadOperand, ImmediateRange, RegisterClass, SameRegister}
use Rattle.form_table.specs.Numerals.{decimal_value, number_value}
use Rattle.form_table.specs.Symbols.{letter_with, letter_of, closed_name, opened_name, bracketed, symbol_at, pairs_from, pairs_in}
use Rattle.form_table.specs.Items.{plain_number, signed_number, found_number, first_item, items_from}
use Rattle.form_table.specs.Rows.{mnemonic_text}
use Rattle.form_table.specs.Spells.{numbered, register_of, item_register, put, front, fill}
use Rattle.form_table.specs.Reads.{fit_from, settled, in_range, numbers_suit, registers_suit, picked, placed, all_placed, inputs, results, number_at, instr_of, stands_in, repeats, shares_base, judged, is_suffixed, reads}
use Rattle.form_table.specs.Printed.{register_name, symbol_name, slot_text, slots_text, held_in, helds_in, operands_text}
use Rattle.m4_table.specs.Document.{document}
use Rattle.wide_forms.specs.Wide.{behind_wide, narrow, is_wide, wide_pairs_in, wide_reads, wide_printed}

-- what is printed of an instruction that was read, or the reason why none was
abbrev printed_or : List Pair → Result Instr FormReason → Result (List ℕ) FormReason
printed_or pairs (Ok i) = Ok (wide_printed document pairs i)
printed_or pairs (Err reason) = Err reason

-- the same of words, with the pairs of their symbolic registers
abbrev words_again : List Lexeme → List Pair → Result (List ℕ) FormReason
words_again words pairs = printed_or pairs (wide_reads document pairs words)

-- the same of a text
abbrev again : List ℕ → Result (List ℕ) FormReason
again text =
    words_again (tokens_at SlashAt false 0 text) (with_pairs [] (wide_pairs_in (tokens_at SlashAt false 0 text)))

-- what is read and printed, with and without `.w`
abbrev texts : List (List ℕ)
texts =
    codes "add r0, r1, r2"
    ∷ codes "add.w r0, r1"
    ∷ codes "lsr r0, #32"
    ∷ codes "mov r3, #0x10"
    ∷ codes "MOV.W r3, #16"
    ∷ codes "eor r14, r2, r3, lsl #0"
    ∷ codes "adcs lr, r2, r3, ror #31"
    ∷ codes "umaal r0, r1, r2, r3"
    ∷ codes "vmov s31, r1"
    ∷ codes "ldr r0, [r1, #0]"
    ∷ codes "ldrd r2, r3, [sp, #-8]"
    ∷ codes "strb r2, [r0, #0]!"
    ∷ codes "smlad.w r<a>, r<b>, r<a>, lr"
    ∷ codes "vmov s<x>, r<x>"
    ∷ []

abbrev answers : List (Result (List ℕ) FormReason)
answers =
    Ok (codes "add r0, r1, r2")
    ∷ Ok (codes "add.w r0, r0, r1")
    ∷ Ok (codes "lsr r0, r0, #32")
    ∷ Ok (codes "movw r3, #16")
    ∷ Ok (codes "movw.w r3, #16")
    ∷ Ok (codes "eor lr, r2, r3")
    ∷ Ok (codes "adcs lr, r2, r3, ror #31")
    ∷ Ok (codes "umaal r0, r1, r2, r3")
    ∷ Ok (codes "vmov s31, r1")
    ∷ Ok (codes "ldr r0, [r1]")
    ∷ Ok (codes "ldrd r2, r3, [sp, #-8]")
    ∷ Ok (codes "strb r2, [r0, #0]!")
    ∷ Ok (codes "smlad.w r<a>, r<b>, r<a>, lr")
    ∷ Ok (codes "vmov s<x>, r<x>")
    ∷ []

read-printed : map again texts ≡ answers
unfolding wide_reads wide_pairs_in wide_printed pairs_in pairs_from with_pairs with_pair has_pair place_from symbol_name behind_wide narrow is_wide reads document padded_values mnemonic_text first_token tokens_from tokens_at
    is_suffixed fit_from settled in_range numbers_suit registers_suit picked placed all_placed inputs results number_at instr_of
    stands_in repeats shares_base judged numbered register_of item_register put front fill plain_number signed_number found_number
    first_item items_from letter_with letter_of closed_name opened_name bracketed symbol_at decimal_value number_value decimal_number
    spelled_number digits_number digits chars register_name slot_text slots_text held_in helds_in operands_text set_has same_reg
read-printed = refl

-- what is refused
abbrev refused : List (List ℕ)
refused =
    codes "add.n r0, r1, r2"
    ∷ codes "add.w.w r0, r1, r2"
    ∷ codes "add r0, r1, lsl #2"
    ∷ codes "add r13, r1, r2"
    ∷ codes "pkhbt r0, r1, r2, lsl #0"
    ∷ codes "sbfx r0, r1, #31, #2"
    ∷ codes "adds r0, r1, #256"
    ∷ codes "ldr r0, [sp], #4"
    ∷ codes "ldrd r2, r2, [r0]"
    ∷ codes "str r0, [r0], #4"
    ∷ codes "smull r<a>, r<a>, r0, r1"
    ∷ codes "add.w<a> r0, r1, r2"
    ∷ []

abbrev reasons : List (Result (List ℕ) FormReason)
reasons =
    Err UnknownMnemonic
    ∷ Err UnknownMnemonic
    ∷ Err BadOperand
    ∷ Err BadOperand
    ∷ Err ImmediateRange
    ∷ Err ImmediateRange
    ∷ Err ImmediateRange
    ∷ Err RegisterClass
    ∷ Err SameRegister
    ∷ Err SameRegister
    ∷ Err SameRegister
    ∷ Err BadOperand
    ∷ []

read-refused : map again refused ≡ reasons
unfolding wide_reads wide_pairs_in wide_printed pairs_in pairs_from with_pairs with_pair has_pair place_from symbol_name behind_wide narrow is_wide reads document padded_values mnemonic_text first_token tokens_from tokens_at
    is_suffixed fit_from settled in_range numbers_suit registers_suit picked placed all_placed inputs results number_at instr_of
    stands_in repeats shares_base judged numbered register_of item_register put front fill plain_number signed_number found_number
    first_item items_from letter_with letter_of closed_name opened_name bracketed symbol_at decimal_value number_value decimal_number
    spelled_number digits_number digits chars register_name slot_text slots_text held_in helds_in operands_text set_has same_reg
read-refused = refl
