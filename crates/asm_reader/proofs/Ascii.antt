-- Tags and names of units are ASCII, and so texts.
use Rattle.std.proofs.Common.{◌≡◌, ℕ, zero, suc, ◌<◌, ◌≤◌, Bool, true, false, cond, List, [], ◌∷◌, ◌++◌, length, take, IsUtf8, nat_lt, refl, ap, ◌∙◌, arith}
use Rattle.std.specs.Char.{is_ascii_alphabetic}
use Rattle.std.specs.List.{list_all}
use Rattle.std.specs.Str.{IsAscii, is_utf8}
use Rattle.std.proofs.lemmas.Bool.{and_parts}
use Rattle.std.proofs.lemmas.Bool.Decides.{nat_tests}
use Rattle.std.proofs.lemmas.Str.{IsUtf8-from_ascii, is_utf8-from_IsUtf8}
use Rattle.std.proofs.Math.Seq.{take-append_seam}
use Rattle.sl_model.specs.Token.{is_word_byte, is_unit_name}
use Rattle.asm_reader.specs.Notes.{is_tag}

word_byte_small : (c : ℕ) → is_word_byte c ≡ true → c < 128
word_byte_small c h = grind (arith, nat_tests)

letter_small : (c : ℕ) → is_ascii_alphabetic c ≡ true → c < 128
letter_small c h = grind (arith, nat_tests)

ascii_more : (c : ℕ) (text : List ℕ) → c < 128 → IsAscii text → IsAscii (c ∷ text)
ascii_more c text small ascii zero = small
ascii_more c text small ascii (suc i) = ascii i

all_ascii : (text : List ℕ) → list_all is_word_byte text ≡ true → IsAscii text
all_ascii [] h = λ i. omega arith
all_ascii (c ∷ text) h =
    let both = and_parts (is_word_byte c) (list_all is_word_byte text) h in
    ascii_more c text (word_byte_small c both.0) (all_ascii text both.1)

-- both tests of a chain that passes
both_pass : (a b : Bool) → cond a b false ≡ true → (a ≡ true) × (b ≡ true)
both_pass true b e = (refl, e)
both_pass false b e = cc

-- a tag is a text
pub tag_text : (text : List ℕ) → is_tag text ≡ true → IsUtf8 text
tag_text [] h = cc
tag_text (c ∷ text) h =
    let both = both_pass (is_word_byte c) (list_all is_word_byte text) h in
    IsUtf8-from_ascii (c ∷ text) (ascii_more c text (word_byte_small c both.0) (all_ascii text both.1))

-- and so is the name of a unit, of at most 16 bytes
pub unit_name_text : (text : List ℕ) → is_unit_name text ≡ true → IsUtf8 text
unit_name_text [] h = cc
unit_name_text (c ∷ text) h =
    let first = both_pass (is_ascii_alphabetic c) (cond (list_all is_word_byte text) (nat_lt (length text) 16) false) h in
    let rest = both_pass (list_all is_word_byte text) (nat_lt (length text) 16) first.1 in
    IsUtf8-from_ascii (c ∷ text) (ascii_more c text (letter_small c first.0) (all_ascii text rest.0))

below_sixteen : (n : ℕ) → nat_lt n 16 ≡ true → suc n ≤ 16
below_sixteen n h = grind (arith, nat_tests)

pub unit_name_short : (text : List ℕ) → is_unit_name text ≡ true → length text ≤ 16
unit_name_short [] h = cc
unit_name_short (c ∷ text) h =
    let first = both_pass (is_ascii_alphabetic c) (cond (list_all is_word_byte text) (nat_lt (length text) 16) false) h in
    let rest = both_pass (list_all is_word_byte text) (nat_lt (length text) 16) first.1 in
    below_sixteen (length text) rest.1

-- a text that was copied to the front of some bytes
pub copied_text : (text copied rest : List ℕ) → copied ≡ text → IsUtf8 text → is_utf8 (take (length text) (copied ++ rest)) ≡ true
copied_text text copied rest is utf8 =
    ap (λ b. is_utf8 (take (length text) (b ++ rest))) is ∙ ap is_utf8 (take-append_seam text rest) ∙ is_utf8-from_IsUtf8 text utf8
