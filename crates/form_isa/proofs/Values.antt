-- The values that a meaning gives: one for each of its banks, and each fits.
use Rattle.std.proofs.Common.{◌≡◌, ◌∙◌, sym, refl, ℕ, ◌<◌, ◌≤◌, ◌^◌, true, false, List, [], ◌∷◌, length, slice_index, arith}
use Rattle.std.specs.Prelude.{ℤ}
use Rattle.std.proofs.lemmas.Bool.{leb-true}
use Rattle.std.proofs.lemmas.Nat.{mod_below, pow_pos}
use Rattle.sl_model.specs.declared.register.Bank.{Bank}
use Rattle.sl_model.specs.declared.register.Bank.TheVariants.{General, Vector as VectorBank, Flags}
use Rattle.sl_model.specs.declared.instruction.ArchName.{ArchName}
use Rattle.sl_model.specs.declared.instruction.ArchName.TheVariants.{Arm64, M4}
use Rattle.sl_model.specs.Machine.{space_of, limit_of}
use Rattle.sl_model.specs.Lawful.{are_bytes}
use Rattle.sl_isa.specs.declared.meaning.Lane.{Lane}
use Rattle.sl_isa.specs.declared.meaning.Size.{Size}
use Rattle.sl_isa.specs.declared.meaning.Scalar.{Scalar}
use Rattle.sl_isa.specs.declared.meaning.Scalar.TheVariants as scalar
use Rattle.sl_isa.specs.declared.meaning.Vector.{Vector}
use Rattle.sl_isa.specs.declared.meaning.Vector.TheVariants as vector
use Rattle.sl_isa.specs.declared.meaning.WordOp.{WordOp}
use Rattle.sl_isa.specs.declared.meaning.WordOp.TheVariants as word
use Rattle.sl_isa.specs.declared.meaning.Meaning.{Meaning}
use Rattle.sl_isa.specs.declared.meaning.Meaning.TheVariants as meaning
use Rattle.scalar_ops.specs.Scalar.{bits_of, scalar_values, output_count, result_bits}
use Rattle.scalar_ops.specs.Words.{word_values, word_count}
use Rattle.lane_ops.specs.Vector.{vector_value}
use Rattle.form_table.specs.declared.rows.Row.{Row}
use Rattle.form_isa.specs.Info.{size_of, stores}
use Rattle.form_isa.specs.LawfulTable.{scalar_banks, vector_banks, word_banks, banks_of, has_room, has_vector_room, lacks_base, suits_meaning}
use Rattle.form_isa.specs.TableIsa.{meaning_values, meaning_bytes}
use Rattle.form_isa.proofs.Outputs.{FitBanks}
use Rattle.form_isa.proofs.AccessValues.{transfer-fit, transfer-count, transfer-few, transfer_bytes-count, transfer_bytes-fit}
use Rattle.form_isa.proofs.Tests.{suits-transfer}
use Rattle.sl_laws.proofs.Tests.{then_parts}

-- what is known of the values of instructions
pub record AreBounded : Type 0 where
  pub count : (op : Scalar) (size : Size) (imms : List ℤ) (ins : List ℕ) →
      length (scalar_values op (bits_of size) imms ins) ≡ output_count op
  pub result : (op : Scalar) (size : Size) (imms : List ℤ) (ins : List ℕ) →
      slice_index (scalar_values op (bits_of size) imms ins) 0 < 2 ^ result_bits op size
  pub flags : (op : Scalar) (size : Size) (imms : List ℤ) (ins : List ℕ) →
      slice_index (scalar_values op (bits_of size) imms ins) 1 < 16
  pub whole : (op : Vector) (imms : List ℤ) (ins : List ℕ) → vector_value op imms ins < 2 ^ 128
  pub moved_out : (lane : Lane) (imms : List ℤ) (ins : List ℕ) → vector_value (vector.MoveOut lane) imms ins < 2 ^ 64
  pub words : (op : WordOp) (imms : List ℤ) (ins : List ℕ) → length (word_values op imms ins) ≡ word_count op
  pub word : (op : WordOp) (imms : List ℤ) (ins : List ℕ) → slice_index (word_values op imms ins) 0 < 2 ^ 32
  pub second_word : (op : WordOp) (imms : List ℤ) (ins : List ℕ) → slice_index (word_values op imms ins) 1 < 2 ^ 32

scalar-count : (op : Scalar) → output_count op ≡ length (scalar_banks op)
scalar-count (scalar.Sum minus second carries true) = refl
scalar-count (scalar.Sum minus second carries false) = refl
scalar-count _ = refl

vector-count : (op : Vector) → length (vector_banks op) ≡ 1
vector-count (vector.MoveOut lane) = refl
vector-count _ = refl

word-count : (op : WordOp) → word_count op ≡ length (word_banks op)
word-count (word.MultiplyPair signed adds) = refl
word-count _ = refl

pub values-count : (name : ArchName) (m : Meaning) (imms : List ℤ) (ins loaded : List ℕ) → AreBounded →
    length (meaning_values name m imms ins loaded) ≡ length (banks_of m)
values-count name (meaning.Scalar op size) imms ins loaded known = known.count op size imms ins ∙ scalar-count op
values-count name (meaning.Vector op) imms ins loaded known = sym (vector-count op)
values-count name (meaning.Word op) imms ins loaded known = known.words op imms ins ∙ word-count op
values-count name (meaning.Copy b) imms ins loaded known = refl
values-count name (meaning.Memory t) imms ins loaded known = transfer-count (space_of name) t imms ins loaded

scalar-few : (op : Scalar) → length (scalar_banks op) ≤ 3
scalar-few (scalar.Sum minus second carries true) = omega arith
scalar-few _ = omega arith

vector-few : (op : Vector) → length (vector_banks op) ≤ 3
vector-few (vector.MoveOut lane) = omega arith
vector-few _ = omega arith

word-few : (op : WordOp) → length (word_banks op) ≤ 3
word-few (word.MultiplyPair signed adds) = omega arith
word-few _ = omega arith

-- A meaning has at most three outputs.
pub banks-few : (m : Meaning) → length (banks_of m) ≤ 3
banks-few (meaning.Scalar op size) = scalar-few op
banks-few (meaning.Vector op) = vector-few op
banks-few (meaning.Word op) = word-few op
banks-few (meaning.Copy b) = omega arith
banks-few (meaning.Memory t) = transfer-few t

-- what fits so many bits fits a register that has room for them
roomy : (name : ArchName) (b : Bank) (bits x : ℕ) → has_room name b bits ≡ true → x < 2 ^ bits → x < limit_of name b
roomy name b bits x e h =
    let room : 2 ^ bits ≤ limit_of name b = leb-true (2 ^ bits) (limit_of name b) e in omega (arith, h, room)

flags-room : (name : ArchName) (x : ℕ) → x < 16 → x < limit_of name Flags
flags-room Arm64 x h = h
flags-room M4 x h = h

fit_one : (name : ArchName) (b : Bank) (values : List ℕ) → slice_index values 0 < limit_of name b → FitBanks name (b ∷ []) values
fit_one name b [] h = tt
fit_one name b (value ∷ values) h = (h, tt)

fit_two : (name : ArchName) (a b : Bank) (values : List ℕ) → slice_index values 0 < limit_of name a →
    slice_index values 1 < limit_of name b → FitBanks name (a ∷ b ∷ []) values
fit_two name a b [] h g = tt
fit_two name a b (value ∷ []) h g = (h, tt)
fit_two name a b (value ∷ other ∷ values) h g = (h, (g, tt))

scalar-fits : (name : ArchName) (op : Scalar) (values : List ℕ) → slice_index values 0 < limit_of name General →
    slice_index values 1 < limit_of name Flags → FitBanks name (scalar_banks op) values
scalar-fits name (scalar.Sum minus second carries true) values h g = fit_two name General Flags values h g
scalar-fits name _ values h g = fit_one name General values h

vector-fits : (name : ArchName) (op : Vector) (imms : List ℤ) (ins : List ℕ) → AreBounded → has_vector_room name op ≡ true →
    FitBanks name (vector_banks op) (vector_value op imms ins ∷ [])
vector-fits name (vector.MoveOut lane) imms ins known e = (roomy name General 64 _ e (known.moved_out lane imms ins), tt)
vector-fits name op imms ins known e = (roomy name VectorBank 128 _ e (known.whole op imms ins), tt)

word-fits : (name : ArchName) (op : WordOp) (values : List ℕ) → slice_index values 0 < limit_of name General →
    slice_index values 1 < limit_of name General → FitBanks name (word_banks op) values
word-fits name (word.MultiplyPair signed adds) values h g = fit_two name General General values h g
word-fits name _ values h g = fit_one name General values h

pub values-fit : (name : ArchName) (m : Meaning) (row : Row) (imms : List ℤ) (ins loaded : List ℕ) → AreBounded →
    suits_meaning name m row ≡ true →
    FitBanks name (banks_of m) (meaning_values name m imms ins loaded)
values-fit name (meaning.Scalar op size) row imms ins loaded known e =
    let room = (then_parts (has_room name General (result_bits op size)) (lacks_base row) e).0 in
    scalar-fits name op _ (roomy name General (result_bits op size) _ room (known.result op size imms ins))
    (flags-room name _ (known.flags op size imms ins))
values-fit name (meaning.Vector op) row imms ins loaded known e =
    vector-fits name op imms ins known (then_parts (has_vector_room name op) (lacks_base row) e).0
values-fit name (meaning.Word op) row imms ins loaded known e =
    let room = (then_parts (has_room name General 32) (lacks_base row) e).0 in
    word-fits name op _ (roomy name General 32 _ room (known.word op imms ins))
    (roomy name General 32 _ room (known.second_word op imms ins))
values-fit name (meaning.Copy b) row imms ins loaded known e =
    let room = (then_parts (has_room name b 32) (lacks_base row) e).0 in
    (roomy name b 32 _ room (mod_below (slice_index ins 0) (2 ^ 32) (pow_pos 32)), tt)
values-fit name (meaning.Memory t) row imms ins loaded known e =
    transfer-fit name t imms ins loaded (suits-transfer name t row e).room

-- What a meaning stores is as many bytes as its access has.
pub bytes-count : (m : Meaning) (ins : List ℕ) → stores m ≡ true → length (meaning_bytes m ins) ≡ size_of m
bytes-count (meaning.Scalar op size) ins e = refl
bytes-count (meaning.Vector op) ins e = refl
bytes-count (meaning.Word op) ins e = refl
bytes-count (meaning.Copy b) ins e = refl
bytes-count (meaning.Memory t) ins e = transfer_bytes-count t ins e

pub bytes-fit : (m : Meaning) (ins : List ℕ) → are_bytes (meaning_bytes m ins) ≡ true
bytes-fit (meaning.Scalar op size) ins = refl
bytes-fit (meaning.Vector op) ins = refl
bytes-fit (meaning.Word op) ins = refl
bytes-fit (meaning.Copy b) ins = refl
bytes-fit (meaning.Memory t) ins = transfer_bytes-fit t ins
