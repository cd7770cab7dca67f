-- A state that is read fits its architecture.
use Rattle.std.proofs.Common.{◌≡◌, ℕ, ◌+◌, ◌*◌, ◌<◌, true, false, cond, ltb, List, [], ◌∷◌, length, Option, None, Some, Result, Ok, refl, subst, arith, lit<}
use Rattle.std.specs.Prelude.{is_some, option_and_then, slice_index, ◌==◌}
use Rattle.std.specs.Char.{digit_value}
use Rattle.std.specs.Str.{bytes_eq}
use Rattle.std.specs.FinMap.{get, empty}
use Rattle.std.proofs.lemmas.Bool.{ltb-true}
use Rattle.std.proofs.lemmas.Option.{same_Some, none-some}
use Rattle.sl_model.specs.declared.register.Bank.{Bank}
use Rattle.sl_model.specs.declared.register.Bank.TheVariants.{General, Vector, Flags, Stack}
use Rattle.sl_model.specs.declared.register.Reg.{Reg}
use Rattle.sl_model.specs.declared.instruction.ArchName.{ArchName}
use Rattle.sl_model.specs.declared.instruction.ArchName.TheVariants.{Arm64, M4}
use Rattle.sl_model.specs.Machine.{space_of, limit_of}
use Rattle.sl_model.specs.State.{State, reg_key, write, put}
use Rattle.sl_model.specs.Isa.{Isa}
use Rattle.sl_model.specs.Lawful.{IsLawful}
use Rattle.sl_model.specs.Text.{numbered_lines}
use Rattle.state_text.specs.StateText.{below, behind, number_below, bit_value, flags_value, value_below, first_word, is_passed, with_register, with_byte, with_bytes, with_memory, with_some_bytes, with_value, with_entry, with_line, with_lines, going_on, read_state}
use Rattle.sl_model.specs.RegisterNames.{register_named}
use Rattle.machine_sem.specs.Fits.{Fits}
use Rattle.machine_sem.proofs.ForCallers.{new_fits, write_fits, put_fits}
use Rattle.sl_model.specs.Digits.{digit_of, some_digits}

-- what an answer is, if there is one
record Gives {A : Type 0} (o : Option A) (P : A → Type 0) : Type 0 where
  each : (x : A) → o ≡ Some x → P x

none : {A : Type 0} {P : A → Type 0} → Gives None P
none = record { each = λ x e. absurd (none-some x e) }

one : {A : Type 0} {P : A → Type 0} (x : A) → P x → Gives (Some x) P
one {P = P} x h = record { each = λ y e. subst P (same_Some x y e) h }

-- what holds of each answer of a step holds of the whole
after : {A B : Type 0} {P : B → Type 0} {f : A → Option B} (o : Option A) → ((x : A) → o ≡ Some x → Gives (f x) P) → Gives (option_and_then f o) P
after None h = none
after (Some x) h = h x refl

-- ---- values

below_small : (limit n : ℕ) → Gives (below limit n) (λ v. v < limit)
below_small limit n = elim (ltb n limit) as (λ b. ltb n limit ≡ b → Gives (cond b (Some n) None) (λ v. v < limit)) [ true ↦ λ e. one n (ltb-true n limit e) | false ↦ λ e. none ] refl

number_small : (limit : ℕ) (text : List ℕ) → Gives (number_below limit text) (λ v. v < limit)
unfolding number_below
number_small limit text = after (behind (48 ∷ 120 ∷ []) text) (λ digits _. after (some_digits 16 digits) (λ n _. below_small limit n))

hex_small : (c : ℕ) → Gives (digit_of 16 c) (λ v. v < 16)
hex_small c = below_small 16 (digit_value c)

bit_small : (c : ℕ) → Gives (bit_value c) (λ v. v < 2)
bit_small c = elim (c == 48) as (λ b. Gives (cond b (Some 0) (cond (c == 49) (Some 1) None)) (λ v. v < 2)) [
  | true ↦ one 0 (lit< tt)
  | false ↦ elim (c == 49) as (λ b. Gives (cond b (Some 1) None) (λ v. v < 2)) [ true ↦ one 1 (lit< tt) | false ↦ none ]
]

four_bits : (n z c v : ℕ) → n < 2 → z < 2 → c < 2 → v < 2 → 8 * n + 4 * z + 2 * c + v < 16
four_bits n z c v a b d e = omega (arith, a, b, d, e)

flags_small : (text : List ℕ) → Gives (flags_value text) (λ v. v < 16)
unfolding flags_value
flags_small text = elim (length text == 4) as (λ b. Gives (cond b (option_and_then (λ n. option_and_then (λ z. option_and_then (λ c. option_and_then (λ v. Some (8 * n + 4 * z + 2 * c + v)) (bit_value (slice_index text 3))) (bit_value (slice_index text 2))) (bit_value (slice_index text 1))) (bit_value (slice_index text 0))) None) (λ v. v < 16)) [
  | true ↦ after _ (λ n a. after _ (λ z b. after _ (λ c d. after _ (λ v e.
      one (8 * n + 4 * z + 2 * c + v) (four_bits n z c v ((bit_small (slice_index text 0)).each n a) ((bit_small (slice_index text 1)).each z b) ((bit_small (slice_index text 2)).each c d) ((bit_small (slice_index text 3)).each v e))))))
  | false ↦ none
]

flags_limit : (arch : ArchName) → 16 ≡ limit_of arch Flags
flags_limit Arm64 = refl
flags_limit M4 = refl

value_small : (arch : ArchName) (bank : Bank) (text : List ℕ) → Gives (value_below (limit_of arch bank) bank text) (λ v. v < limit_of arch bank)
unfolding value_below
value_small arch General text = number_small _ text
value_small arch Vector text = number_small _ text
value_small arch Flags text = subst (λ limit. Gives (flags_value text) (λ v. v < limit)) (flags_limit arch) (flags_small text)
value_small arch Stack text = number_small _ text

pair_small : (high low : ℕ) → high < 16 → low < 16 → 16 * high + low < 256
pair_small high low a b = omega (arith, a, b)

-- ---- entries

module _ (isa : Isa) (lawful : IsLawful isa) where
  register_fits : (r : Reg) (value : ℕ) (s : State) → value < limit_of isa.name r.bank → Fits isa s → Gives (with_register r value s) (Fits isa)
  unfolding with_register
  register_fits r value s small fits = elim (is_some (get s.regs (reg_key r))) as (λ b. Gives (cond b None (Some (write r value s))) (Fits isa)) [
    | true ↦ none
    | false ↦ one (write r value s) (write_fits isa lawful r value s small fits)
  ]

  value_fits : (name text : List ℕ) (s : State) → Fits isa s → Gives (with_value isa.name name text s) (Fits isa)
  unfolding with_value
  value_fits name text s fits =
      after (register_named isa.name name) (λ r _. after (behind (61 ∷ 32 ∷ []) text) (λ digits _. after (value_below (limit_of isa.name r.bank) r.bank digits) (λ v is.
      register_fits r v s ((value_small isa.name r.bank digits).each v is) fits)))

  byte_fits : (address value : ℕ) (s : State) → value < 256 → Fits isa s → Gives (with_byte isa.name address value s) (Fits isa)
  unfolding with_byte
  byte_fits address value s small fits =
      let more : State = record { regs = s.regs; memory = put address value s.memory } in
      elim (ltb address (space_of isa.name)) as (λ b. ltb address (space_of isa.name) ≡ b → Gives (cond b (cond (is_some (get s.memory address)) None (Some more)) None) (Fits isa)) [
        | true ↦ λ e. elim (is_some (get s.memory address)) as (λ b. Gives (cond b None (Some more)) (Fits isa)) [
          | true ↦ none
          | false ↦ one more (put_fits isa lawful address value s (ltb-true _ _ e) small fits)
        ]
        | false ↦ λ e. none
      ] refl

  bytes_fit : (address : ℕ) (text : List ℕ) (s : State) → Fits isa s → Gives (with_bytes isa.name address text s) (Fits isa)
  unfolding with_bytes
  bytes_fit address [] s fits = one s fits
  bytes_fit address (c ∷ []) s fits = none
  bytes_fit address (c ∷ d ∷ text) s fits = after _ (λ high a. after _ (λ low b. after _ (λ t e.
      bytes_fit (address + 1) text t ((byte_fits address (16 * high + low) s (pair_small high low ((hex_small c).each high a) ((hex_small d).each low b)) fits).each t e))))

  some_bytes_fit : (address : ℕ) (text : List ℕ) (s : State) → Fits isa s → Gives (with_some_bytes isa.name address text s) (Fits isa)
  some_bytes_fit address [] s fits = none
  some_bytes_fit address (c ∷ text) s fits = bytes_fit address (c ∷ text) s fits

  memory_fits : (text : List ℕ) (s : State) → Fits isa s → Gives (with_memory isa.name text s) (Fits isa)
  unfolding with_memory
  memory_fits text s fits =
      after (first_word text) (λ words _. after (number_below (space_of isa.name) words.0) (λ address _. after (behind (61 ∷ 32 ∷ []) words.1) (λ digits _. some_bytes_fit address digits s fits)))

  entry_fits : (line : List ℕ) (s : State) → Fits isa s → Gives (with_entry isa.name line s) (Fits isa)
  unfolding with_entry
  entry_fits line s fits = after (first_word line) (λ words _. elim (bytes_eq words.0 (109 ∷ 101 ∷ 109 ∷ [])) as (λ b. Gives (cond b (with_memory isa.name words.1 s) (with_value isa.name words.0 words.1 s)) (Fits isa)) [
    | true ↦ memory_fits words.1 s fits
    | false ↦ value_fits words.0 words.1 s fits
  ])

  line_fits : (line : List ℕ) (s : State) → Fits isa s → Gives (with_line isa.name line s) (Fits isa)
  unfolding with_line
  line_fits line s fits = elim (is_passed line) as (λ b. Gives (cond b (Some s) (with_entry isa.name line s)) (Fits isa)) [
    | true ↦ one s fits
    | false ↦ entry_fits line s fits
  ]

  -- ---- lines

  lines_fit : (lines : List (ℕ × List ℕ)) (s t : State) → Fits isa s → with_lines isa.name lines s ≡ Ok t → Fits isa t
  unfolding with_lines
  lines_fit [] s t fits e = subst (Fits isa) (same_ok s t e) fits
    where
      same_ok : (s t : State) → ◌≡◌ {A = Result State ℕ} (Ok s) (Ok t) → s ≡ t
      same_ok s t e = cc
  lines_fit (line ∷ lines) s t fits e =
      elim (with_line isa.name line.1 s) as (λ o. with_line isa.name line.1 s ≡ o → going_on line.0 o (λ u. with_lines isa.name lines u) ≡ Ok t → Fits isa t) [
        | None ↦ λ _ no. absurd cc
        | Some u ↦ λ is rest. lines_fit lines u t ((line_fits line.1 s fits).each u is) rest
      ] refl e

  pub read_fits : (text : List ℕ) (s : State) → read_state isa.name text ≡ Ok s → Fits isa s
  unfolding read_state
  read_fits text s e = lines_fit (numbered_lines 1 text) (record { regs = empty; memory = empty }) s (new_fits isa lawful) e
