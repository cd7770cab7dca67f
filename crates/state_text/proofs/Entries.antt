-- The bytes of an entry, two digits after two digits.
use Rattle.std.proofs.Common.{◌≡◌, ℕ, ◌+◌, ◌*◌, ◌-◌, ◌<◌, ◌≤◌, List, [], ◌∷◌, length, take, drop, get_or, Option, None, Some, Result, Err, refl, sym, ap, subst, ◌∙◌, arith}
use Rattle.std.specs.Prelude.{option_and_then}
use Rattle.std.proofs.Math.Seq.{take-length}
use Rattle.sl_model.specs.declared.instruction.ArchName.{ArchName}
use Rattle.sl_model.specs.State.{State}
use Rattle.state_text.specs.StateText.{with_byte, with_bytes}
use Rattle.state_text.specs.Steps.{with_pair}
use Rattle.state_text.specs.Views.{Enters}
use Rattle.state_text.specs.declared.reader.EntryErr.{EntryErr}
use Rattle.state_text.specs.declared.reader.EntryErr.TheVariants.{Bad, NoMemory}
use Rattle.sl_model.specs.Digits.{digit_of}

and_then : {A B C : Type 0} (f : B → Option C) (g : A → Option B) (o : Option A) → option_and_then (λ x. option_and_then f (g x)) o ≡ option_and_then f (option_and_then g o)
and_then f g None = refl
and_then f g (Some x) = refl

-- the first byte, and the others
bytes_step : (arch : ArchName) (address c d : ℕ) (text : List ℕ) (s : State) → with_bytes arch address (c ∷ d ∷ text) s ≡ option_and_then (λ t. with_bytes arch (address + 1) text t) (with_pair arch address c d s)
unfolding with_bytes with_pair
bytes_step arch address c d text s =
    ap (λ f. option_and_then f (digit_of 16 c)) (λ i high. and_then (λ t. with_bytes arch (address + 1) text t) (λ low. with_byte arch address (16 * high + low) s) (digit_of 16 d) i)
    ∙ and_then (λ t. with_bytes arch (address + 1) text t) (λ high. option_and_then (λ low. with_byte arch address (16 * high + low) s) (digit_of 16 d)) (digit_of 16 c)

take_all : (n : ℕ) (text : List ℕ) → n ≡ length text → take n text ≡ text
take_all n text e = ap (λ m. take m text) e ∙ take-length text

pair_step : (arch : ArchName) (address : ℕ) (text : List ℕ) (s : State) → 2 ≤ length text → with_bytes arch address text s
    ≡ option_and_then (λ t. with_bytes arch (address + 1) (take (length text - 2) (drop 2 text)) t) (with_pair arch address (get_or text 0 0) (get_or text 1 0) s)
pair_step arch address [] s long = absurd (omega arith)
pair_step arch address (c ∷ []) s long = absurd (omega arith)
pair_step arch address (c ∷ d ∷ text) s long =
    let all : length (c ∷ d ∷ text) - 2 ≡ length text = omega arith in
    bytes_step arch address c d text s
    ∙ ap (λ rest. option_and_then (λ t. with_bytes arch (address + 1) rest t) (with_pair arch address c d s)) (sym (take_all (length (c ∷ d ∷ text) - 2) text all))

pub bytes_stop : (arch : ArchName) (address : ℕ) (text : List ℕ) (s : State) → 2 ≤ length text → with_pair arch address (get_or text 0 0) (get_or text 1 0) s ≡ None → with_bytes arch address text s ≡ None
bytes_stop arch address text s long e =
    pair_step arch address text s long ∙ ap (option_and_then (λ t. with_bytes arch (address + 1) (take (length text - 2) (drop 2 text)) t)) e

pub bytes_go_on : (arch : ArchName) (address : ℕ) (text : List ℕ) (s t : State) → 2 ≤ length text → with_pair arch address (get_or text 0 0) (get_or text 1 0) s ≡ Some t → with_bytes arch (address + 1) (take (length text - 2) (drop 2 text)) t ≡ with_bytes arch address text s
bytes_go_on arch address text s t long e =
    sym (pair_step arch address text s long ∙ ap (option_and_then (λ t. with_bytes arch (address + 1) (take (length text - 2) (drop 2 text)) t)) e)

pub bytes_end : (arch : ArchName) (address : ℕ) (text : List ℕ) (s : State) → length text ≡ 0 → with_bytes arch address text s ≡ Some s
unfolding with_bytes
bytes_end arch address [] s e = refl
bytes_end arch address (c ∷ text) s e = absurd (omega arith)

pub bytes_odd : (arch : ArchName) (address : ℕ) (text : List ℕ) (s : State) → 0 < length text → length text < 2 → with_bytes arch address text s ≡ None
unfolding with_bytes
bytes_odd arch address [] s some few = absurd (omega arith)
bytes_odd arch address (c ∷ []) s some few = refl
bytes_odd arch address (c ∷ d ∷ text) s some few = absurd (omega arith)

-- what stops a step stops all of them
pub entry_stops : (result : Result (Unit {0}) EntryErr) (fault : EntryErr) (step all : Option State) (t u : State) → result ≡ Err fault → Enters (Err fault) step t → (step ≡ None → all ≡ None) → Enters result all u
entry_stops result fault step all t u is enters stops = subst (λ r. Enters r all u) (sym is) (by_fault fault enters)
  where
    by_fault : (fault : EntryErr) → Enters (Err fault) step t → Enters (Err fault) all u
    by_fault Bad none = stops none
    by_fault NoMemory none = tt
