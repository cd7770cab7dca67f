-- Registers that stand before those of the names that are left.
use Rattle.std.proofs.Common.{◌≡◌, ◌∙◌, ℕ, ◌+◌, ◌<◌, ◌≤◌, List, [], ◌∷◌, ◌++◌, map, drop, get_or, length, Bor, Bool, false, not, Result, Ok, Err, if◌then◌else◌, refl, sym, ap, append-nil, append_assoc, add-one, drop-cons}
use Rattle.std.proofs.lemmas.List.{drop_all}
use Rattle.sl_model.specs.Answers.{Refuses}
use Rattle.sl_model.specs.ResultSteps.{◌>>=◌}
use Rattle.sl_model.specs.declared.instruction.ArchName.{ArchName}
use Rattle.sl_model.specs.declared.register.Reg.{Reg}
use Rattle.command_words.specs.declared.options.WordsErr.{WordsErr}
use Rattle.command_words.specs.declared.options.WordsErr.TheVariants.{Usage, NoMemory}
use Rattle.command_words.specs.Answer.{WrongUse, wrong_use, usage_of}
use Rattle.command_words.specs.Command.{listed_register, listed_registers}
use Rattle.command_words.specs.Table.{Text}

-- registers before others, if these are there
abbrev pub with_front : List Reg → Result (List Reg) WrongUse → Result (List Reg) WrongUse
with_front front (Ok regs) = Ok (front ++ regs)
with_front front (Err refusal) = Err refusal

-- no registers stand behind all
front_all : (arch : ArchName) (front : List Reg) → with_front front (listed_registers arch []) ≡ Ok front
unfolding listed_registers
front_all arch front = ap Ok (append-nil front)

-- one register more
front_more : (arch : ArchName) (front : List Reg) (name : Text) (names : List Text) (r : Reg) → listed_register arch name ≡ Ok r
    → with_front front (listed_registers arch (name ∷ names)) ≡ with_front (front ++ r ∷ []) (listed_registers arch names)
unfolding listed_registers
front_more arch front name names r is = ap (λ (o : Result Reg WrongUse). with_front front (o >>= λ r. listed_registers arch names >>= λ regs. Ok (r ∷ regs))) is ∙ moved (listed_registers arch names)
  where
    moved : (o : Result (List Reg) WrongUse) → with_front front (o >>= λ regs. Ok (r ∷ regs)) ≡ with_front (front ++ r ∷ []) o
    moved (Ok regs) = ap Ok (sym (append_assoc front (r ∷ []) regs))
    moved (Err refusal) = refl

-- a name that is wrong
front_wrong : (arch : ArchName) (front : List Reg) (name : Text) (names : List Text) → listed_register arch name ≡ Err wrong_use
    → with_front front (listed_registers arch (name ∷ names)) ≡ Err wrong_use
unfolding listed_registers
front_wrong arch front name names is = ap (λ (o : Result Reg WrongUse). with_front front (o >>= λ r. listed_registers arch names >>= λ regs. Ok (r ∷ regs))) is

-- names of the code
abbrev Names : Type 0
Names = List (Bor Text)

abbrev texts : Names → List Text
texts names = map (λ name. name.now) names

-- registers that stand before those of the names from a place on are with these the registers of all
abbrev pub IsFront : ArchName → List Reg → ℕ → Names → Type 0
IsFront arch front k names = with_front front (listed_registers arch (texts (drop k names))) ≡ listed_registers arch (texts names)

from_place : (names : Names) (k : ℕ) (absent : Bor Text) → k < length names → texts (drop k names) ≡ (get_or names k absent).now ∷ texts (drop (k + 1) names)
from_place names k absent within = rw (add-one, drop-cons names k absent) refl

-- at the end they are all
pub front-ends : (arch : ArchName) (front : List Reg) (k : ℕ) (names : Names) → IsFront arch front k names → length names ≤ k → listed_registers arch (texts names) ≡ Ok front
front-ends arch front k names so_far past = sym so_far ∙ ap (λ (left : Names). with_front front (listed_registers arch (texts left))) (drop_all k names past) ∙ front_all arch front

-- a name that is right adds its register
pub front-grows : (arch : ArchName) (front more : List Reg) (k : ℕ) (names : Names) (absent : Bor Text) (r : Reg) → IsFront arch front k names → k < length names
    → listed_register arch (get_or names k absent).now ≡ Ok r → more ≡ front ++ r ∷ [] → IsFront arch more (k + 1) names
front-grows arch front more k names absent r so_far within is grown =
    ap (λ regs. with_front regs (listed_registers arch (texts (drop (k + 1) names)))) grown
    ∙ sym (front_more arch front (get_or names k absent).now (texts (drop (k + 1) names)) r is)
    ∙ ap (λ (left : List Text). with_front front (listed_registers arch left)) (sym (from_place names k absent within))
    ∙ so_far

-- what refuses a name refuses the list
pub front-refuses : (arch : ArchName) (e : WordsErr) (front : List Reg) (k : ℕ) (names : Names) (absent : Bor Text) → IsFront arch front k names → k < length names
    → Refuses (usage_of e) (listed_register arch (get_or names k absent).now) → Refuses (usage_of e) (listed_registers arch (texts names))
front-refuses arch Usage front k names absent so_far within wrong =
    sym so_far ∙ ap (λ (left : List Text). with_front front (listed_registers arch left)) (from_place names k absent within)
    ∙ front_wrong arch front (get_or names k absent).now (texts (drop (k + 1) names)) wrong
front-refuses arch NoMemory front k names absent so_far within wrong = tt

-- a push that doesn't fail
pub pushed : {X : Type 0} (b c : Bool) (front more : List X) (x : X) → more ≡ (if b then front ++ x ∷ [] else front) → c ≡ false → b ≡ not c → more ≡ front ++ x ∷ []
pushed {X} b c front more x is kept opposite = is ∙ ap (λ (t : Bool). if t then front ++ x ∷ [] else front) (opposite ∙ ap not kept)
