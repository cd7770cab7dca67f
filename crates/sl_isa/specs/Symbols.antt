-- The names of symbolic registers: pairs of a bank and a name, each numbered by its place. Source:
-- this project's own spelling of registers that have no number yet.
use Rattle.std.specs.Prelude.{ℕ, ◌+◌, ◌==◌, Bool, true, false, List, [], ◌∷◌, ◌++◌, slice_get, Option, None, Some, if◌then◌else◌}
use Rattle.std.specs.List.{list_all}
use Rattle.std.specs.Str.{bytes_eq}
use Rattle.sl_model.specs.declared.register.Bank.{Bank}
use Rattle.sl_model.specs.declared.register.Reg.{Reg}
use Rattle.sl_model.specs.Register.{bank_number}

-- a bank and a name
abbrev pub Pair : Type 0
Pair = Bank × List ℕ

-- Is a pair of this bank and this name?
abbrev pub is_pair : Bank → List ℕ → Pair → Bool
is_pair bank name pair =
    if bank_number pair.0 == bank_number bank then bytes_eq pair.1 name else false

-- the place of a pair, counted from a first number on, and the number behind
-- the last where it is none of them
unfoldable pub place_from : ℕ → Bank → List ℕ → List Pair → ℕ
place_from first bank name [] = first
place_from first bank name (pair ∷ pairs) =
    if is_pair bank name pair then first else place_from (first + 1) bank name pairs

-- Is a pair among others?
unfoldable pub has_pair : Bank → List ℕ → List Pair → Bool
has_pair bank name [] = false
has_pair bank name (pair ∷ pairs) =
    if is_pair bank name pair then true else has_pair bank name pairs

-- the number of a pair
abbrev pub number_of : Bank → List ℕ → List Pair → ℕ
number_of bank name pairs = place_from 0 bank name pairs

-- the pairs with one more, if it isn't among them
unfoldable pub with_pair : Bank → List ℕ → List Pair → List Pair
with_pair bank name pairs = if has_pair bank name pairs then pairs else pairs ++ (bank, name) ∷ []

-- the pairs with others, one after the other, each if it isn't among them
unfoldable pub with_pairs : List Pair → List Pair → List Pair
with_pairs pairs [] = pairs
with_pairs pairs (pair ∷ others) = with_pairs (with_pair pair.0 pair.1 pairs) others

-- Are all of these among the pairs?
abbrev pub have_pairs : List Pair → List Pair → Bool
have_pairs others pairs = list_all (λ other. has_pair other.0 other.1 pairs) others

-- Is there a pair, and is it of a bank?
abbrev pub is_pair_of : Bank → Option Pair → Bool
is_pair_of bank None = false
is_pair_of bank (Some pair) = bank_number pair.0 == bank_number bank

-- Is a register one of the machine, or has it the number of a pair of its bank?
abbrev pub is_named : List Pair → Reg → Bool
is_named pairs r = if r.symbolic then is_pair_of r.bank (slice_get pairs r.number) else true

-- the name of a pair
abbrev pub name_of : Pair → List ℕ
name_of pair = pair.1
