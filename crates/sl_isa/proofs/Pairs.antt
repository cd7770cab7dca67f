-- Pairs of banks and names: those that are there stay, with their numbers, where others are added.
use Rattle.std.proofs.Common.{◌≡◌, ◌∙◌, sym, ap, subst, refl, ℕ, zero, suc, ◌+◌, ◌≤◌, ◌&&◌, Bool, true, false, cond, List, [], ◌∷◌, ◌++◌, length, length-append, append_assoc, append-nil, take, arith, eq-eqb, eqb-true, ◌==◌}
use Rattle.std.specs.Prelude.{slice_get, Some}
use Rattle.std.specs.List.{list_all}
use Rattle.std.specs.Str.{bytes_eq}
use Rattle.std.proofs.Math.Seq.{take-append_seam}
use Rattle.std.proofs.lemmas.Bool.{and_parts}
use Rattle.std.proofs.lemmas.Slice.Eq.{bytes_eq-Decides}
use Rattle.sl_model.specs.declared.register.Bank.{Bank}
use Rattle.sl_model.specs.declared.register.Reg.{Reg}
use Rattle.sl_model.specs.declared.instruction.Instr.{Instr}
use Rattle.sl_model.specs.Register.{bank_number}
use Rattle.sl_model.specs.Source.{operands, outputs}
use Rattle.sl_isa.specs.Symbols.{Pair, is_pair, place_from, has_pair, number_of, with_pair, with_pairs, have_pairs, is_pair_of, is_named}
use Rattle.sl_isa.specs.Language.{IsNamed}

-- ---- one pair

this_pair : Bank → List ℕ → Pair
this_pair bank name = (bank, name)

is_pair-self : (bank : Bank) (name : List ℕ) → is_pair bank name (this_pair bank name) ≡ true
unfolding this_pair
is_pair-self bank name =
    ap (λ b. cond b (bytes_eq name name) false) (eq-eqb (bank_number bank) (bank_number bank) refl) ∙ (bytes_eq-Decides name name).1 refl

or_more : (b x y : Bool) → (x ≡ true → y ≡ true) → cond b true x ≡ true → cond b true y ≡ true
or_more true x y f e = refl
or_more false x y f e = f e

one_or : (b x : Bool) → x ≡ true → cond b true x ≡ true
one_or true x e = refl
one_or false x e = e

-- what is among pairs is among them with others behind them
pub has_pair-longer : (bank : Bank) (name : List ℕ) (pairs more : List Pair) → has_pair bank name pairs ≡ true → has_pair bank name (pairs ++ more) ≡ true
unfolding has_pair
has_pair-longer bank name [] more e = absurd cc
has_pair-longer bank name (pair ∷ pairs) more e = or_more (is_pair bank name pair) (has_pair bank name pairs) (has_pair bank name (pairs ++ more)) (has_pair-longer bank name pairs more) e

same_place : (b h : Bool) (n x y : ℕ) → (h ≡ true → x ≡ y) → cond b true h ≡ true → cond b n x ≡ cond b n y
same_place true h n x y f e = refl
same_place false h n x y f e = f e

place_from-longer : (first : ℕ) (bank : Bank) (name : List ℕ) (pairs more : List Pair) → has_pair bank name pairs ≡ true
    → place_from first bank name (pairs ++ more) ≡ place_from first bank name pairs
unfolding has_pair place_from
place_from-longer first bank name [] more e = absurd cc
place_from-longer first bank name (pair ∷ pairs) more e =
    same_place (is_pair bank name pair) (has_pair bank name pairs) first (place_from (first + 1) bank name (pairs ++ more)) (place_from (first + 1) bank name pairs)
    (place_from-longer (first + 1) bank name pairs more) e

-- and it keeps its number
pub number_of-longer : (bank : Bank) (name : List ℕ) (pairs more : List Pair) → has_pair bank name pairs ≡ true
    → number_of bank name (pairs ++ more) ≡ number_of bank name pairs
number_of-longer bank name pairs more e = place_from-longer 0 bank name pairs more e

-- A pair is found at its place.
pub record IsFoundAt (bank : Bank) (name : List ℕ) (pairs : List Pair) (number : ℕ) : Type 0 where
  pub pair : Pair
  pub at : slice_get pairs number ≡ Some pair
  pub bank_same : bank_number pair.0 ≡ bank_number bank
  pub name_same : pair.1 ≡ name

-- the same, counted from a number on
record IsFoundFrom (first : ℕ) (bank : Bank) (name : List ℕ) (pairs : List Pair) : Type 0 where
  offset : ℕ
  number : place_from first bank name pairs ≡ first + offset
  found : IsFoundAt bank name pairs offset

pair_parts : (bank : Bank) (name : List ℕ) (pair : Pair) → is_pair bank name pair ≡ true → (bank_number pair.0 ≡ bank_number bank) × (pair.1 ≡ name)
pair_parts bank name pair e = parts (bank_number pair.0 == bank_number bank) refl e
  where
    parts : (b : Bool) → (bank_number pair.0 == bank_number bank) ≡ b → cond b (bytes_eq pair.1 name) false ≡ true → (bank_number pair.0 ≡ bank_number bank) × (pair.1 ≡ name)
    parts true is e = (eqb-true (bank_number pair.0) (bank_number bank) is, (bytes_eq-Decides pair.1 name).0 e)
    parts false is e = absurd cc

found_later : (first : ℕ) (bank : Bank) (name : List ℕ) (pair : Pair) (pairs : List Pair) → IsFoundFrom (first + 1) bank name pairs
    → place_from first bank name (pair ∷ pairs) ≡ place_from (first + 1) bank name pairs → IsFoundFrom first bank name (pair ∷ pairs)
found_later first bank name pair pairs f later =
    let place : ℕ = f.offset in
    let next : first + 1 + place ≡ first + suc place = omega arith in
    record {
      offset = suc f.offset;
      number = later ∙ (f.number ∙ next);
      found = record { pair = f.found.pair; at = f.found.at; bank_same = f.found.bank_same; name_same = f.found.name_same };
    }

found_from : (first : ℕ) (bank : Bank) (name : List ℕ) (pairs : List Pair) → has_pair bank name pairs ≡ true → IsFoundFrom first bank name pairs
unfolding has_pair place_from
found_from first bank name [] e = absurd cc
found_from first bank name (pair ∷ pairs) e = by (is_pair bank name pair) refl e (λ later. found_from (first + 1) bank name pairs later)
  where
    by : (b : Bool) → is_pair bank name pair ≡ b → cond b true (has_pair bank name pairs) ≡ true
        → (has_pair bank name pairs ≡ true → IsFoundFrom (first + 1) bank name pairs) → IsFoundFrom first bank name (pair ∷ pairs)
    by true is e more =
        let parts = pair_parts bank name pair is in
        let start : first ≡ first + 0 = omega arith in
        record {
          offset = 0;
          number = ap (λ b. cond b first (place_from (first + 1) bank name pairs)) is ∙ start;
          found = record { pair = pair; at = refl; bank_same = parts.0; name_same = parts.1 };
        }
    by false is e more =
        found_later first bank name pair pairs (more e) (ap (λ b. cond b first (place_from (first + 1) bank name pairs)) is)

-- what is among pairs stands at its number
pub number_of-at : (bank : Bank) (name : List ℕ) (pairs : List Pair) → has_pair bank name pairs ≡ true → IsFoundAt bank name pairs (number_of bank name pairs)
number_of-at bank name pairs e =
    let f = found_from 0 bank name pairs e in
    let place : ℕ = f.offset in
    let same : 0 + place ≡ place = omega arith in
    subst (λ n. IsFoundAt bank name pairs n) (sym (f.number ∙ same)) f.found

-- ---- pairs that are added

-- Pairs have others in front.
pub record IsFrontOf (pairs longer : List Pair) : Type 0 where
  pub more : List Pair
  pub is : longer ≡ pairs ++ more

front_self : (pairs : List Pair) → IsFrontOf pairs pairs
front_self pairs = record { more = []; is = sym (append-nil pairs) }

front_front : (pairs middle longer : List Pair) → IsFrontOf pairs middle → IsFrontOf middle longer → IsFrontOf pairs longer
front_front pairs middle longer a b = record {
  more = a.more ++ b.more;
  is = b.is ∙ (ap (λ front. front ++ b.more) a.is ∙ append_assoc pairs a.more b.more);
}

pub with_pair-front : (bank : Bank) (name : List ℕ) (pairs : List Pair) → IsFrontOf pairs (with_pair bank name pairs)
unfolding with_pair this_pair
with_pair-front bank name pairs = by (has_pair bank name pairs) refl
  where
    by : (b : Bool) → has_pair bank name pairs ≡ b → IsFrontOf pairs (with_pair bank name pairs)
    by true is = record { more = []; is = ap (λ b. cond b pairs (pairs ++ this_pair bank name ∷ [])) is ∙ sym (append-nil pairs) }
    by false is = record { more = this_pair bank name ∷ []; is = ap (λ b. cond b pairs (pairs ++ this_pair bank name ∷ [])) is }

has_pair-last : (bank : Bank) (name : List ℕ) (pairs : List Pair) → has_pair bank name (pairs ++ this_pair bank name ∷ []) ≡ true
unfolding has_pair
has_pair-last bank name [] = ap (λ b. cond b true false) (is_pair-self bank name)
has_pair-last bank name (pair ∷ pairs) = one_or (is_pair bank name pair) (has_pair bank name (pairs ++ this_pair bank name ∷ [])) (has_pair-last bank name pairs)

pub has_pair-with : (bank : Bank) (name : List ℕ) (pairs : List Pair) → has_pair bank name (with_pair bank name pairs) ≡ true
unfolding with_pair this_pair
has_pair-with bank name pairs = by (has_pair bank name pairs) refl
  where
    by : (b : Bool) → has_pair bank name pairs ≡ b → has_pair bank name (with_pair bank name pairs) ≡ true
    by true is = ap (λ b. has_pair bank name (cond b pairs (pairs ++ this_pair bank name ∷ []))) is ∙ is
    by false is = ap (λ b. has_pair bank name (cond b pairs (pairs ++ this_pair bank name ∷ []))) is ∙ has_pair-last bank name pairs

with_pair-known : (bank : Bank) (name : List ℕ) (pairs : List Pair) → has_pair bank name pairs ≡ true → with_pair bank name pairs ≡ pairs
unfolding with_pair
with_pair-known bank name pairs e = ap (λ b. cond b pairs (pairs ++ (bank, name) ∷ [])) e

with_pair-count : (bank : Bank) (name : List ℕ) (pairs : List Pair) → length (with_pair bank name pairs) ≤ length pairs + 1
unfolding with_pair this_pair
with_pair-count bank name pairs = by (has_pair bank name pairs)
  where
    by : (b : Bool) → length (cond b pairs (pairs ++ this_pair bank name ∷ [])) ≤ length pairs + 1
    by true = omega arith
    by false = let sum : length (pairs ++ this_pair bank name ∷ []) ≡ length pairs + 1 = length-append pairs (this_pair bank name ∷ []) in omega (arith, sum)

-- Pairs with others have the pairs in front.
pub with_pairs-front : (pairs others : List Pair) → IsFrontOf pairs (with_pairs pairs others)
unfolding with_pairs
with_pairs-front pairs [] = front_self pairs
with_pairs-front pairs (other ∷ others) =
    front_front pairs (with_pair other.0 other.1 pairs) (with_pairs (with_pair other.0 other.1 pairs) others)
    (with_pair-front other.0 other.1 pairs) (with_pairs-front (with_pair other.0 other.1 pairs) others)

-- So the first of them are the pairs.
pub with_pairs-take : (pairs others : List Pair) → take (length pairs) (with_pairs pairs others) ≡ pairs
with_pairs-take pairs others = let f = with_pairs-front pairs others in ap (take (length pairs)) f.is ∙ take-append_seam pairs f.more

has_pair-front : (bank : Bank) (name : List ℕ) (pairs longer : List Pair) → IsFrontOf pairs longer → has_pair bank name pairs ≡ true → has_pair bank name longer ≡ true
has_pair-front bank name pairs longer f e = ap (has_pair bank name) f.is ∙ has_pair-longer bank name pairs f.more e

-- They have all the others.
pub have_pairs-with : (pairs others : List Pair) → have_pairs others (with_pairs pairs others) ≡ true
unfolding with_pairs
have_pairs-with pairs [] = refl
have_pairs-with pairs (other ∷ others) =
    let next : List Pair = with_pair other.0 other.1 pairs in
    ap (λ b. b && have_pairs others (with_pairs next others))
    (has_pair-front other.0 other.1 next (with_pairs next others) (with_pairs-front next others) (has_pair-with other.0 other.1 pairs))
    ∙ have_pairs-with next others

-- Where they had them, nothing changes.
pub with_pairs-known : (pairs others : List Pair) → have_pairs others pairs ≡ true → with_pairs pairs others ≡ pairs
unfolding with_pairs
with_pairs-known pairs [] e = refl
with_pairs-known pairs (other ∷ others) e =
    let parts = and_parts (has_pair other.0 other.1 pairs) (have_pairs others pairs) e in
    ap (λ next. with_pairs next others) (with_pair-known other.0 other.1 pairs parts.0) ∙ with_pairs-known pairs others parts.1

-- They are at most as many more as there are others.
pub with_pairs-count : (pairs others : List Pair) → length (with_pairs pairs others) ≤ length pairs + length others
unfolding with_pairs
with_pairs-count pairs [] = omega arith
with_pairs-count pairs (other ∷ others) =
    let next : List Pair = with_pair other.0 other.1 pairs in
    let one : length next ≤ length pairs + 1 = with_pair-count other.0 other.1 pairs in
    let all : length (with_pairs next others) ≤ length next + length others = with_pairs-count next others in
    omega (arith, one, all)

-- What pairs have, they have with others behind them.
pub have_pairs-longer : (others pairs more : List Pair) → have_pairs others pairs ≡ true → have_pairs others (pairs ++ more) ≡ true
have_pairs-longer [] pairs more e = refl
have_pairs-longer (other ∷ others) pairs more e =
    let parts = and_parts (has_pair other.0 other.1 pairs) (have_pairs others pairs) e in
    ap (λ b. b && have_pairs others (pairs ++ more)) (has_pair-longer other.0 other.1 pairs more parts.0) ∙ have_pairs-longer others pairs more parts.1

-- ---- registers with names

get_longer : (pairs more : List Pair) (n : ℕ) (bank : Bank) → is_pair_of bank (slice_get pairs n) ≡ true → is_pair_of bank (slice_get (pairs ++ more) n) ≡ true
get_longer [] more n bank e = absurd cc
get_longer (pair ∷ pairs) more zero bank e = e
get_longer (pair ∷ pairs) more (suc n) bank e = get_longer pairs more n bank e

-- A register that pairs name they name with others behind them.
pub is_named-longer : (pairs more : List Pair) (r : Reg) → is_named pairs r ≡ true → is_named (pairs ++ more) r ≡ true
is_named-longer pairs more r e = by r.symbolic e
  where
    by : (b : Bool) → cond b (is_pair_of r.bank (slice_get pairs r.number)) true ≡ true → cond b (is_pair_of r.bank (slice_get (pairs ++ more) r.number)) true ≡ true
    by true e = get_longer pairs more r.number r.bank e
    by false e = refl

all_named-longer : (pairs more : List Pair) (regs : List Reg) → list_all (is_named pairs) regs ≡ true → list_all (is_named (pairs ++ more)) regs ≡ true
all_named-longer pairs more [] e = refl
all_named-longer pairs more (r ∷ regs) e =
    let parts = and_parts (is_named pairs r) (list_all (is_named pairs) regs) e in
    ap (λ b. b && list_all (is_named (pairs ++ more)) regs) (is_named-longer pairs more r parts.0) ∙ all_named-longer pairs more regs parts.1

-- So of all registers of an instruction.
pub IsNamed-longer : (pairs more : List Pair) (i : Instr) → IsNamed pairs i → IsNamed (pairs ++ more) i
IsNamed-longer pairs more i n = record {
  operands_named = all_named-longer pairs more (operands i) n.operands_named;
  outputs_named = all_named-longer pairs more (outputs i) n.outputs_named;
}
