-- Sources of values, and those of the operands of a list.
use Rattle.std.proofs.Common.{suc, ◌<◌, [], ◌∷◌, Option, None, Some, arith, ◌≡◌, ℕ, true, eqb, List, length, take, reverse, refl, sym, ap, ap₂, true≢false}
use Rattle.std.proofs.lemmas.Bool.{and_parts, and_from, eqb-true, eq-eqb}
use Rattle.std.proofs.lemmas.List.{length-map}
use Rattle.sl_model.specs.declared.instruction.Instr.{Instr}
use Rattle.sl_model.specs.declared.register.Reg.{Reg}
use Rattle.sl_model.specs.declared.schedule.Source.{Source}
use Rattle.sl_model.specs.declared.schedule.Source.TheVariants.{Entry, Item}
use Rattle.sl_model.specs.Source.{operands, outputs, item_at, place_from, output_or, source_of, list_sources}
use Rattle.sl_model.specs.Body.{same_source}
use Rattle.sl_laws.proofs.Registers.{same_reg-true, same_reg-refl}

-- two names of one source are equal
pub same_source-true : (a b : Source) → same_source a b ≡ true → a ≡ b
same_source-true (Entry a) (Entry b) e = ap Entry (same_reg-true a b e)
same_source-true (Item a j) (Item b k) e =
    let parts = and_parts (eqb a b) (eqb j k) e in
    ap₂ Item (eqb-true a b parts.0) (eqb-true j k parts.1)
same_source-true (Entry a) (Item b k) e = absurd (true≢false (sym e))
same_source-true (Item a j) (Entry b) e = absurd (true≢false (sym e))

-- a source is itself
pub same_source-refl : (a : Source) → same_source a a ≡ true
same_source-refl (Entry a) = same_reg-refl a
same_source-refl (Item a j) = and_from (eqb a a) (eqb j j) (eq-eqb a a refl) (eq-eqb j j refl)

-- there is a source for each operand
pub length-list_sources : (items : List Instr) (p : ℕ) → length (list_sources items p) ≡ length (operands (item_at items p))
unfolding list_sources
length-list_sources items p = length-map (operands (item_at items p)) (λ r. source_of r (reverse (take p items)))

-- A source is an entry, or an output of an item below a number.
abbrev pub IsBefore : ℕ → Source → Type 0
IsBefore n (Entry r) = Unit {0}
IsBefore n (Item item place) = item < n

-- an output of an item, or what was before it, is before the next item
IsBefore-output_or : (n : ℕ) (o : Option ℕ) (earlier : Source) → IsBefore n earlier → IsBefore (suc n) (output_or n o earlier)
IsBefore-output_or n None (Entry r) before = tt
IsBefore-output_or n None (Item item place) before = omega arith
IsBefore-output_or n (Some place) earlier before = omega arith

-- what stands above has numbers below the count of it
pub IsBefore-source_of : (r : Reg) (above : List Instr) → IsBefore (length above) (source_of r above)
unfolding source_of
IsBefore-source_of r [] = tt
IsBefore-source_of r (i ∷ above) = IsBefore-output_or (length above) (place_from 0 r (outputs i)) (source_of r above) (IsBefore-source_of r above)
