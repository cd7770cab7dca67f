-- The straight problem of valid items is well posed.
use Rattle.std.proofs.Common.{◌≡◌, ℕ, zero, suc, ◌<◌, ◌≤◌, true, false, not, nat_lt, List, [], ◌∷◌, map, map-id, reverse, length, take, take_all, take-suc, le_refl, le_of_lt, Option, None, Some, ⊎_elim, refl, sym, ap, subst, ◌∙◌, true≢false, arith, slice_get, is_some, lt-ltb}
use Rattle.std.specs.List.{list_all, list_any, filter_map}
use Rattle.std.proofs.lemmas.List.{reverse-append}
use Rattle.std.proofs.lemmas.List.Folds.{list_all-map}
use Rattle.std.proofs.lemmas.Simd.{map-map}
use Rattle.std.proofs.lemmas.Option.{slice_get_within}
use Rattle.sl_model.specs.declared.frame.Frame.{Frame}
use Rattle.sl_model.specs.declared.register.Reg.{Reg}
use Rattle.sl_model.specs.declared.instruction.Instr.{Instr}
use Rattle.sl_model.specs.declared.instruction.FormInfo.{FormInfo}
use Rattle.sl_model.specs.declared.schedule.Source.{Source}
use Rattle.sl_model.specs.declared.schedule.Source.TheVariants.{Entry, Item}
use Rattle.sl_model.specs.Register.{same_reg}
use Rattle.sl_model.specs.RegSets.{regs_in}
use Rattle.sl_model.specs.Source.{operands, outputs, item_at, no_instr, list_sources, source_of, last_source, place_from, output_or, numbers_below}
use Rattle.sl_model.specs.Cycles.{CostTable}
use Rattle.sl_model.specs.Isa.{Isa}
use Rattle.sl_model.specs.Body.{stands_in, all_differ, same_source}
use Rattle.sl_model.specs.Legal.{straight_problem}
use Rattle.sl_model.specs.Graph.{list_graph}
use Rattle.renamer.proofs.SoundGraph.{IsSoundGraph}
use Rattle.sl_model.specs.Lawful.{AreValid, is_base_alone}
use Rattle.renamer.specs.WellPosed.{IsWellPosed, is_made, sources_differ, is_base_apart}
use Rattle.std.proofs.lemmas.Bool.{not-true, cases_Bool, and_parts, and_from}
use Rattle.sl_laws.proofs.Alone.{base_alone-made}
use Rattle.sl_laws.proofs.Graphs.{list-are_sources, list_graph-sources, length-above}
use Rattle.sl_laws.proofs.Tests.{is_none_from}
use Rattle.sl_laws.proofs.Numbers.{lt-below}
use Rattle.sl_laws.proofs.Sources.{same_source-true, same_source-refl}
use Rattle.sl_laws.proofs.MachineRegs.{regs_in-differ}
use Rattle.sl_laws.proofs.Elements.{list_all-from_each, list_any-from_each, list_any-map}
use Rattle.sl_laws.proofs.Registers.{place_from-at, place_from-none, same_reg-true, same_reg-refl}

-- A source of a register is its own entry, or an output below a number that is in that register.
abbrev pub Makes : List Instr → ℕ → Reg → Source → Type 0
Makes items n r (Entry q) = q ≡ r
Makes items n r (Item item place) = (item < n) × (slice_get (outputs (item_at items item)) place ≡ Some r)

-- one more item: its output in the register, or what was there
Makes-output_or : (items : List Instr) (n : ℕ) (r : Reg) (o : Option ℕ) (earlier : Source) → place_from 0 r (outputs (item_at items n)) ≡ o → Makes items n r earlier → Makes items (suc n) r (output_or n o earlier)
Makes-output_or items n r None (Entry q) is makes = makes
Makes-output_or items n r None (Item item place) is makes = (omega (arith, makes.0), makes.1)
Makes-output_or items n r (Some place) earlier is makes =
    let found = place_from-at 0 r (outputs (item_at items n)) place is in
    let same : found.0 ≡ place = omega (arith, found.1) in
    (omega arith, subst (λ k. slice_get (outputs (item_at items n)) k ≡ Some r) same found.2)

-- what stands in a register after so many items
makes-front : (items : List Instr) (r : Reg) (n : ℕ) → n ≤ length items → Makes items n r (source_of r (reverse (take n items)))
unfolding source_of
makes-front items r zero le = refl
makes-front items r (suc n) le =
    let within : n < length items = omega arith in
    let i : Instr = item_at items n in
    let turned : reverse (take (suc n) items) ≡ i ∷ reverse (take n items) = ap reverse (take-suc items n no_instr within) ∙ reverse-append (take n items) (i ∷ []) in
    let made : Makes items (suc n) r (output_or n (place_from 0 r (outputs i)) (source_of r (reverse (take n items)))) =
    Makes-output_or items n r (place_from 0 r (outputs i)) (source_of r (reverse (take n items))) refl (makes-front items r n (le_of_lt within)) in
    subst (λ l. Makes items (suc n) r (source_of r l)) (sym turned)
    (subst (λ m. Makes items (suc n) r (output_or m (place_from 0 r (outputs i)) (source_of r (reverse (take n items))))) (sym (length-above items n (le_of_lt within))) made)

-- the last source of a register is its entry or an output in it
pub makes-last : (items : List Instr) (r : Reg) → Makes items (length items) r (last_source items r)
makes-last items r = subst (λ l. Makes items (length items) r (source_of r (reverse l))) (take_all (length items) items (le_refl (length items))) (makes-front items r (length items) (le_refl (length items)))

-- such a source is made in the straight problem
made_from : (isa : Isa) (items : List Instr) (frame : Frame) (costs : CostTable) (r : Reg) (value : Source) → Makes items (length items) r value → is_made (straight_problem isa items frame costs) (r, value) ≡ true
made_from isa items frame costs r (Entry q) makes = ap (same_reg q) (sym makes) ∙ same_reg-refl q
made_from isa items frame costs r (Item item place) makes =
    and_from (stands_in item (numbers_below (length items))) (nat_lt place (length (outputs (item_at items item))))
    (lt-below (length items) item makes.0)
    (lt-ltb place (length (outputs (item_at items item))) (slice_get_within (outputs (item_at items item)) place r makes.1))

-- each live register is made by its last writer
pub straight-made : (isa : Isa) (items : List Instr) (frame : Frame) (costs : CostTable) → list_all (is_made (straight_problem isa items frame costs)) (straight_problem isa items frame costs).finals ≡ true
straight-made isa items frame costs =
    list_all-map (is_made (straight_problem isa items frame costs)) (λ r. (r, last_source items r)) (regs_in frame.live)
    ∙ list_all-from_each (λ r. is_made (straight_problem isa items frame costs) (r, last_source items r)) (regs_in frame.live) (λ k r at. made_from isa items frame costs r (last_source items r) (makes-last items r))

-- registers with one source are one
makes-one : (items : List Instr) (n : ℕ) (q r : Reg) (value : Source) → Makes items n q value → Makes items n r value → q ≡ r
makes-one items n q r (Entry p) a b = sym a ∙ b
makes-one items n q r (Item item place) a b = let e : Some q ≡ Some r = sym a.1 ∙ b.1 in let same : q ≡ r = cc in same

-- sources of registers above an item are one exactly where the registers are
makes-alike : (items : List Instr) (n : ℕ) (q r : Reg) (a b : Source) → Makes items n q a → Makes items n r b → (q ≡ r → a ≡ b) → same_source a b ≡ same_reg q r
makes-alike items n q r a b one two same = ⊎_elim
    (λ (is : same_source a b ≡ true).
    let e : q ≡ r = makes-one items n q r b (subst (Makes items n q) (same_source-true a b is) one) two in
    is ∙ sym (ap (same_reg q) (sym e) ∙ same_reg-refl q))
    (λ (other : same_source a b ≡ false). other ∙ sym (⊎_elim
    (λ (is : same_reg q r ≡ true). absurd (true≢false (sym (ap (same_source a) (sym (same (same_reg-true q r is))) ∙ same_source-refl a) ∙ other)))
    (λ (no : same_reg q r ≡ false). no)
    (cases_Bool (same_reg q r))))
    (cases_Bool (same_source a b))

-- what is made of each element is all that there is
filter_map-some : {A B : Type 0} (f : A → B) (xs : List A) → filter_map (λ x. Some (f x)) xs ≡ map f xs
filter_map-some f [] = refl
filter_map-some f (x ∷ xs) = ap (λ l. f x ∷ l) (filter_map-some f xs)

-- a base in a register of its own has a source of its own
straight-base_apart : (isa : Isa) (items : List Instr) (p : ℕ) → AreValid isa items → p < length items → is_base_apart isa (list_graph isa items) p ≡ true
unfolding list_sources
straight-base_apart isa items p valid within =
    let i : Instr = item_at items p in
    let info : FormInfo = isa.info i.form in
    let from : Reg → Source = λ r. source_of r (reverse (take p items)) in
    ap (is_base_alone same_source info) (list_graph-sources isa items p)
    ∙ ap (is_base_alone same_source info) (sym (filter_map-some from (operands i)))
    ∙ base_alone-made same_reg same_source (λ r. Some (from r)) (operands i)
    (record {
      made = λ k r at. (from r, refl);
      alike = λ j k q r a b at beside one two.
          (let e : from q ≡ a = cc in
          let f : from r ≡ b = cc in
          makes-alike items p q r a b (subst (Makes items p q) e (makes-front items q p (le_of_lt within))) (subst (Makes items p r) f (makes-front items r p (le_of_lt within)))
          (λ same. sym e ∙ ap from same ∙ f));
    })
    info (valid p within).base_apart

-- The graph of valid items is sound.
pub straight-sound : (isa : Isa) (items : List Instr) → AreValid isa items → IsSoundGraph isa (list_graph isa items)
straight-sound isa items valid = record {
  of = record { valid = valid; bases_apart = λ p within. straight-base_apart isa items p valid within; is = refl };
  sources = list-are_sources isa items;
}

-- different registers have different last sources
last_sources-differ : (items : List Instr) (live : List Reg) → all_differ live ≡ true → sources_differ (map (last_source items) live) ≡ true
unfolding all_differ sources_differ
last_sources-differ items [] differ = refl
last_sources-differ items (r ∷ live) differ =
    and_from (not (list_any (same_source (last_source items r)) (map (last_source items) live))) (sources_differ (map (last_source items) live))
    (ap not (list_any-map (same_source (last_source items r)) (last_source items) live ∙ list_any-from_each (λ q. same_source (last_source items r) (last_source items q)) live (λ k q at. other k q at)))
    (last_sources-differ items live (and_parts (not (is_some (place_from 0 r live))) (all_differ live) differ).1)
  where
    none : place_from 0 r live ≡ None
    none = is_none_from (place_from 0 r live) (not-true (is_some (place_from 0 r live)) (and_parts (not (is_some (place_from 0 r live))) (all_differ live) differ).0)

    other : (k : ℕ) (q : Reg) → slice_get live k ≡ Some q → same_source (last_source items r) (last_source items q) ≡ false
    other k q at = ⊎_elim (λ t.
        let one : last_source items r ≡ last_source items q = same_source-true (last_source items r) (last_source items q) t in
        let same : q ≡ r = makes-one items (length items) q r (last_source items q) (makes-last items q) (subst (λ v. Makes items (length items) r v) one (makes-last items r)) in
        absurd (true≢false (sym (ap (λ x. same_reg x r) same ∙ same_reg-refl r) ∙ place_from-none 0 r live k q none at))) (λ f. f) (cases_Bool (same_source (last_source items r) (last_source items q)))

-- The straight problem of valid items is well posed.
pub straight-well_posed : (isa : Isa) (items : List Instr) (frame : Frame) (costs : CostTable) → AreValid isa items → IsWellPosed isa (straight_problem isa items frame costs)
straight-well_posed isa items frame costs valid =
    let live : List Reg = regs_in frame.live in
    let differ : all_differ live ≡ true = regs_in-differ frame.live in
    record {
      graph = (straight-sound isa items valid).of;
      registers_differ = ap all_differ (map-map (λ (f : Reg × Source). f.0) (λ r. (r, last_source items r)) live ∙ map-id live) ∙ differ;
      values_differ = ap sources_differ (map-map (λ (f : Reg × Source). f.1) (λ r. (r, last_source items r)) live) ∙ last_sources-differ items live differ;
      made = straight-made isa items frame costs;
    }
