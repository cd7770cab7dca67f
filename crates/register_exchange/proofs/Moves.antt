-- Stalls are those of the items and units alone.
use Rattle.std.proofs.Common.{◌≡◌, ℕ, suc, ◌+◌, max, ◌&&◌, ◌||◌, eqb, cond, List, [], ◌∷◌, ◌++◌, map, length, reverse, refl, sym, ap, ◌∙◌, append_assoc}
use Rattle.std.proofs.lemmas.List.{append-nil, reverse-append}
use Rattle.sl_model.specs.declared.schedule.Choice.{Choice}
use Rattle.sl_model.specs.declared.schedule.Source.{Source}
use Rattle.sl_model.specs.declared.schedule.Source.TheVariants.{Entry, Item}
use Rattle.sl_model.specs.Cycles.{CostTable, Issued, stalls, issue, push_of, row_of, cycle_of, ready_at, ready_after, ready_from, timed_from, timed}
use Rattle.sl_model.specs.Body.{is_placed, is_full}
use Rattle.sl_model.specs.Legal.{Problem, sources_in}
use Rattle.sl_model.specs.Space.{stalls_of}
use Rattle.register_exchange.specs.AsGood.{move}
use Rattle.register_exchange.proofs.Swaps.{swap_choice}
use Rattle.sl_model.specs.declared.register.Reg.{Reg}

-- a choice without its registers
abbrev pub bare_move : ℕ × ℕ → Choice
bare_move m = record { item = m.0; unit = m.1; outs = [] }

-- the same of a choice
abbrev pub bare : Choice → Choice
bare c = bare_move (move c)

-- so it is of lists
pub bare-moves : (xs : List Choice) → map bare xs ≡ map bare_move (map move xs)
bare-moves [] = refl
bare-moves (c ∷ xs) = ap (λ ys. bare c ∷ ys) (bare-moves xs)

-- cycles ask for no registers
pub cycle-bare : (item : ℕ) (choices : List Choice) (done : List Issued) → cycle_of item (map bare choices) done ≡ cycle_of item choices done
unfolding cycle_of
cycle-bare item [] done = refl
cycle-bare item (c ∷ choices) [] = refl
cycle-bare item (c ∷ choices) (i ∷ done) = ap (λ t. cond (eqb c.item item) i.cycle t) (cycle-bare item choices done)

module _ (costs : CostTable) where
  -- nor does when a source is ready
  pub ready_at-bare : (choices : List Choice) (done : List Issued) (to operand : ℕ) (s : Source) → ready_at costs (map bare choices) done to operand s ≡ ready_at costs choices done to operand s
  ready_at-bare choices done to operand (Entry r) = refl
  ready_at-bare choices done to operand (Item from place) = ap (λ n. n + ready_after costs from place to operand) (cycle-bare from choices done)

  ready_from-bare : (choices : List Choice) (done : List Issued) (to operand : ℕ) (sources : List Source) → ready_from costs (map bare choices) done to operand sources ≡ ready_from costs choices done to operand sources
  unfolding ready_from
  ready_from-bare choices done to operand [] = refl
  ready_from-bare choices done to operand (s ∷ sources) =
      let first = ready_at-bare choices done to operand s in
      let rest = ready_from-bare choices done to (operand + 1) sources in
      λ i. max (first i) (rest i)

  timed-bare : (sources : ℕ → List Source) (choices : List Choice) (done : List Issued) (rest : List Choice)
      → timed_from costs sources (map bare choices) done (map bare rest) ≡ timed_from costs sources choices done rest
  unfolding timed_from
  timed-bare sources choices done [] = refl
  timed-bare sources choices done (c ∷ rest) =
      ap (λ n. timed_from costs sources (map bare (c ∷ choices)) (issue (record { width = costs.width; unit = c.unit; busy = (row_of costs c.item).busy; ready = n }) done ∷ done) (map bare rest))
      (ready_from-bare choices done c.item 0 (sources c.item))
      ∙ timed-bare sources (c ∷ choices) (issue (push_of costs (sources c.item) choices done c) done ∷ done) rest

  -- Lists with the same items and units are issued alike.
  pub timed-moves : (sources : ℕ → List Source) (xs ys : List Choice) → map move xs ≡ map move ys → timed costs sources xs ≡ timed costs sources ys
  timed-moves sources xs ys e =
      sym (timed-bare sources [] [] xs) ∙ ap (timed_from costs sources [] []) (bare-moves xs ∙ ap (map bare_move) e ∙ sym (bare-moves ys)) ∙ timed-bare sources [] [] ys

-- So they have the same stalls,
pub stalls-moves : (problem : Problem) (xs ys : List Choice) → map move xs ≡ map move ys → stalls_of problem xs ≡ stalls_of problem ys
stalls-moves problem xs ys e = ap (stalls problem.costs.width) (timed-moves problem.costs (sources_in problem) xs ys e)

-- and length,
pub length-moves : (xs ys : List Choice) → map move xs ≡ map move ys → length xs ≡ length ys
length-moves xs ys e = sym (long xs) ∙ ap length e ∙ long ys
  where
    long : (xs : List Choice) → length (map move xs) ≡ length xs
    long [] = refl
    long (c ∷ xs) = ap suc (long xs)

-- A change of names keeps items and units.
pub moves-swap : (a b : Reg) (xs : List Choice) → map move (map (swap_choice a b) xs) ≡ map move xs
moves-swap a b [] = refl
moves-swap a b (c ∷ xs) = ap (λ ys. move c ∷ ys) (moves-swap a b xs)

-- the choices made, the last first, after others
abbrev pub run_on : List Choice → List Choice → List Choice
run_on done [] = done
run_on done (c ∷ rest) = run_on (c ∷ done) rest

run_on-is : (done rest : List Choice) → run_on done rest ≡ reverse rest ++ done
run_on-is done [] = refl
run_on-is done (c ∷ rest) = run_on-is (c ∷ done) rest ∙ sym (ap (λ xs. xs ++ done) (reverse-append (c ∷ []) rest) ∙ append_assoc (reverse rest) (c ∷ []) done)

-- after none they are the list turned round
pub run_on-none : (rest : List Choice) → run_on [] rest ≡ reverse rest
run_on-none rest = run_on-is [] rest ∙ append-nil (reverse rest)

placed-bare : (p : ℕ) (xs : List Choice) → is_placed (map bare xs) p ≡ is_placed xs p
unfolding is_placed
placed-bare p [] = refl
placed-bare p (c ∷ xs) = ap (λ t. eqb c.item p || t) (placed-bare p xs)

-- They place the same items,
pub placed-moves : (p : ℕ) (xs ys : List Choice) → map move xs ≡ map move ys → is_placed xs p ≡ is_placed ys p
placed-moves p xs ys e = sym (placed-bare p xs) ∙ ap (λ cs. is_placed cs p) (bare-moves xs ∙ ap (map bare_move) e ∙ sym (bare-moves ys)) ∙ placed-bare p ys

-- and are full together.
pub full-moves : (order : List ℕ) (xs ys : List Choice) → map move xs ≡ map move ys → is_full order xs ≡ is_full order ys
full-moves [] xs ys e = refl
full-moves (p ∷ order) xs ys e =
    let first = placed-moves p xs ys e in
    let rest = full-moves order xs ys e in
    λ i. first i && rest i
