-- The cycles of what was issued.
use Rattle.std.proofs.Common.{◌≡◌, ℕ, suc, ◌+◌, List, [], ◌∷◌, length, refl, ◌∙◌, arith}
use Rattle.std.proofs.lemmas.List.{length_push}
use Rattle.sl_model.specs.declared.schedule.Choice.{Choice}
use Rattle.sl_model.specs.declared.schedule.Source.{Source}
use Rattle.sl_model.specs.Cycles.{Issued, CostTable, cycles_of, issue, push_of, timed_from}

-- each item issued has a cycle
pub length-cycles_of : (done : List Issued) → length (cycles_of done) ≡ length done
length-cycles_of [] = refl
length-cycles_of (i ∷ done) = length_push (cycles_of done) i.cycle ∙ (let earlier : length (cycles_of done) ≡ length done = length-cycles_of done in omega arith)

-- each choice is issued
pub length-timed : (costs : CostTable) (sources : ℕ → List Source) (choices : List Choice) (done : List Issued) (rest : List Choice)
    → length (timed_from costs sources choices done rest) ≡ length done + length rest
unfolding timed_from
length-timed costs sources choices done [] = omega arith
length-timed costs sources choices done (c ∷ rest) =
    let more : length (timed_from costs sources (c ∷ choices) (issue (push_of costs (sources c.item) choices done c) done ∷ done) rest) ≡ suc (length done) + length rest =
    length-timed costs sources (c ∷ choices) (issue (push_of costs (sources c.item) choices done c) done ∷ done) rest in
    omega arith
