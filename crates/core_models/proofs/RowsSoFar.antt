-- Rows that stand before those of the items that are left.
use Rattle.std.proofs.Common.{◌≡◌, ◌∙◌, ◌+◌, ◌∷◌, ◌++◌, [], ℕ, Bool, true, List, length, length-append, Option, Ok, refl, sym, ap, subst, arith}
use Rattle.std.specs.List.{list_all}
use Rattle.std.proofs.lemmas.Bool.{and_from}
use Rattle.std.proofs.lemmas.List.Folds.{list_all-append}
use Rattle.sl_model.specs.Answers.{Refuses}
use Rattle.sl_model.specs.declared.instruction.FormInfo.{FormInfo}
use Rattle.sl_model.specs.declared.schedule.CostRow.{CostRow}
use Rattle.core_text.specs.Core.{CoreTable}
use Rattle.core_models.specs.Costs.{Lacking, row_at}

-- what an item lacks goes by how many rows stand before it
pub refused-at : (core : CoreTable) (info : FormInfo) (rows : List CostRow) (place : ℕ) (lacking : Option Lacking) → length rows ≡ place
    → Refuses lacking (row_at core info place) → Refuses lacking (row_at core info (length rows))
refused-at core info rows place lacking count is = subst (λ (n : ℕ). Refuses lacking (row_at core info n)) (sym count) is

-- and so does its row
pub read-at : (core : CoreTable) (info : FormInfo) (rows : List CostRow) (place : ℕ) (row : CostRow) → length rows ≡ place → row_at core info place ≡ Ok row → row_at core info (length rows) ≡ Ok row
read-at core info rows place row count is = ap (row_at core info) count ∙ is

-- a row more
pub one-more : (rows more : List CostRow) (row : CostRow) (place : ℕ) → length rows ≡ place → more ≡ rows ++ row ∷ [] → length more ≡ place + 1
one-more rows more row place count grown =
    let grows : length more ≡ length (rows ++ row ∷ []) = ap length grown in
    let longer : length (rows ++ row ∷ []) ≡ length rows + 1 = length-append rows (row ∷ []) in
    omega arith

-- and it passes a test that all pass
pub all-pass : (test : CostRow → Bool) (rows more : List CostRow) (row : CostRow) → list_all test rows ≡ true → test row ≡ true → more ≡ rows ++ row ∷ [] → list_all test more ≡ true
all-pass test rows more row all passes grown =
    ap (list_all test) grown ∙ list_all-append test rows (row ∷ [])
    ∙ and_from (list_all test rows) (list_all test (row ∷ [])) all (and_from (test row) true passes refl)
