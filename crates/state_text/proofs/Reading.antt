-- A state file is read line by line.
use Rattle.std.proofs.Common.{◌≡◌, ℕ, List, [], ◌∷◌, None, Some, Result, Ok, Err, sym, ap, subst, ◌∙◌}
use Rattle.sl_model.specs.declared.instruction.ArchName.{ArchName}
use Rattle.sl_model.specs.State.{State}
use Rattle.state_text.specs.StateText.{going_on, with_line, with_lines}
use Rattle.state_text.specs.Views.{EntersLine, line_of}
use Rattle.state_text.specs.declared.reader.StateErr.{StateErr}
use Rattle.state_text.specs.declared.reader.StateErr.TheVariants.{StateBad, NoMemory}
use Rattle.sl_model.specs.Answers.{Gives}

pub lines_go_on : (arch : ArchName) (lines rest : List (ℕ × List ℕ)) (number : ℕ) (text : List ℕ) (s t : State) → lines ≡ (number, text) ∷ rest → with_line arch text s ≡ Some t → with_lines arch rest t ≡ with_lines arch lines s
unfolding with_lines
lines_go_on arch lines rest number text s t is entered =
    sym (ap (λ all. with_lines arch all s) is ∙ ap (λ o. going_on number o (λ u. with_lines arch rest u)) entered)

pub lines_end : (arch : ArchName) (lines : List (ℕ × List ℕ)) (s : State) → lines ≡ [] → with_lines arch lines s ≡ Ok s
unfolding with_lines
lines_end arch lines s is = ap (λ all. with_lines arch all s) is

lines_stop : (arch : ArchName) (lines rest : List (ℕ × List ℕ)) (number : ℕ) (text : List ℕ) (s : State) → lines ≡ (number, text) ∷ rest → with_line arch text s ≡ None → with_lines arch lines s ≡ Err number
unfolding with_lines
lines_stop arch lines rest number text s is bad =
    ap (λ all. with_lines arch all s) is ∙ ap (λ o. going_on number o (λ u. with_lines arch rest u)) bad

-- what stops a line stops all of them
pub line_stops : (arch : ArchName) (lines rest : List (ℕ × List ℕ)) (number : ℕ) (text : List ℕ) (s t : State) (result : Result State StateErr) (fault : StateErr) (wanted : Result State ℕ)
    → lines ≡ (number, text) ∷ rest → with_lines arch lines s ≡ wanted → result ≡ Err fault → EntersLine number (Err fault) (with_line arch text s) t → Gives line_of (λ s. s) result wanted
line_stops arch lines rest number text s t result fault wanted is all stopped enters = subst (λ r. Gives line_of (λ s. s) r wanted) (sym stopped) (by_fault fault enters)
  where
    by_fault : (fault : StateErr) → EntersLine number (Err fault) (with_line arch text s) t → Gives line_of (λ s. s) (Err fault) wanted
    by_fault (StateBad line) bad = sym all ∙ lines_stop arch lines rest number text s is bad.0 ∙ ap (λ n. Err n) (sym bad.1)
    by_fault NoMemory none = tt
