-- The lines of a kernel, one after the other.
use Rattle.std.proofs.Common.{◌≡◌, ℕ, zero, suc, ◌+◌, List, ◌++◌, Result, Ok, Err, refl, sym, ap, ◌∙◌, subst, append_assoc}
use Rattle.std.specs.Prelude.{OnOk}
use Rattle.demo_kernel.specs.Kernel.{next, drawn, kernel_line, line_at, kernel_lines}

-- the first line, and those behind it
lines-step : (text : List ℕ) (rest item g : ℕ) → (text ++ line_at item g) ++ kernel_lines rest (suc item) (next (next (next g))) ≡ text ++ kernel_lines (suc rest) item g
unfolding kernel_lines
lines-step text rest item g = append_assoc text (line_at item g) (kernel_lines rest (suc item) (next (next (next g))))

-- the line of what was drawn
pub line-drawn : (item g k a b what first second : ℕ) → k ≡ next g → a ≡ next k → b ≡ next a → what ≡ drawn k 4 → first ≡ drawn a 15 → second ≡ drawn b 15
    → kernel_line item what first second ≡ line_at item g
line-drawn item g k a b what first second hk ha hb hw hf hs = cc

-- a text behind which the first line and the others were put
pub lines-pushed : {T E : Type 0} (r : Result T E) (out mid new : List ℕ) (more rest item after g last : ℕ) → more ≡ suc rest → after ≡ suc item → last ≡ next (next (next g))
    → mid ≡ out ++ line_at item g → OnOk r (new ≡ mid ++ kernel_lines rest after last) → OnOk r (new ≡ out ++ kernel_lines more item g)
lines-pushed (Ok x) out mid new more rest item after g last hm ha hl hmid h =
    h ∙ ap (λ m. m ++ kernel_lines rest after last) hmid
    ∙ ap (λ a. (out ++ line_at item g) ++ kernel_lines rest a last) ha
    ∙ ap (λ l. (out ++ line_at item g) ++ kernel_lines rest (suc item) l) hl
    ∙ lines-step out rest item g
    ∙ ap (λ m. out ++ kernel_lines m item g) (sym hm)
lines-pushed (Err e) out mid new more rest item after g last hm ha hl hmid h = tt
