-- How a schedule is applied choice by choice.
use Rattle.std.proofs.Common.{◌≡◌, append_assoc, ℕ, ◌+◌, ◌<◌, ◌≤◌, List, [], ◌∷◌, ◌++◌, take, drop, reverse, length, get_or, sym, ap, ◌∙◌}
use Rattle.std.proofs.lemmas.List.{append-nil, drop_all, drop_more}
use Rattle.sl_model.specs.declared.instruction.Instr.{Instr}
use Rattle.sl_model.specs.declared.schedule.Choice.{Choice}
use Rattle.sl_model.specs.Body.{Body, applied_item, applied_from, applied}
use Rattle.sl_laws.proofs.Elements.{reverse_take-more}

-- one more choice is applied
pub applied-more : (body : Body) (schedule : List Choice) (place : ℕ) (d : Choice) → place < length schedule
    → applied_from body (reverse (take place schedule)) (drop place schedule)
    ≡ applied_item body (reverse (take place schedule)) (get_or schedule place d) ∷ applied_from body (reverse (take (place + 1) schedule)) (drop (place + 1) schedule)
unfolding applied_from
applied-more body schedule place d within =
    ap (applied_from body (reverse (take place schedule))) (drop_more schedule place d within)
    ∙ ap (λ done. applied_item body (reverse (take place schedule)) (get_or schedule place d) ∷ applied_from body done (drop (place + 1) schedule)) (sym (reverse_take-more schedule place d within))

-- where nothing is left, all is applied
pub applied-all : (body : Body) (schedule : List Choice) (n : ℕ) (items : List Instr) → length schedule ≤ n
    → items ++ applied_from body (reverse (take n schedule)) (drop n schedule) ≡ applied body schedule → items ≡ applied body schedule
unfolding applied_from
applied-all body schedule n items past so_far =
    sym (append-nil items) ∙ ap (λ rest. items ++ applied_from body (reverse (take n schedule)) rest) (sym (drop_all n schedule past)) ∙ so_far

-- with one more item pushed, what is left is as much less
pub pushed-more : (body : Body) (schedule : List Choice) (place : ℕ) (d : Choice) (items more : List Instr) (instr : Instr) → place < length schedule
    → more ≡ items ++ instr ∷ [] → instr ≡ applied_item body (reverse (take place schedule)) (get_or schedule place d)
    → more ++ applied_from body (reverse (take (place + 1) schedule)) (drop (place + 1) schedule) ≡ items ++ applied_from body (reverse (take place schedule)) (drop place schedule)
pushed-more body schedule place d items more instr within pushed is =
    let rest : List Instr = applied_from body (reverse (take (place + 1) schedule)) (drop (place + 1) schedule) in
    ap (λ list. list ++ rest) pushed ∙ append_assoc items (instr ∷ []) rest ∙ ap (λ i. items ++ i ∷ rest) is ∙ ap (λ list. items ++ list) (sym (applied-more body schedule place d within))
