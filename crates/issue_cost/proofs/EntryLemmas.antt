-- Entries counted one behind the other: a push, a pop, the last one, and by when all is free.
use Rattle.std.proofs.Common.{◌≡◌, ℕ, suc, ◌+◌, ◌-◌, ◌*◌, ◌^◌, ◌<◌, ◌≤◌, List, [], ◌∷◌, ◌++◌, length, map, Option, None, Some, IfSome, false, option_to_list, get_or, take, drop, take-suc, refl, sym, ◌∙◌, ap, subst, arith}
use Rattle.std.proofs.lemmas.List.{map-append, length-map, take-append-drop, take-map, length-take-le}
use Rattle.std.proofs.lemmas.Bool.{eqb-false}
use Rattle.sl_model.specs.Cycles.{Issued, issue, issued_from, issued, is_place}
use Rattle.issue_cost.specs.declared.issue.Entry.{Entry}
use Rattle.issue_cost.specs.Timeline.{IsFreeBy, start_from}
use Rattle.issue_cost.specs.Entries.{pushed, IsCounted, AreCounted}
use Rattle.issue_cost.specs.Tallies.{Tallies}
use Rattle.issue_cost.proofs.IssueRule.{next_cycle-within, IsFreeBy-weaken, issued_from-push, start-more}

-- one more entry, counted behind the others
pub AreCounted-push : (done : List Issued) (entries : List Entry) (e : Entry) → AreCounted done entries → IsCounted (issued_from done (map pushed entries)) e → AreCounted done (entries ++ e ∷ [])
unfolding AreCounted issued_from
AreCounted-push done [] e counted last = (last, tt)
AreCounted-push done (x ∷ entries) e counted last = (counted.0, AreCounted-push (issue (pushed x) done ∷ done) entries e counted.1 last)

-- the last entry is counted behind the others
pub AreCounted-last : (done : List Issued) (entries : List Entry) (e : Entry) → AreCounted done (entries ++ e ∷ []) → IsCounted (issued_from done (map pushed entries)) e
unfolding AreCounted issued_from
AreCounted-last done [] e counted = counted.0
AreCounted-last done (x ∷ entries) e counted = AreCounted-last (issue (pushed x) done ∷ done) entries e counted.1

-- the first ones are counted without the others
pub AreCounted-front : (done : List Issued) (front rest : List Entry) → AreCounted done (front ++ rest) → AreCounted done front
unfolding AreCounted
AreCounted-front done [] rest counted = tt
AreCounted-front done (x ∷ front) rest counted = (counted.0, AreCounted-front (issue (pushed x) done ∷ done) front rest counted.1)

-- the pushes of some entries and one more
pushed-push : (entries : List Entry) (e : Entry) → map pushed (entries ++ e ∷ []) ≡ map pushed entries ++ pushed e ∷ []
pushed-push entries e = map-append pushed entries (e ∷ [])

-- what is issued with one more entry
pub issued-push : (entries : List Entry) (e : Entry) → issued (map pushed (entries ++ e ∷ [])) ≡ issue (pushed e) (issued (map pushed entries)) ∷ issued (map pushed entries)
issued-push entries e =
    ap (λ pushes. issued_from [] pushes) (pushed-push entries e) ∙ issued_from-push [] (map pushed entries) (pushed e)

-- the first entries are counted without the others
pub AreCounted-take : (count : ℕ) (entries : List Entry) → AreCounted [] entries → AreCounted [] (take count entries)
AreCounted-take count entries counted =
    AreCounted-front [] (take count entries) (drop count entries) (subst (AreCounted []) (sym (take-append-drop count entries)) counted)

-- an entry's tally is that of the items up to it
AreCounted-tally : (entries : List Entry) (k : ℕ) (d : Entry) → AreCounted [] entries → k < length entries → Tallies (issued (map pushed (take (suc k) entries))) (get_or entries k d).tally
AreCounted-tally entries k d counted within =
    let last : Entry = get_or entries k d in
    let front : List Entry = take k entries in
    let split : take (suc k) entries ≡ front ++ last ∷ [] = take-suc entries k d within in
    let counted_last : IsCounted (issued_from [] (map pushed front)) last = AreCounted-last [] front last (subst (λ xs. AreCounted [] xs) split (AreCounted-take (suc k) entries counted)) in
    let all : issued_from [] (map pushed (take (suc k) entries)) ≡ issue (pushed last) (issued_from [] (map pushed front)) ∷ issued_from [] (map pushed front) =
    ap (λ xs. issued_from [] (map pushed xs)) split
    ∙ ap (λ pushes. issued_from [] pushes) (pushed-push front last)
    ∙ issued_from-push [] (map pushed front) (pushed last) in
    subst (λ done. Tallies done last.tally) (sym all) counted_last.tally

-- the tally of the first items is that of the last of their entries
pub first-tally : (count : ℕ) (entries : List Entry) (d : Entry) → AreCounted [] entries → 0 < count → count ≤ length entries → Tallies (issued (take count (map pushed entries))) (get_or entries (count - 1) d).tally
first-tally count entries d counted some within =
    let k : ℕ = count - 1 in
    let is : suc k ≡ count = omega arith in
    let inside : k < length entries = omega arith in
    subst (λ n. Tallies (issued (take n (map pushed entries))) (get_or entries k d).tally) is
    (subst (λ pushes. Tallies (issued pushes) (get_or entries k d).tally) (sym (take-map pushed (suc k) entries)) (AreCounted-tally entries k d counted inside))

-- all is free at most 256 cycles later with each entry
pub AreCounted-free_by : (done : List Issued) (entries : List Entry) (k : ℕ) → length done ≡ k → AreCounted done entries → IsFreeBy (2 ^ 30 + 256 * k) done → IsFreeBy (2 ^ 30 + 256 * (k + length entries)) (issued_from done (map pushed entries))
unfolding AreCounted issued_from
AreCounted-free_by done [] k len counted by = IsFreeBy-weaken (2 ^ 30 + 256 * k) (2 ^ 30 + 256 * (k + 0)) done (omega arith) by
AreCounted-free_by done (x ∷ entries) k len counted by =
    let ready : x.ready ≤ 2 ^ 30 + 256 * length done = counted.0.ready_fits in
    let soon : x.ready ≤ 2 ^ 30 + 256 * k = omega arith in
    let busy : x.busy ≤ 255 = counted.0.busy_fits in
    let i : Issued = issue (pushed x) done in
    let cycle : i.cycle ≤ 2 ^ 30 + 256 * k = next_cycle-within x.width x.unit x.ready (2 ^ 30 + 256 * k) done by soon in
    let more : IsFreeBy (2 ^ 30 + 256 * (k + 1)) (i ∷ done) = (omega arith, omega arith, IsFreeBy-weaken (2 ^ 30 + 256 * k) (2 ^ 30 + 256 * (k + 1)) done (omega arith) by) in
    let longer : length (i ∷ done) ≡ k + 1 = omega arith in
    let all : IsFreeBy (2 ^ 30 + 256 * (k + 1 + length entries)) (issued_from (i ∷ done) (map pushed entries)) = AreCounted-free_by (i ∷ done) entries (k + 1) longer counted.1 more in
    IsFreeBy-weaken (2 ^ 30 + 256 * (k + 1 + length entries)) (2 ^ 30 + 256 * (k + suc (length entries))) (issued_from (i ∷ done) (map pushed entries)) (omega arith) all

-- all is free at most 256 cycles after the greatest ready one with each entry
pub all_free_by : (entries : List Entry) → AreCounted [] entries → IsFreeBy (2 ^ 30 + 256 * length entries) (issued (map pushed entries))
all_free_by entries counted =
    IsFreeBy-weaken (2 ^ 30 + 256 * (0 + length entries)) (2 ^ 30 + 256 * length entries) (issued (map pushed entries)) (omega arith)
    (AreCounted-free_by [] entries 0 refl counted tt)

-- and with each of the first ones
pub first-free_by : (count : ℕ) (entries : List Entry) → AreCounted [] entries → count ≤ length entries → IsFreeBy (2 ^ 30 + 256 * count) (issued (take count (map pushed entries)))
first-free_by count entries counted within =
    let len : length (take count entries) ≡ count = length-take-le count entries within in
    subst (λ n. IsFreeBy (2 ^ 30 + 256 * n) (issued (take count (map pushed entries)))) len
    (subst (λ pushes. IsFreeBy (2 ^ 30 + 256 * length (take count entries)) (issued pushes)) (sym (take-map pushed count entries))
    (all_free_by (take count entries) (AreCounted-take count entries counted)))

-- a break that isn't behind the last of some entries stands behind as many as one entry less leaves
pub break_within-pop : (pass : Option ℕ) (n len : ℕ) → IfSome pass (λ place. place ≤ n) → is_place pass n ≡ false → n ≤ len + 1 → IfSome pass (λ place. place ≤ len)
break_within-pop None n len within elsewhere less = tt
break_within-pop (Some place) n len within elsewhere less =
    let other : place ≡ n → ⊥ = eqb-false place n elsewhere in
    omega (arith, within)

-- and behind as many with one entry more
pub break_within-push : (pass : Option ℕ) (n len : ℕ) → IfSome pass (λ place. place ≤ n) → n ≤ len → IfSome pass (λ place. place ≤ len)
break_within-push None n len within more = tt
break_within-push (Some place) n len within more = omega (arith, within)

-- one more entry moves no start
pub start-entry : (entries : List Entry) (e : Entry) (pass : Option ℕ) → IfSome pass (λ place. place ≤ length entries) → start_from (map pushed (entries ++ e ∷ [])) pass ≡ start_from (map pushed entries) pass
start-entry entries e pass within =
    ap (λ pushes. start_from pushes pass) (pushed-push entries e)
    ∙ start-more (map pushed entries) (pushed e) pass (subst (λ n. IfSome pass (λ place. place ≤ n)) (sym (length-map entries pushed)) within)

-- an entry, or none, is at most one
pub at_most_one : (e : Option Entry) → length (option_to_list e) ≤ 1
at_most_one None = omega arith
at_most_one (Some e) = omega arith
