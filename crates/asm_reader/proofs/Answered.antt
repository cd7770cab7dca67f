-- What holds where steps of reading answer with a value, and how many items they add.
use Rattle.std.proofs.Common.{◌≡◌, ℕ, ◌+◌, ◌*◌, ◌≤◌, Bool, true, false, cond, nat_lt, is_some, [], ◌∷◌, length, length-append, Option, None, Some, Result, Ok, Err, refl, ap, ◌∙◌, sym, arith}
use Rattle.std.specs.Result.{OnOk}
use Rattle.sl_model.specs.declared.instruction.Instr.{Instr}
use Rattle.sl_model.specs.Exec.{has_access}
use Rattle.sl_model.specs.Isa.{Isa}
use Rattle.sl_model.specs.ResultSteps.{◌>>=◌}
use Rattle.asm_reader.specs.declared.reasons.Reason.{Reason}
use Rattle.asm_reader.specs.declared.reasons.ReadRefusal.{ReadRefusal}
use Rattle.asm_reader.specs.declared.reasons.Refusal.{Refusal}
use Rattle.asm_reader.specs.declared.reasons.Wants.{Wants}
use Rattle.asm_reader.specs.DraftViews.{Leaves}
use Rattle.asm_reader.specs.Notes.{Said, of_item, of_region}
use Rattle.asm_reader.specs.Drafts.{Draft, longer, most_items, with_item, with_said, marked, may_say, may_stand, with_note, with_noted, with_parts}
use Rattle.asm_reader.specs.Reading.{unless_at}
use Rattle.asm_reader.proofs.LastOnes.{length_last}

-- what one more item gives
pub taken : {A : Type 0} (room : Bool) (full : Refusal) (next more : A) → cond room (Ok next) (Err full) ≡ Ok more → (room ≡ true) × (next ≡ more)
taken false full next more e = cc
taken true full next more e = let same : next ≡ more = cc in (refl, same)

-- both steps of a chain that is read were read
pub chain_read : {A B : Type 0} (r : Result A Refusal) (f : A → Result B Refusal) (y : B) → (r >>= f) ≡ Ok y → (x : A) × ((r ≡ Ok x) × (f x ≡ Ok y))
chain_read (Ok x) f y e = (x, (refl, e))
chain_read (Err refusal) f y e = cc

-- what is answered where a test holds, was answered since it does
pub held : {A : Type 0} (b : Bool) (answer : Result A Refusal) (refusal : Refusal) (y : A) → cond b answer (Err refusal) ≡ Ok y → (b ≡ true) × (answer ≡ Ok y)
held true answer refusal y e = (refl, e)
held false answer refusal y e = cc

-- what is answered where no line is to be refused
pub kept_at : {A : Type 0} (reason : Reason) (line : Option ℕ) (x y : A) → unless_at reason line x ≡ Ok y → (line ≡ None) × (x ≡ y)
kept_at reason None x y e = let same : x ≡ y = cc in (refl, same)
kept_at reason (Some line) x y e = cc

-- ---- how many items there are

-- a note adds none
count_said : (draft : Draft) (said : Option Said) → length (with_said draft said).items ≡ length draft.items
count_said draft None = refl
count_said draft (Some (of_item remark)) = length_last (marked draft.tags remark) draft.items
count_said draft (Some (of_region mask)) = refl

count_note : (line : ℕ) (draft more : Draft) (said : Option Said) → with_note line draft said ≡ Ok more → length more.items ≡ length draft.items
count_note line draft more said e =
    let so = held (may_stand line draft said) (Ok (with_said draft said)) _ more e in
    let same : with_said draft said ≡ more = cc in
    ap (λ (d : Draft). length d.items) (sym same) ∙ count_said draft said

-- an instruction is one
count_noted : (wants : Wants) (accesses : Bool) (line : ℕ) (draft more : Draft) (said : Option Said) (i : Instr) → with_noted wants accesses line draft said i ≡ Ok more → length more.items ≡ length draft.items + 1
count_noted wants accesses line draft more said i e =
    let so = held (may_say accesses said) (with_item wants accesses line draft i >>= λ d. Ok (with_said d said)) _ more e in
    let steps = chain_read (with_item wants accesses line draft i) (λ d. Ok (with_said d said)) more so.1 in
    let pushed = taken (nat_lt (length draft.items) (most_items wants)) _ (longer accesses line draft i) steps.0 steps.1.0 in
    let same : with_said steps.0 said ≡ more = cc in
    ap (λ (d : Draft). length d.items) (sym same) ∙ count_said steps.0 said ∙ ap (λ (d : Draft). length d.items) (sym pushed.1)
    ∙ length-append draft.items (record i { line = line } ∷ [])

pub count_parts : (isa : Isa) (wants : Wants) (line : ℕ) (draft more : Draft) (said : Option Said) (instr : Option Instr) → with_parts isa wants line draft said instr ≡ Ok more
    → length more.items ≡ length draft.items + cond (is_some instr) 1 0
count_parts isa wants line draft more said None e =
    let none : length draft.items + 0 ≡ length draft.items = omega arith in
    count_note line draft more said e ∙ sym none
count_parts isa wants line draft more said (Some i) e = count_noted wants (has_access (isa.info i.form)) line draft more said i e

-- so seven names for each are enough
seven : (some : Bool) (old new items more : ℕ) → new ≤ old + cond some 7 0 → old ≤ 7 * items → more ≡ items + cond some 1 0 → new ≤ 7 * more
seven true old new items more few kept count = omega arith
seven false old new items more few kept count = omega arith

pub few_names : {X : Type 0} (result : Result X ReadRefusal) (isa : Isa) (wants : Wants) (line : ℕ) (draft more : Draft) (said : Option Said) (instr : Option Instr) (old new : ℕ)
    → new ≤ old + cond (is_some instr) 7 0 → old ≤ 7 * length draft.items → Leaves result more (with_parts isa wants line draft said instr) → OnOk result (new ≤ 7 * length more.items)
few_names (Ok x) isa wants line draft more said instr old new few kept left =
    seven (is_some instr) old new (length draft.items) (length more.items) few kept (count_parts isa wants line draft more said instr left)
few_names (Err failure) isa wants line draft more said instr old new few kept left = tt
