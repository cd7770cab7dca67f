-- What code answers beside what a definition says. Code may run out of memory, a definition
-- doesn't: so of the code's failures some are the definition's refusals, and one is want of
-- memory, of which nothing is said.
use Rattle.std.specs.Prelude.{◌≡◌, Option, None, Some, Result, Ok, Err}

-- What a function returned, seen by `view`, is the answer of a definition.
abbrev pub Answers : {X Y E : Type 0} → (X → Y) → Result X E → Result Y E → Type 0
Answers view (Ok x) answer = answer ≡ Ok (view x)
Answers view (Err refusal) answer = answer ≡ Err refusal

-- A refusal is the answer; where there is none, memory ran out.
abbrev pub Refuses : {Y E : Type 0} → Option E → Result Y E → Type 0
Refuses (Some refusal) answer = answer ≡ Err refusal
Refuses None answer = Unit {0}

-- What a function returned, seen by `view`, is the answer of a definition, unless memory ran out.
-- `refusal_of` is the refusal that a failure is, and none for want of memory.
abbrev pub Gives : {X Y F E : Type 0} → (F → Option E) → (X → Y) → Result X F → Result Y E → Type 0
Gives refusal_of view (Ok x) answer = answer ≡ Ok (view x)
Gives refusal_of view (Err failure) answer = Refuses (refusal_of failure) answer

-- A refusal is an answer; where there is none, memory ran out.
abbrev pub RefusesBy : {Y E : Type 0} → Option E → (Result Y E → Type 0) → Type 0
RefusesBy (Some refusal) IsAnswer = IsAnswer (Err refusal)
RefusesBy None IsAnswer = Unit {0}

-- The same where several answers may be right: what a function returned is one
-- of them, unless memory ran out.
abbrev pub Settles : {X Y F E : Type 0} → (F → Option E) → (X → Y) → Result X F
    → (Result Y E → Type 0) → Type 0
Settles refusal_of view (Ok x) IsAnswer = IsAnswer (Ok (view x))
Settles refusal_of view (Err failure) IsAnswer = RefusesBy (refusal_of failure) IsAnswer
