-- Facts about the errors of reading a whole file, by cases.
use Rattle.std.specs.Prelude.{ℕ, Result, MatchResult, ⊤}
use Rattle.sl_base.specs.declared.reading.ReadErr.{ReadErr}
use Rattle.sl_base.specs.declared.reading.ReadErr.TheVariants.{ReadFault, TooLong, NoMemory}

-- P where the file couldn't be read, and Q of the limit where it is too long
abbrev pub MatchReadErr : ReadErr → Type 0 → (ℕ → Type 0) → Type 0
MatchReadErr ReadFault P Q = P
MatchReadErr (TooLong limit) P Q = Q limit
MatchReadErr NoMemory P Q = ⊤

-- P, where the file couldn't be read
abbrev pub OnReadFault : {T : Type 0} → Result T ReadErr → Type 0 → Type 0
OnReadFault r P = MatchResult r (λ _. ⊤) (λ e. MatchReadErr e P (λ _. ⊤))

-- Q of the limit, where the file is too long
abbrev pub IfTooLong : {T : Type 0} → Result T ReadErr → (ℕ → Type 0) → Type 0
IfTooLong r Q = MatchResult r (λ _. ⊤) (λ e. MatchReadErr e ⊤ Q)

-- P, where it is another error
abbrev pub MatchOtherErr : ReadErr → Type 0 → Type 0
MatchOtherErr ReadFault P = ⊤
MatchOtherErr (TooLong limit) P = P
MatchOtherErr NoMemory P = P

-- P, unless the file couldn't be read
abbrev pub UnlessReadFault : {T : Type 0} → Result T ReadErr → Type 0 → Type 0
UnlessReadFault r P = MatchResult r (λ _. P) (λ e. MatchOtherErr e P)
