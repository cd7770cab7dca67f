-- Facts about the errors of files, by cases.
use Rattle.std.specs.Prelude.{Result, MatchResult, ⊤}
use Rattle.sl_base.specs.declared.files.ChooseErr.{ChooseErr}
use Rattle.sl_base.specs.declared.files.ChooseErr.TheVariants.{Failed, NoMemory}

-- one fact where the choice failed, another where memory ran out
abbrev pub MatchChooseErr : ChooseErr → Type 0 → Type 0 → Type 0
MatchChooseErr Failed P Q = P
MatchChooseErr NoMemory P Q = Q

-- P, where the choice failed
abbrev pub OnFailed : {T : Type 0} → Result T ChooseErr → Type 0 → Type 0
OnFailed r P = MatchResult r (λ _. ⊤) (λ e. MatchChooseErr e P ⊤)

-- P, where memory ran out
abbrev pub OnNoMemory : {T : Type 0} → Result T ChooseErr → Type 0 → Type 0
OnNoMemory r P = MatchResult r (λ _. ⊤) (λ e. MatchChooseErr e ⊤ P)
