-- What is always known.
use Rattle.std.proofs.Common.{◌≡◌, ℕ, List, None, Some, subst}
use Rattle.std.specs.Prelude.{MatchOption, ⊤}
use Rattle.std.specs.declared.option.Option.{Option}

-- bytes that are known are not unknown
pub told_is_known : (bytes : List ℕ) (other : Option (List ℕ)) → Some bytes ≡ None → other ≡ None
told_is_known bytes other e =
    let P : Option (List ℕ) → Type 0 = λ known. MatchOption known (other ≡ None) (λ _. ⊤) in
    subst P e tt
