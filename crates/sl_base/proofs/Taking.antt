-- What a sink takes in two steps.
use Rattle.std.proofs.Common.{◌≡◌, ℕ, ◌+◌, ◌-◌, List, ◌++◌, length, take, drop, None, Some, refl, sym, ap, ◌∙◌, append_assoc}
use Rattle.std.proofs.Math.Seq.{take-add}
use Rattle.std.proofs.lemmas.List.{take_rest}
use Rattle.std.specs.Io.KnownBytes.{append_known}
use Rattle.std.specs.declared.option.Option.{Option}

-- the first bytes, and then the first of the rest, are the first of all
pub take-more : (bytes : List ℕ) (sent n : ℕ)
    → take sent bytes ++ take n (take (length bytes - sent) (drop sent bytes)) ≡ take (sent + n) bytes
take-more bytes sent n = ap (λ l. take sent bytes ++ take n l) (take_rest bytes sent) ∙ sym (take-add sent n bytes)

-- known bytes that grew twice
pub append_known-twice : (known : Option (List ℕ)) (xs ys : List ℕ) → append_known (append_known known xs) ys ≡ append_known known (xs ++ ys)
append_known-twice None xs ys = refl
append_known-twice (Some bytes) xs ys = ap Some (append_assoc bytes xs ys)

-- what was taken of the first bytes, and then of the rest, is what is taken of all
pub append_known-more : (before now new : Option (List ℕ)) (bytes : List ℕ) (sent n : ℕ)
    → now ≡ append_known before (take sent bytes)
    → new ≡ append_known now (take n (take (length bytes - sent) (drop sent bytes)))
    → new ≡ append_known before (take (sent + n) bytes)
append_known-more before now new bytes sent n first second =
    let piece : List ℕ = take n (take (length bytes - sent) (drop sent bytes)) in
    second ∙ ap (λ o. append_known o piece) first ∙ append_known-twice before (take sent bytes) piece
    ∙ ap (append_known before) (take-more bytes sent n)
