-- A printed number is read as the same number, if an instruction can take it.
use Rattle.std.proofs.Common.{◌≡◌, ◌∙◌, ap, ℕ, ◌^◌, ◌<◌, cond, arith}
use Rattle.std.specs.Prelude.{Some, option_and_then}
use Rattle.std.specs.Fmt.{decimal}
use Rattle.std.proofs.lemmas.Bool.{lt-ltb}
use Rattle.sl_laws.proofs.Digits.{decimal-is_read}
use Rattle.form_table.specs.Numerals.{capped, decimal_value}

capped_small : (n : ℕ) → n < 2 ^ 32 → capped n ≡ n
capped_small n h = ap (λ b. cond b n (2 ^ 32)) (lt-ltb n (2 ^ 32) h)

pub decimal_is_read : (n : ℕ) → n < 2 ^ 32 → decimal_value (decimal n) ≡ Some n
unfolding decimal_value
decimal_is_read n h =
    let wide : n < 2 ^ 64 = omega arith in
    ap (option_and_then (λ v. Some (capped v))) (decimal-is_read n wide) ∙ ap Some (capped_small n h)
