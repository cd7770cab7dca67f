-- A rounded shift right, by way of the shift that leaves one bit more.
use Rattle.std.proofs.Common.{◌≡◌, ◌∙◌, sym, ap, ℕ, ◌+◌, ◌-◌, ◌*◌, ◌/◌, ◌%◌, ◌^◌, ◌<◌, ◌≤◌, arith, pow-add}
use Rattle.std.proofs.Math.Nat.{div-div-eq-div-mul, add-div_right}
use Rattle.std.proofs.lemmas.Nat.{pow_pos}

pub rounded : (x by doubled : ℕ) → 1 ≤ by → doubled ≡ x / 2 ^ (by - 1) → doubled / 2 + doubled % 2 ≡ (x + 2 ^ by / 2) / 2 ^ by
rounded x by doubled some is =
    let e : by ≡ by - 1 + 1 = omega arith in
    let p : 0 < 2 ^ (by - 1) = pow_pos (by - 1) in
    let twice : 2 ^ by ≡ 2 ^ (by - 1) * 2 = ap (λ k. 2 ^ k) e ∙ pow-add 2 (by - 1) 1 in
    let half : 2 ^ by / 2 ≡ 2 ^ (by - 1) = omega arith in
    let more : (x + 2 ^ (by - 1)) / 2 ^ (by - 1) ≡ doubled + 1 = add-div_right x p ∙ ap (λ n. n + 1) (sym is) in
    let end : (doubled + 1) / 2 ≡ doubled / 2 + doubled % 2 = omega arith in
    sym (ap (λ n. (x + n) / 2 ^ by) half ∙ (ap (λ n. (x + 2 ^ (by - 1)) / n) twice
    ∙ (sym (div-div-eq-div-mul (x + 2 ^ (by - 1)) (2 ^ (by - 1)) 2) ∙ (ap (λ n. n / 2) more ∙ end))))
