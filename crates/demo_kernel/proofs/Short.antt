-- The text of a kernel isn't long.
use Rattle.std.proofs.Common.{◌≡◌, ℕ, zero, suc, ◌+◌, ◌*◌, ◌/◌, ◌%◌, ◌^◌, ◌<◌, ◌≤◌, Bool, true, false, List, [], ◌++◌, length, codes, if◌then◌else◌, eqb, arith, length-append}
use Rattle.std.specs.Fmt.{decimal}
use Rattle.itoa.proofs.Decimal.{length_wide}
use Rattle.demo_kernel.specs.Kernel.{next, drawn, begun, load, computed, kernel_line, line_at, kernel_lines, kernel_text}

number-short : (n : ℕ) → n < 2 ^ 16 → length (decimal n) ≤ 39
number-short n h = length_wide n (omega (arith, h))

begun-short : (mnemonic : List ℕ) (item : ℕ) → item ≤ 64 → length (begun mnemonic item) ≤ length mnemonic + 49
begun-short mnemonic item few =
    omega (
      arith,
      length-append (codes "        " ++ mnemonic) (codes " x" ++ decimal (4 + item % 12)),
      length-append (codes "        ") mnemonic,
      length-append (codes " x") (decimal (4 + item % 12)),
      number-short (4 + item % 12) (omega (arith, few)),
    )

load-short : (item : ℕ) → item ≤ 64 → length (load item) ≤ 200
load-short item few =
    omega (
      arith,
      begun-short (codes "ldr") item few,
      length-append (begun (codes "ldr") item) (codes ", [x0, #" ++ (decimal (8 * item) ++ codes "]\n")),
      length-append (codes ", [x0, #") (decimal (8 * item) ++ codes "]\n"),
      length-append (decimal (8 * item)) (codes "]\n"),
      number-short (8 * item) (omega (arith, few)),
    )

computed-short : (mnemonic : List ℕ) (item a b : ℕ) → length mnemonic ≤ 3 → item ≤ 64 → a < 15 → b < 15 → length (computed mnemonic item a b) ≤ 200
computed-short mnemonic item a b three few ha hb =
    omega (
      arith,
      three,
      begun-short mnemonic item few,
      length-append (begun mnemonic item) (codes ", x" ++ (decimal (1 + a) ++ (codes ", x" ++ (decimal (1 + b) ++ codes "\n")))),
      length-append (codes ", x") (decimal (1 + a) ++ (codes ", x" ++ (decimal (1 + b) ++ codes "\n"))),
      length-append (decimal (1 + a)) (codes ", x" ++ (decimal (1 + b) ++ codes "\n")),
      length-append (codes ", x") (decimal (1 + b) ++ codes "\n"),
      length-append (decimal (1 + b)) (codes "\n"),
      number-short (1 + a) (omega (arith, ha)),
      number-short (1 + b) (omega (arith, hb)),
    )

line-short : (item what a b : ℕ) → item ≤ 64 → a < 15 → b < 15 → length (kernel_line item what a b) ≤ 200
line-short item what a b few ha hb = go (eqb what 0) (eqb what 1) (eqb what 2)
  where
    go : (x y z : Bool) → length (if x then load item else (if y then computed (codes "add") item a b else (if z then computed (codes "eor") item a b else computed (codes "mul") item a b))) ≤ 200
    go true y z = load-short item few
    go false true z = computed-short (codes "add") item a b (omega arith) few ha hb
    go false false true = computed-short (codes "eor") item a b (omega arith) few ha hb
    go false false false = computed-short (codes "mul") item a b (omega arith) few ha hb

drawn-below : (g : ℕ) → drawn g 15 < 15
drawn-below g = omega arith

lines-short : (more item g : ℕ) → more + item ≤ 64 → length (kernel_lines more item g) ≤ 200 * more
unfolding kernel_lines
lines-short zero item g few = omega arith
lines-short (suc more) item g few =
    omega (
      arith,
      line-short item (drawn (next g) 4) (drawn (next (next g)) 15) (drawn (next (next (next g))) 15) (omega (arith, few)) (drawn-below (next (next g))) (drawn-below (next (next (next g)))),
      lines-short more (suc item) (next (next (next g))) (omega (arith, few)),
      length-append (line_at item g) (kernel_lines more (suc item) (next (next (next g)))),
    )

-- a kernel of at most 64 items has at most 20000 bytes
pub text-short : (key count : ℕ) → count ≤ 64 → length (kernel_text key count) ≤ 20000
unfolding kernel_text
text-short key count few =
    omega (
      arith,
      few,
      lines-short count 0 key (omega (arith, few)),
      length-append (codes "slothy_start:\n") (kernel_lines count 0 key ++ codes "slothy_end:\n"),
      length-append (kernel_lines count 0 key) (codes "slothy_end:\n"),
    )
