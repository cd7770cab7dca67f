-- The region of `demo`, which is made from two numbers. Source: a linear congruential generator with
-- the multiplier and the increment of MMIX (Knuth, The Art of Computer Programming, volume 2).
use Rattle.std.specs.Prelude.{ℕ, zero, suc, ◌+◌, ◌*◌, ◌/◌, ◌%◌, ◌^◌, ◌==◌, List, [], ◌++◌, codes, if◌then◌else◌}
use Rattle.std.specs.Fmt.{decimal}

-- the generator's next number
abbrev pub next : ℕ → ℕ
next g = (g * 6364136223846793005 + 1442695040888963407) % 2 ^ 64

-- what is drawn by the generator's number: a number below another
abbrev pub drawn : ℕ → ℕ → ℕ
drawn g limit = g / 2 ^ 33 % limit

-- a mnemonic, and the destination of the item of a number: x4 to x15 in turn
abbrev pub begun : List ℕ → ℕ → List ℕ
begun mnemonic item = (codes "        " ++ mnemonic) ++ (codes " x" ++ decimal (4 + item % 12))

-- a load from eight bytes of its own
abbrev pub load : ℕ → List ℕ
load item = begun (codes "ldr") item ++ (codes ", [x0, #" ++ (decimal (8 * item) ++ codes "]\n"))

-- what an item computes of two registers
abbrev pub computed : List ℕ → ℕ → ℕ → ℕ → List ℕ
computed mnemonic item a b =
    begun mnemonic item
    ++ (codes ", x" ++ (decimal (1 + a) ++ (codes ", x" ++ (decimal (1 + b) ++ codes "\n"))))

-- the line of an item, by its number and three draws: what it does, and of which registers
abbrev pub kernel_line : ℕ → ℕ → ℕ → ℕ → List ℕ
kernel_line item what a b =
    if what == 0 then load item
    else (if what == 1 then computed (codes "add") item a b
    else (if what == 2 then computed (codes "eor") item a b
    else computed (codes "mul") item a b))

-- the line of an item, by the generator's number before it
abbrev pub line_at : ℕ → ℕ → List ℕ
line_at item g =
    kernel_line item (drawn (next g) 4) (drawn (next (next g)) 15) (drawn (next (next (next g))) 15)

-- the lines of so many items, from the item of a number on
unfoldable pub kernel_lines : ℕ → ℕ → ℕ → List ℕ
kernel_lines zero item g = []
kernel_lines (suc more) item g =
    line_at item g ++ kernel_lines more (suc item) (next (next (next g)))

-- the region of a key and a number of items, between markers
unfoldable pub kernel_text : ℕ → ℕ → List ℕ
kernel_text key count =
    codes "slothy_start:\n" ++ (kernel_lines count 0 key ++ codes "slothy_end:\n")
