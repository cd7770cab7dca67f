-- The line of `demo`. Source: this project's own command line.
use Rattle.std.specs.Prelude.{ℕ, List, ◌++◌, codes}
use Rattle.std.specs.Fmt.{decimal}

-- the line of a kernel: its key and its number of items, the stalls before and after
abbrev pub demo_line : ℕ → ℕ → ℕ → ℕ → List ℕ
demo_line key count before after =
    codes "demo key=" ++ (decimal key
    ++ (codes " n=" ++ (decimal count
    ++ (codes " before=" ++ (decimal before
    ++ (codes " after=" ++ (decimal after ++ codes "\n")))))))
