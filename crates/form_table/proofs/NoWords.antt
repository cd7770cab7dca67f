-- No words spell no instruction.
use Rattle.std.specs.Prelude.{◌≡◌, List, [], Ok}
use Rattle.sl_model.specs.declared.instruction.Instr.{Instr}
use Rattle.sl_isa.specs.Symbols.{Pair}
use Rattle.form_table.specs.Reads.{reads}
use Rattle.form_table.specs.declared.rows.Row.{Row}

pub none_of_no_words : (table : List Row) (pairs : List Pair) (i : Instr) → reads table pairs [] ≡ Ok i → ⊥
unfolding reads
none_of_no_words table pairs i e = absurd cc
