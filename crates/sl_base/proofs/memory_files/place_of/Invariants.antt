-- No file before this place has the name.
use Rattle.std.proofs.Common.{◌≡◌, drop, map}
use Rattle.sl_base.specs.Memory.{file_named}
use Rattle.sl_base.specs.Rows.{plain_file}
use Rattle.sl_base.proofs.memory_files.place_of.Given as goal

abbrev pub invariant-loop-place : goal.invariant-loop-place
invariant-loop-place l =
    file_named (map plain_file (drop l.place l.files)) l.name ≡ file_named (map plain_file l.files) l.name
