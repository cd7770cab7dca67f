-- The first file from this place on is the first of all, and it has the name.
use Rattle.std.proofs.Common.{◌∙◌, sym, ap}
use Rattle.std.specs.Str.{bytes_eq}
use Rattle.sl_base.proofs.Naming.{file_named-here}
use Rattle.sl_base.proofs.memory_files.place_of.Goals as goal

pub returns-then-eq : goal.returns-then-eq
returns-then-eq c =
    let test = ap (λ text. bytes_eq text c.args.name.now) (sym c.as_str.ensures.value) ∙ sym c.eq.ensures ∙ c.if-eq.true in
    sym c.loop-place.invariant ∙ file_named-here c.args.files.now c.loop-place.place c.index-files-place.result c.args.name.now
    c.loop-place-test.true c.index-files-place.is test
