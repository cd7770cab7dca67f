use Rattle.std.proofs.Common.{sym, subst}
use Rattle.sl_text.specs.Cut.{parts_of}
use Rattle.asm_reader.specs.DraftViews.{progress_value}
use Rattle.asm_reader.specs.Regions.{IsRegion}
use Rattle.asm_reader.proofs.Kept.{is_region}
use Rattle.asm_reader.proofs.region.read_region.Goals as goal

pub returns-clause-right : goal.returns-clause-right
returns-clause-right g c =
    subst (IsRegion g.A.Arch.language c.args.wants) (sym c.region_from.ensures)
    (is_region g.A.Arch.language g.met.A.Arch.lawful c.args.wants (parts_of c.in_ok-cut.cut) _ (progress_value c.in_ok-read.read) c.in_ok-read.ensures)
