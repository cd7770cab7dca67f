-- A region of the code, as the definitions see it.
use Rattle.std.specs.Prelude.{map}
use Rattle.sl_text.specs.Cut.{parts_of}
use Rattle.sl_isa.specs.SymbolViews.{pairs}
use Rattle.asm_reader.specs.Reading.{Region}
use Rattle.asm_reader.specs.NoteViews.{note_value}
use Rattle.asm_reader.specs.TagViews.{tag_names}
use Rattle.asm_reader.specs.declared.region.Region as code

-- a region without where it lies in memory
abbrev pub region_of : code.Region → Region
region_of region = record {
  parts = parts_of region.cut;
  items = region.items.items;
  notes = map note_value region.notes.list.items;
  tags = tag_names region.tags;
  pairs = pairs region.symbols;
  mask = region.early_mask;
}
