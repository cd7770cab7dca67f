-- Notes of the code, as the definitions see them.
use Rattle.std.specs.Prelude.{Option, option_map}
use Rattle.asm_reader.specs.declared.note.Note as code
use Rattle.asm_reader.specs.declared.note.Remark as remark
use Rattle.asm_reader.specs.declared.note.Said as said
use Rattle.asm_reader.specs.declared.note.Said.TheVariants.{Item, Region}
use Rattle.asm_reader.specs.UnitViews.{unit_text}
use Rattle.asm_reader.specs.WordViews.{bytes_value}
use Rattle.asm_reader.specs.Notes.{NoteValue, Remark, Said, of_item, of_region}

-- a note with the name of its unit
abbrev pub note_value : code.Note → NoteValue
note_value note = record {
  item = note.item;
  unit = option_map unit_text note.unit;
  cycle = note.cycle;
  part = note.part;
  line = note.line;
}

-- what is said of an instruction
abbrev pub remark_value : remark.Remark → Remark
remark_value r = record {
  tag = bytes_value r.tag;
  early = r.early;
  late = r.late;
  told = note_value r.told;
}

-- what one note says
abbrev pub one_said : said.Said → Said
one_said (Item r) = of_item (remark_value r)
one_said (Region mask) = of_region mask

-- what a note says, if it is there
abbrev pub said_value : Option said.Said → Option Said
said_value s = option_map one_said s
