-- The code's macros, aliases and pieces, as the definitions see them.
use Rattle.std.specs.Prelude.{ℕ, List, map, Option, None, Some, option_map, Result}
use Rattle.std.specs.HashMap.{get_by_text}
use Rattle.macro_expand.specs.Filled.{Names}
use Rattle.macro_expand.specs.Source as source
use Rattle.macro_expand.specs.Expansion as spec
use Rattle.macro_expand.specs.Region as region
use Rattle.macro_expand.specs.Spelled.{spelled, names_in, alias_names}
use Rattle.macro_expand.specs.declared.expansion.What.{What}
use Rattle.macro_expand.specs.declared.expansion.What.TheVariants as what
use Rattle.macro_expand.specs.declared.expansion.Piece.{Piece}
use Rattle.macro_expand.specs.declared.expansion.Macro.{Macro}
use Rattle.macro_expand.specs.declared.expansion.Known.{Known}
use Rattle.macro_expand.specs.declared.expansion.Place.{Place}
use Rattle.macro_expand.specs.declared.reading.Open.{Open}
use Rattle.macro_expand.specs.declared.reading.Reading.{Reading}
use Rattle.macro_expand.specs.declared.reasons.ExpandErr.{ExpandErr}
use Rattle.macro_expand.specs.declared.reasons.ExpandErr.TheVariants.{Refused, NoMemory}
use Rattle.indexmap.specs.IndexMap.{IndexMap}
use Rattle.std.specs.declared.string.String.{String}

-- what stands in a row
abbrev pub what_of : What → source.What
what_of what.Row = source.Row
what_of (what.Statement parts) = source.Statement (spelled parts.items)
what_of what.Invoked = source.Invoked
what_of (what.Note note) = source.Note note.now

-- what stands on a line
abbrev pub piece_of : Piece → source.Piece
piece_of piece = record { line = piece.line; what = what_of piece.what }

-- a macro
abbrev pub macro_of : Macro → spec.Macro
macro_of m = record {
  parameters = option_map names_in m.parameters;
  body = map what_of m.body.items;
}

module _ {Y S : Type 0} where
  -- what names are macros
  abbrev pub macro_names : IndexMap (String Y) Macro S → Names spec.Macro
  macro_names macros name = option_map macro_of (get_by_text macros name)

-- what is known beside macros
abbrev pub known_of : Known → spec.Known
known_of known = record {
  aliases = alias_names known.aliases;
  spent = known.spent;
  given = map piece_of known.given.items;
}

-- the refusal that a failure is; want of memory is none
abbrev pub refusal_of : ExpandErr → Option spec.Refusal
refusal_of (Refused line reason) = Some (record { line = line; reason = reason })
refusal_of NoMemory = None

-- how a statement is read at a place
abbrev pub step_at : Place → spec.Step
step_at place =
    spec.statement (macro_names place.macros.now)
    (spec.run (macro_names place.macros.now) place.deeper) place.line

-- how a body is expanded there
abbrev pub run_at : Place → List ℕ → Names (List ℕ) → List source.What → spec.Known
    → Result spec.Known spec.Refusal
run_at place = spec.run (macro_names place.macros.now) place.deeper place.line

-- a definition whose end isn't read yet
abbrev pub open_of : Open → region.Open
open_of opened = record {
  line = opened.line;
  head = spelled opened.head.items;
  counts = opened.counts;
  bare = opened.bare;
  body = map what_of opened.body.items;
}

-- all that is known
abbrev pub reading_of : Reading → region.Reading
reading_of reading = record {
  macros = macro_names reading.macros;
  opened = option_map open_of reading.opened;
  known = known_of reading.known;
}
