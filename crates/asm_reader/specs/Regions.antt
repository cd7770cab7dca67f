-- What holds of every region that is read.
use Rattle.std.specs.Prelude.{ℕ, ◌<◌, ◌≤◌, ◌≡◌, ◌&&◌, Bool, true, false, not, nat_lt, List, length, slice_get, Option, None, Some}
use Rattle.std.specs.List.{list_all}
use Rattle.sl_model.specs.declared.register.Reg.{Reg}
use Rattle.sl_model.specs.declared.instruction.Instr.{Instr}
use Rattle.sl_model.specs.declared.schedule.Source.TheVariants.{Entry}
use Rattle.sl_model.specs.Exec.{has_access}
use Rattle.sl_model.specs.Isa.{Isa}
use Rattle.sl_model.specs.Lawful.{AreValid}
use Rattle.sl_model.specs.Source.{item_at, list_sources}
use Rattle.sl_model.specs.Token.{is_unit_name}
use Rattle.sl_isa.specs.Language.{Language, IsNamed, AreSpelled}
use Rattle.sl_isa.specs.Symbols.{Pair}
use Rattle.asm_reader.specs.declared.reasons.Wants.{Wants}
use Rattle.asm_reader.specs.Notes.{NoteValue, is_tag}
use Rattle.asm_reader.specs.Reading.{Region}

-- Each register of each item of a list is the machine's, or has the number of a pair of its bank.
abbrev pub AreNamed : List Pair → List Instr → Type 0
AreNamed pairs items = (p : ℕ) → p < length items → IsNamed pairs (item_at items p)

-- No item of a list reads what a symbolic register held before the first one.
abbrev pub AreSet : List Instr → Type 0
AreSet items =
    (p place : ℕ) (r : Reg) → p < length items
    → slice_get (list_sources items p) place ≡ Some (Entry r) → r.symbolic ≡ false

-- Is there no tag, or one of so many, of an instruction that accesses memory?
abbrev pub is_right_tag : Bool → ℕ → Option ℕ → Bool
is_right_tag accesses count None = true
is_right_tag accesses count (Some tag) = accesses && nat_lt tag count

-- Has an instruction a right tag, and isn't it both early and late?
abbrev pub is_marked_right : Isa → ℕ → Instr → Bool
is_marked_right isa count i =
    is_right_tag (has_access (isa.info i.form)) count i.tag && not (i.early && i.late)

-- Is there no unit, or a name of one?
abbrev pub is_right_unit : Option (List ℕ) → Bool
is_right_unit None = true
is_right_unit (Some unit) = is_unit_name unit

-- Items of a region are few enough, are instructions of the set, and were read. Their symbolic
-- registers are named, and none is read before it is written. Their tags are named, and there is a
-- note for each.
pub record IsRegion (language : Language) (wants : Wants) (region : Region) : Type 0 where
  pub few : length region.items ≤ wants.limit
  pub valid : AreValid language.isa region.items
  pub spelled : AreSpelled language region.pairs region.items
  pub named : AreNamed region.pairs region.items
  pub set : AreSet region.items
  pub marks : list_all (is_marked_right language.isa (length region.tags)) region.items ≡ true
  pub names : list_all is_tag region.tags ≡ true
  pub noted : length region.notes ≡ length region.items
  pub units : list_all (λ (note : NoteValue). is_right_unit note.unit) region.notes ≡ true
