use Rattle.std.proofs.Common.{length, ap, sym, ◌∙◌}
use Rattle.std.specs.List.{list_all}
use Rattle.std.proofs.lemmas.Bool.{and_from}
use Rattle.asm_reader.specs.Notes.{NoteValue}
use Rattle.asm_reader.specs.Regions.{is_right_unit}
use Rattle.asm_printer.specs.Printed.{is_whole, is_whole_head}
use Rattle.slothy_cli.specs.Plan as spec
use Rattle.slothy_cli.proofs.plan.plan_of.Goals as goal

pub returns-clause-whole : goal.returns-clause-whole
returns-clause-whole c =
    and_from (is_whole_head (spec.head_of (length c.args.schedule.now) c.args.times.now.count c.args.times.now.stalls))
    (list_all is_whole (spec.notes_of c.args.core.now c.args.items.now c.args.schedule.now c.args.times.now.cycles.items)) c.head_of.ensures.whole
    (ap (λ cycles. list_all is_whole (spec.notes_of c.args.core.now c.args.items.now c.args.schedule.now cycles)) (sym c.deref.ensures.value) ∙ c.in_ok-push_notes.ensures.whole)

pub returns-clause-named : goal.returns-clause-named
returns-clause-named c =
    ap (λ cycles. list_all (λ (note : NoteValue). is_right_unit note.unit) (spec.notes_of c.args.core.now c.args.items.now c.args.schedule.now cycles)) (sym c.deref.ensures.value) ∙ c.in_ok-push_notes.ensures.named
