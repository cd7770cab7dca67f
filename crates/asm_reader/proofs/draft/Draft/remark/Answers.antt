use Rattle.std.specs.Vec.{with_items}
use Rattle.std.proofs.Common.{◌≡◌, ℕ, List, length, map, Option, None, ap, ◌∙◌}
use Rattle.sl_model.specs.declared.instruction.Instr.{Instr}
use Rattle.asm_reader.specs.NoteViews.{note_value, remark_value}
use Rattle.asm_reader.specs.DraftViews.{draft_value}
use Rattle.asm_reader.specs.TagViews.{tag_names}
use Rattle.asm_reader.specs.Tags.{with_tag}
use Rattle.asm_reader.specs.Notes.{NoteValue, Remark}
use Rattle.asm_reader.specs.Drafts.{Draft, with_last, marked}
use Rattle.asm_reader.specs.declared.note.Note.{Note}
use Rattle.asm_reader.proofs.LastOnes.{length_last, put_back}
use Rattle.asm_reader.proofs.Mapped.{last_map}
use Rattle.asm_reader.proofs.draft.Draft.remark.Goals as goal

pub returns : goal.returns
returns c =
    let old : Draft = draft_value c.args.self.now in
    let remark : Remark = remark_value c.args.remark.now in
    let items : c.mark_last.new.items ≡ with_last (marked old.tags remark) old.items =
    c.mark_last.ensures ∙ ap (with_last _) c.deref_mut.ensures.value ∙ ap (λ (t : Option ℕ). with_last (λ (i : Instr). record i { tag = t; early = remark.early; late = remark.late }) old.items) c.in_ok-tag.ensures.number in
    let notes : map note_value c.tell_last.new.notes ≡ with_last (λ note. remark.told) old.notes =
    ap (map note_value) (c.tell_last.ensures ∙ ap (with_last (λ note. c.args.remark.now.told)) c.deref_mut-2.ensures.value) ∙ last_map note_value c.args.remark.now.told c.args.self.now.notes.items in
    let tags : tag_names c.number_of.new.self ≡ with_tag remark.tag old.tags = c.in_ok-tag.ensures.names in
    let many : length c.mark_last.new.items ≡ length c.args.self.now.items.items = ap length items ∙ length_last (marked old.tags remark) c.args.self.now.items.items in
    let told : c.tell_last.new.notes ≡ with_last (λ note. c.args.remark.now.told) c.args.self.now.notes.items =
    c.tell_last.ensures ∙ ap (with_last (λ note. c.args.remark.now.told)) c.deref_mut-2.ensures.value in
    let each : length c.tell_last.new.notes ≡ length c.args.self.now.notes.items = ap length told ∙ length_last (λ note. c.args.remark.now.told) c.args.self.now.notes.items in
    ap (λ (is : List Instr). record old { items = is; notes = map note_value (with_items c.args.self.now.notes c.tell_last.new.notes).items; tags = tag_names c.number_of.new.self; awaiting = None })
    (put_back c.args.self.now.items.len c.mark_last.new.items c.args.self.now.items.items c.args.self.now.items.ok.0 many)
    ∙ ap (λ (ns : List Note). record old { items = c.mark_last.new.items; notes = map note_value ns; tags = tag_names c.number_of.new.self; awaiting = None })
    (put_back c.args.self.now.notes.len c.tell_last.new.notes c.args.self.now.notes.items c.args.self.now.notes.ok.0 each)
    ∙ ap (λ (is : List Instr). record old { items = is; notes = map note_value c.tell_last.new.notes; tags = tag_names c.number_of.new.self; awaiting = None }) items
    ∙ ap (λ (ns : List NoteValue). record old { items = with_last (marked old.tags remark) old.items; notes = ns; tags = tag_names c.number_of.new.self; awaiting = None }) notes
    ∙ ap (λ (ts : List (List ℕ)). record old { items = with_last (marked old.tags remark) old.items; notes = with_last (λ note. remark.told) old.notes; tags = ts; awaiting = None }) tags
