use Rattle.std.proofs.Common.{codes}
use Rattle.sl_isa.specs.SymbolViews.{pairs}
use Rattle.asm_reader.specs.NoteViews.{note_value}
use Rattle.asm_reader.specs.TagViews.{tag_names}
use Rattle.asm_printer.specs.Printed.{item_note}
use Rattle.asm_printer.proofs.PrintedText.{ok-map, five}
use Rattle.asm_printer.proofs.print.push_item.Goals as goal

pub returns : goal.returns
returns g c =
    ok-map c.append-3.result
    (five c.args.out.now.items (codes "        ") (g.A.Arch.language.printed (pairs c.args.names.symbols.now) c.args.item.now) (codes " // @slothy:")
    (item_note (tag_names c.args.names.tags.now) (note_value c.args.note.now) c.args.item.now) c.args.end.now
    c.append.new.out.items c.print_form.new.out.items c.append-2.new.out.items c.push_note.new.out.items c.append-3.new.out.items
    c.in_ok-append.ensures.ok c.in_ok-print_form.ensures.ok c.in_ok-append-2.ensures.ok c.in_ok-push_note.ensures)
    c.append-3.ensures.ok
