use Rattle.std.proofs.Common.{◌≡◌, ◌++◌, codes, ap, ◌∙◌}
use Rattle.std.specs.Fmt.{decimal}
use Rattle.asm_printer.proofs.PrintedText.{match-map, labelled}
use Rattle.asm_printer.proofs.note.push_head_note.Goals as goal

pub returns : goal.returns
returns c =
    let first : c.append_labelled.new.out.items ≡ c.args.out.now.items ++ (codes " v=1 kind=straight n=" ++ decimal c.args.head.items) =
    c.in_ok-append_labelled.ensures ∙ ap (λ n. c.args.out.now.items ++ (codes " v=1 kind=straight n=" ++ decimal n)) c.from.ensures in
    let second : c.append_labelled-2.new.out.items ≡ c.append_labelled.new.out.items ++ (codes " cycles=" ++ decimal c.args.head.cycles) =
    c.in_ok-append_labelled-2.ensures ∙ ap (λ n. c.append_labelled.new.out.items ++ (codes " cycles=" ++ decimal n)) c.from-2.ensures in
    match-map _ c.append_labelled-3.result
    (λ third. labelled c.args.out.now.items (codes " v=1 kind=straight n=") (decimal c.args.head.items) (codes " cycles=") (decimal c.args.head.cycles)
    (codes " stalls=") (decimal c.args.head.stalls) c.append_labelled.new.out.items c.append_labelled-2.new.out.items
    c.append_labelled-3.new.out.items first second (third ∙ ap (λ n. c.append_labelled-2.new.out.items ++ (codes " stalls=" ++ decimal n)) c.from-3.ensures))
    c.append_labelled-3.ensures
