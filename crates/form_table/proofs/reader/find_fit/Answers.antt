use Rattle.std.proofs.Common.{◌∙◌, sym, map, ◌+◌, length}
use Rattle.form_table.specs.ItemViews.{item_value}
use Rattle.form_table.proofs.Parts.{fit_here, fit_later, fit_begun}
use Rattle.form_table.proofs.reader.find_fit.Goals as goal

pub returns-in-Some : goal.returns-in-Some
returns-in-Some c =
    let t = c.args.table.now in
    fit_here 0 t.first.now _ c.args.text.now (map item_value c.args.items.now) c.in-Some.fit (sym c.in-Some.is ∙ c.fit_from.ensures)

pub returns-in-Some-fit_from : goal.returns-in-Some-fit_from
returns-in-Some-fit_from c =
    let t = c.args.table.now in
    let text = c.args.text.now in
    let items = map item_value c.args.items.now in
    fit_begun t.first.now _ text items _ (cc)
    (fit_here (length t.first.now) t.second.now _ text items c.in-Some-fit_from.fit (sym c.in-Some-fit_from.is ∙ c.fit_from-2.ensures))

pub returns-in-Some-fit_from-2 : goal.returns-in-Some-fit_from-2
returns-in-Some-fit_from-2 c =
    let t = c.args.table.now in
    let text = c.args.text.now in
    let items = map item_value c.args.items.now in
    fit_begun t.first.now _ text items _ (cc)
    (fit_later (length t.first.now) t.second.now _ text items _ (cc)
    (fit_here (length t.first.now + length t.second.now) t.third.now _ text items c.in-Some-fit_from-2.fit (sym c.in-Some-fit_from-2.is ∙ c.fit_from-3.ensures)))

pub returns : goal.returns
returns c =
    let t = c.args.table.now in
    let text = c.args.text.now in
    let items = map item_value c.args.items.now in
    fit_begun t.first.now _ text items _ (cc)
    (fit_later (length t.first.now) t.second.now _ text items _ (cc)
    (fit_later (length t.first.now + length t.second.now) t.third.now t.fourth.now text items c.fit_from-4.result (cc) c.fit_from-4.ensures))
