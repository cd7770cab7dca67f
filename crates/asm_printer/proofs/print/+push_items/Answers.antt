use Rattle.std.proofs.Common.{ℕ, ◌<◌, length, rules}
use Rattle.sl_model.specs.Source.{item_at}
use Rattle.sl_model.specs.Lawful.{IsValid}
use Rattle.sl_isa.specs.Language.{IsNamed}
use Rattle.sl_isa.specs.SymbolViews.{pairs}
use Rattle.sl_laws.proofs.Valid.{valid-rest}
use Rattle.asm_printer.proofs.Concrete.{named-rest}
use Rattle.asm_printer.proofs.print.+push_items.Goals as goal

pub push_items-requires : goal.push_items-requires
push_items-requires g t c =
    let rest : (p : ℕ) → p < length c.in-Some.items.now → IsValid g.A.Arch.language.isa (item_at c.in-Some.items.now p) =
    valid-rest g.A.Arch.language.isa c.in-Some.item.now c.in-Some.items.now c.args.items.now c.in-Some.ensures.cases.0 c.requires.valid in
    let named : (p : ℕ) → p < length c.in-Some.items.now → IsNamed (pairs c.args.names.symbols.now) (item_at c.in-Some.items.now p) =
    named-rest (pairs c.args.names.symbols.now) c.in-Some.item.now c.in-Some.items.now c.args.items.now c.in-Some.ensures.cases.0 c.requires.named in
    search rules
