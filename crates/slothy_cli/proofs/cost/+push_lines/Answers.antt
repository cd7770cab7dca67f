use Rattle.std.proofs.Common.{ℕ, ◌<◌, nat_lt, length, rules}
use Rattle.std.specs.List.{list_all}
use Rattle.sl_model.specs.Source.{item_at}
use Rattle.sl_model.specs.Lawful.{IsValid}
use Rattle.sl_laws.proofs.Valid.{valid-rest}
use Rattle.sl_isa.specs.SymbolViews.{pairs}
use Rattle.asm_printer.proofs.ForCallers.{named-rest}
use Rattle.slothy_cli.proofs.cost.+push_lines.Goals as goal

pub push_lines-requires : goal.push_lines-requires
push_lines-requires g t c =
    let named = named-rest (pairs c.args.symbols.now) c.in-Some.item.now c.in-Some.items.now c.args.items.now c.in-Some.ensures.cases.0 c.requires.named in
    let rest : (p : ℕ) → p < length c.in-Some.items.now → IsValid g.A.Arch.language.isa (item_at c.in-Some.items.now p) =
    valid-rest g.A.Arch.language.isa c.in-Some.item.now c.in-Some.items.now c.args.items.now c.in-Some.ensures.cases.0 c.requires.valid in
    search rules
