use Rattle.std.proofs.Common.{◌∙◌, sym, ap, map}
use Rattle.std.specs.List.{take-map}
use Rattle.sl_isa.specs.SymbolViews.{pair_of}
use Rattle.sl_isa.proofs.symbols.Symbols.truncate.Goals as goal

pub returns : goal.returns
returns c = ap (map pair_of) c.truncate.ensures.items ∙ sym (take-map pair_of c.args.count c.args.self.now.list.items)
