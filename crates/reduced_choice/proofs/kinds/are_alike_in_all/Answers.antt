use Rattle.std.proofs.Common.{◌≡◌, ◌≤◌, ◌∙◌, length, sym, ap, arith}
use Rattle.sl_model.specs.Register.{same_bool}
use Rattle.sl_model.specs.RegSets.{set_has}
use Rattle.reduced_choice.proofs.Classes.{all-behind}
use Rattle.reduced_choice.proofs.kinds.are_alike_in_all.Goals as goal

pub returns : goal.returns
returns c =
    let graph : length c.graph.result.now.infos ≡ length c.graph.result.now.items = c.is_sound.ensures.infos in
    let infos : length c.args.problem.now.graph.infos ≡ length c.graph.result.now.infos = ap (λ g. length g.infos) (sym c.graph.ensures) in
    let items : length c.args.problem.now.graph.items ≡ length c.graph.result.now.items = ap (λ g. length g.items) (sym c.graph.ensures) in
    let count : c.len-item-end.result ≡ length c.args.problem.now.graph.items = c.len-item-end.ensures.len in
    let behind : length c.args.problem.now.graph.infos ≤ c.loop-item.item = omega (arith, c.loop-item-test.false) in
    sym (sym c.loop-item.invariant ∙ all-behind (λ set. same_bool (set_has set c.args.a) (set_has set c.args.b)) c.args.problem.now.graph.infos c.loop-item.item behind)
