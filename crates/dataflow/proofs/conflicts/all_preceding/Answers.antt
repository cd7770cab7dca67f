use Rattle.std.proofs.Common.{◌≡◌, ◌++◌, ◌∷◌, [], List, ℕ, length, map, sym, ap, ap₂, ◌∙◌, rules}
use Rattle.sl_model.specs.Graph.{preceding}
use Rattle.dataflow.specs.Flows.{flow_body}
use Rattle.dataflow.proofs.conflicts.all_preceding.Goals as goal
use Rattle.sl_laws.proofs.Numbers.{numbers-none, map_numbers-next}

pub loop-item-init : goal.loop-item-init
loop-item-init g c =
    c.new-all.ensures.items ∙ ap (map (preceding g.A.Arch.language.isa (flow_body c.args.flow.now) (length c.args.flow.now.items))) (sym numbers-none)

pub loop-item-preserved : goal.loop-item-preserved
loop-item-preserved g c =
    let more : c.push.new.self.items ≡ c.loop-item.all.items ++ c.preceding.result ∷ [] = search rules in
    more
    ∙ ap₂ (λ (all : List (List ℕ)) (set : List ℕ). all ++ set ∷ []) c.loop-item.invariant c.preceding.ensures
    ∙ sym (map_numbers-next (preceding g.A.Arch.language.isa (flow_body c.args.flow.now) (length c.args.flow.now.items)) c.loop-item.item)
