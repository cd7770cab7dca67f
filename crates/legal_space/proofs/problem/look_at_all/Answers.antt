use Rattle.std.proofs.Common.{◌≡◌, ◌^◌, ◌<◌, ◌≤◌, length, ap, ◌∙◌, sym, below_more, arith}
use Rattle.sl_model.specs.Source.{operands, outputs, item_at}
use Rattle.sl_model.specs.Cycles.{row_of}
use Rattle.sl_model.specs.Graph.{info_at}
use Rattle.sl_laws.proofs.Elements.{length-filter_map}
use Rattle.legal_space.specs.Problems.{HasRoom}
use Rattle.legal_space.proofs.problem.look_at_all.Goals as goal

pub loop-item-preserved : goal.loop-item-preserved
loop-item-preserved c =
    let instr = c.item-instr.result.now in
    let few_ins : length (operands instr) ≤ length instr.ins = length-filter_map (λ r. r) instr.ins in
    let few_outs : length (outputs instr) ≤ length instr.outs = length-filter_map (λ r. r) instr.outs in
    let four : length instr.ins ≡ 4 = c.look_at.ensures.ins in
    let three : length instr.outs ≡ 3 = c.look_at.ensures.outs in
    let in_sets : length (info_at c.args.graph.now c.loop-item.item).in_sets ≡ 4 = ap (λ info. length info.in_sets) (sym c.info.ensures) ∙ c.look_at.ensures.in_sets in
    let out_sets : length (info_at c.args.graph.now c.loop-item.item).out_sets ≡ 3 = ap (λ info. length info.out_sets) (sym c.info.ensures) ∙ c.look_at.ensures.out_sets in
    let ins : length (operands (item_at c.args.graph.now.items c.loop-item.item)) ≡ length (operands instr) = ap (λ i. length (operands i)) (sym c.item-instr.ensures) in
    let outs : length (outputs (item_at c.args.graph.now.items c.loop-item.item)) ≡ length (outputs instr) = ap (λ i. length (outputs i)) (sym c.item-instr.ensures) in
    let fits : c.units.result < 2 ^ 16 = c.units.type_inv in
    let units : c.units.result ≡ (row_of c.args.costs.now c.loop-item.item).units = c.units.ensures.units in
    below_more (HasRoom c.args.graph.now c.args.costs.now) c.loop-item.item c.loop-item.invariant (record {
      operand_classes = omega arith;
      output_classes = omega arith;
      few_outputs = omega arith;
      few_units = omega arith;
    })
