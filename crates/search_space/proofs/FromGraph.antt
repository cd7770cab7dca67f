-- Problems whose graph is that of instructions of a set can be searched.
use Rattle.std.proofs.Common.{◌≡◌, ℕ, ◌<◌, ◌≤◌, ◌^◌, List, map, option_map, length, refl, sym, ap, ◌∙◌, subst, arith}
use Rattle.std.proofs.lemmas.Option.{slice_get-map, get_or_from_slice_get}
use Rattle.sl_model.specs.declared.instruction.Instr.{Instr}
use Rattle.sl_model.specs.declared.instruction.FormInfo.{FormInfo}
use Rattle.sl_model.specs.declared.schedule.Source.{Source}
use Rattle.sl_model.specs.declared.frame.Frame.{Frame}
use Rattle.sl_model.specs.Source.{operands, outputs, item_at, no_instr}
use Rattle.sl_model.specs.RegSets.{set_count}
use Rattle.sl_model.specs.Isa.{Isa}
use Rattle.sl_model.specs.Lawful.{AreValid}
use Rattle.sl_model.specs.Cycles.{CostTable, row_of}
use Rattle.sl_model.specs.Graph.{AreSources, graph_of, list_graph, info_at, no_info}
use Rattle.sl_model.specs.Legal.{Problem, straight_problem}
use Rattle.sl_laws.proofs.Elements.{element_at, length-filter_map}
use Rattle.sl_laws.proofs.Padded.{length-padded}
use Rattle.sl_laws.proofs.RegSets.{set_count-bound}
use Rattle.sl_laws.proofs.Graphs.{list-are_sources}
use Rattle.search_space.specs.Searchable.{output_room, unit_room, IsSearchable}

module _ (isa : Isa) (items : List Instr) (order : List ℕ) (sources : List (List Source)) where
  -- what the graph says of the form of an item is what the table says
  info-of : (p : ℕ) → p < length items → info_at (graph_of isa items order sources) p ≡ isa.info (item_at items p).form
  info-of p within =
      let here = element_at items p within in
      let info : Instr → FormInfo = λ i. isa.info i.form in
      get_or_from_slice_get (map info items) p (info here.0) no_info (slice_get-map info items p ∙ ap (option_map info) here.1)
      ∙ ap info (sym (get_or_from_slice_get items p here.0 no_instr here.1))

  -- A problem on the graph of instructions of a set can be searched, where its sources and costs are as they should be.
  pub searchable-graph : (problem : Problem) → problem.graph ≡ graph_of isa items order sources → AreValid isa items → AreSources items order sources
      → 1 ≤ problem.costs.width → ((p : ℕ) → p < length items → (row_of problem.costs p).units < 2 ^ unit_room) → IsSearchable problem
  searchable-graph problem is valid are width units =
      subst (λ graph. IsSearchable (record problem { graph = graph })) (sym is) (record {
        sources = are;
        operand_classes = λ p within.
            (let count : length (operands (item_at items p)) ≡ set_count (isa.info (item_at items p).form).in_sets = (valid p within).operand_count in
            let few : set_count (isa.info (item_at items p).form).in_sets ≤ length (isa.info (item_at items p).form).in_sets = set_count-bound (isa.info (item_at items p).form).in_sets in
            let same = ap (λ info. length info.in_sets) (info-of p within) in
            omega (arith, same));
        output_classes = λ p within.
            (let count : length (outputs (item_at items p)) ≡ set_count (isa.info (item_at items p).form).out_sets = (valid p within).output_count in
            let few : set_count (isa.info (item_at items p).form).out_sets ≤ length (isa.info (item_at items p).form).out_sets = set_count-bound (isa.info (item_at items p).form).out_sets in
            let same = ap (λ info. length info.out_sets) (info-of p within) in
            omega (arith, same));
        few_outputs = λ p within.
            (let places : length (item_at items p).outs ≡ output_room = ap (λ xs. length xs) (valid p within).outs_shape ∙ length-padded output_room (outputs (item_at items p)) in
            let most : length (outputs (item_at items p)) ≤ length (item_at items p).outs = length-filter_map (λ r. r) (item_at items p).outs in
            omega arith);
        few_units = units;
        width = width;
      })

-- So a straight problem can be searched.
pub searchable-straight : (isa : Isa) (items : List Instr) (frame : Frame) (costs : CostTable) → AreValid isa items
    → 1 ≤ costs.width → ((p : ℕ) → p < length items → (row_of costs p).units < 2 ^ unit_room) → IsSearchable (straight_problem isa items frame costs)
searchable-straight isa items frame costs valid width units =
    searchable-graph isa items (list_graph isa items).order (list_graph isa items).sources (straight_problem isa items frame costs) refl valid (list-are_sources isa items) width units
