-- What is told of the items of a graph, where it is that of its items.
use Rattle.std.proofs.Common.{◌≡◌, ℕ, true, [], map, length, ap, ◌∙◌, option_map}
use Rattle.std.proofs.lemmas.Option.{slice_get-map, slice_get-get_or, get_or_from_slice_get}
use Rattle.sl_model.specs.declared.instruction.Instr.{Instr}
use Rattle.sl_model.specs.Source.{item_at, no_instr, numbers_below}
use Rattle.sl_model.specs.Isa.{Isa}
use Rattle.sl_model.specs.Body.{stands_in}
use Rattle.sl_model.specs.Graph.{Graph, body_of, info_at, precedes_at, preceding, no_info, AreSources}
use Rattle.renamer.specs.Faithful.{IsSound}
use Rattle.renamer.specs.WellPosed.{IsGraphOf}
use Rattle.sl_laws.proofs.Numbers.{at-below}

-- The graph is that of its items, and its sources are sources of these.
pub record IsSoundGraph (isa : Isa) (graph : Graph) : Type 0 where
  pub of : IsGraphOf isa graph
  pub sources : AreSources graph.items graph.order graph.sources

module _ (isa : Isa) (graph : Graph) (sound : IsSoundGraph isa graph) where
  -- its items are a sound body
  pub sound-body : IsSound isa (body_of graph)
  sound-body = record {
    items = λ p stands. sound.of.valid p (sound.sources.known p stands);
    operands_have = λ p stands. sound.sources.operands_have p (sound.sources.known p stands);
    sources_above = λ p stands. sound.sources.sources_above p (sound.sources.known p stands);
    once = sound.sources.once;
  }

  -- what the table says of an item's form
  pub info-is : (p : ℕ) → stands_in p graph.order ≡ true → info_at graph p ≡ isa.info (item_at graph.items p).form
  info-is p stands =
      ap (λ (g : Graph). info_at g p) sound.of.is
      ∙ get_or_from_slice_get (map (λ (i : Instr). isa.info i.form) graph.items) p (isa.info (item_at graph.items p).form) no_info
      (slice_get-map (λ (i : Instr). isa.info i.form) graph.items p
      ∙ ap (option_map (λ (i : Instr). isa.info i.form)) (slice_get-get_or graph.items p no_instr (sound.sources.known p stands)))

  -- what has to come before an item
  pub precedes-is : (p : ℕ) → stands_in p graph.order ≡ true → precedes_at graph p ≡ preceding isa (body_of graph) (length graph.items) p
  precedes-is p stands =
      ap (λ (g : Graph). precedes_at g p) sound.of.is
      ∙ get_or_from_slice_get (map (preceding isa (body_of graph) (length graph.items)) (numbers_below (length graph.items))) p (preceding isa (body_of graph) (length graph.items) p) []
      (slice_get-map (preceding isa (body_of graph) (length graph.items)) (numbers_below (length graph.items)) p
      ∙ ap (option_map (preceding isa (body_of graph) (length graph.items))) (at-below (length graph.items) p (sound.sources.known p stands)))
