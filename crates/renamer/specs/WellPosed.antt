-- What a problem needs so that its legal schedules compute what its items compute.
use Rattle.std.specs.Prelude.{ℕ, ◌<◌, ◌≡◌, Bool, true, ◌&&◌, not, nat_lt, map, [], ◌∷◌, List, length}
use Rattle.std.specs.List.{list_all, list_any}
use Rattle.sl_model.specs.declared.register.Reg.{Reg}
use Rattle.sl_model.specs.declared.schedule.Source.{Source}
use Rattle.sl_model.specs.declared.schedule.Source.TheVariants.{Entry, Item}
use Rattle.sl_model.specs.Register.{same_reg}
use Rattle.sl_model.specs.Source.{outputs, item_at}
use Rattle.sl_model.specs.Isa.{Isa}
use Rattle.sl_model.specs.Body.{same_source, stands_in, all_differ}
use Rattle.sl_model.specs.Graph.{Graph, graph_of, sources_at}
use Rattle.sl_model.specs.Lawful.{AreValid, is_base_alone}
use Rattle.sl_model.specs.Legal.{Problem}

-- Is a value that must stand in a register at the end an output of an item, or
-- what that register held before?
abbrev pub is_made : Problem → Reg × Source → Bool
is_made problem (r, Entry q) = same_reg q r
is_made problem (r, Item item place) =
    stands_in item problem.graph.order
    && nat_lt place (length (outputs (item_at problem.graph.items item)))

-- Do all sources of a list differ?
unfoldable pub sources_differ : List Source → Bool
sources_differ [] = true
sources_differ (value ∷ values) = not (list_any (same_source value) values) && sources_differ values

-- Is the source of a base that an item writes back that of no other operand of the item?
abbrev pub is_base_apart : Isa → Graph → ℕ → Bool
is_base_apart isa graph p =
    is_base_alone same_source (isa.info (item_at graph.items p).form) (sources_at graph p)

-- A graph is that of its items, in its order with its sources; these are instructions of the
-- set; and bases that are written back have sources of their own.
pub record IsGraphOf (isa : Isa) (graph : Graph) : Type 0 where
  pub valid : AreValid isa graph.items
  pub bases_apart : (p : ℕ) → p < length graph.items → is_base_apart isa graph p ≡ true
  pub is : graph ≡ graph_of isa graph.items graph.order graph.sources

-- The graph of a problem is that of its items; its finals are in different registers and are
-- different values, and each is made in the problem.
pub record IsWellPosed (isa : Isa) (problem : Problem) : Type 0 where
  pub graph : IsGraphOf isa problem.graph
  pub registers_differ : all_differ (map (λ f. f.0) problem.finals) ≡ true
  pub values_differ : sources_differ (map (λ f. f.1) problem.finals) ≡ true
  pub made : list_all (is_made problem) problem.finals ≡ true
