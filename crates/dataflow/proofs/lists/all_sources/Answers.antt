use Rattle.std.proofs.Common.{◌≡◌, List, [], ◌∷◌, ◌++◌, map, ap, ap₂, sym, ◌∙◌, rules}
use Rattle.std.proofs.lemmas.List.{map-append}
use Rattle.sl_model.specs.declared.schedule.Source.{Source}
use Rattle.sl_model.specs.Source.{list_sources}
use Rattle.dataflow.proofs.lists.all_sources.Goals as goal
use Rattle.sl_laws.proofs.Numbers.{map_numbers-next, numbers-none}

pub loop-place-init : goal.loop-place-init
loop-place-init c =
    ap (λ all. map (λ v. v.items) all) c.new-all.ensures.items ∙ ap (map (list_sources c.args.items.now)) (sym numbers-none)

pub loop-place-preserved : goal.loop-place-preserved
loop-place-preserved c =
    let more : c.push.new.self.items ≡ c.loop-place.all.items ++ c.in_ok-sources.sources ∷ [] = search rules in
    ap (λ all. map (λ v. v.items) all) more ∙ map-append (λ v. v.items) c.loop-place.all.items (c.in_ok-sources.sources ∷ [])
    ∙ ap₂ (λ (all : List (List Source)) (sources : List Source). all ++ sources ∷ []) c.loop-place.invariant c.in_ok-sources.ensures
    ∙ sym (map_numbers-next (list_sources c.args.items.now) c.loop-place.place)
