use Rattle.std.proofs.Common.{◌≡◌, true, length, ap, subst, ◌∙◌}
use Rattle.std.specs.List.{list_all}
use Rattle.sl_model.specs.Legal.{Problem}
use Rattle.legal_space.specs.Timed.{is_known_source}
use Rattle.legal_space.proofs.Standing.{sources-known}
use Rattle.legal_space.proofs.problem.Problem.sources_of.Goals as goal

pub returns-clause-known : goal.returns-clause-known
returns-clause-known c =
    subst (λ (problem : Problem). list_all (is_known_source (length problem.graph.items)) c.sources_of.result.now ≡ true) c.self.view_is
    (ap (list_all (is_known_source (length c.self.inside.graph.items))) c.sources_of.ensures.sources
    ∙ sources-known c.self.inside.graph c.args.item c.is_sound.ensures.flow.sources)
