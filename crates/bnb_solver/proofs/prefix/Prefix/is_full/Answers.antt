use Rattle.std.proofs.Common.{◌≡◌, eqb, length, ap, ◌∙◌}
use Rattle.bnb_solver.proofs.Prefixes.{full-count}
use Rattle.bnb_solver.proofs.prefix.Prefix.is_full.Goals as goal

pub returns : goal.returns
returns c =
    let count : c.len.result ≡ length c.args.self.now.choices = c.len.ensures ∙ c.self.inside.choices.ok.0 ∙ ap (λ p. length p.choices) c.self.view_is in
    ap (λ n. eqb n c.len-2.result) count ∙ ap (eqb (length c.args.self.now.choices)) c.len-2.ensures.len
    ∙ full-count c.args.problem.now c.is_searchable.ensures c.args.self.now.choices c.requires.made
