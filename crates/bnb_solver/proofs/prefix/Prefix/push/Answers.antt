use Rattle.std.proofs.Common.{◌≡◌, ◌<◌, ◌≤◌, length, ap, ◌∙◌, arith}
use Rattle.std.specs.Vec.{vec_len, vec_capacity}
use Rattle.bnb_solver.proofs.Prefixes.{made-fewer}
use Rattle.bnb_solver.proofs.prefix.Prefix.push.Goals as goal

pub push_reserved-requires : goal.push_reserved-requires
push_reserved-requires g c =
    let count : vec_len c.self.inside.choices ≡ length c.args.self.now.choices = c.self.inside.choices.ok.0 ∙ ap (λ p. length p.choices) c.self.view_is in
    let fewer : length c.args.self.now.choices < length c.args.problem.now.graph.items =
    made-fewer c.args.problem.now c.is_searchable.ensures c.args.self.now.choices c.args.choice c.requires.prefix.made c.requires.legal in
    let room : length c.args.problem.now.graph.items ≤ c.args.self.now.room = c.requires.prefix.room in
    let same : c.self.inside.bounds.room ≡ c.args.self.now.room = ap (λ p. p.room) c.self.view_is in
    let ample : c.self.inside.bounds.room ≤ vec_capacity c.self.inside.choices = c.self.invariant in
    omega arith
