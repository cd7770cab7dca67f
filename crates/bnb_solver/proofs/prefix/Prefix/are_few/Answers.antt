use Rattle.std.proofs.Common.{◌≡◌, ◌≤◌, length, reverse, arith}
use Rattle.std.proofs.lemmas.List.{length-reverse}
use Rattle.search_space.proofs.ForCallers.{made-few}
use Rattle.bnb_solver.proofs.Prefixes.{made-items, made-units}
use Rattle.bnb_solver.proofs.prefix.Prefix.are_few.Goals as goal

pub returns-clause-few : goal.returns-clause-few
returns-clause-few c =
    let choices = c.args.self.now.choices in
    let made : length (reverse choices) ≤ length c.args.problem.now.graph.items = made-few c.args.problem.now c.is_searchable.ensures (reverse choices) c.requires.made in
    let same : length (reverse choices) ≡ length choices = length-reverse choices in
    let count : c.len.result ≡ length c.args.problem.now.graph.items = c.len.ensures.len in
    let few : c.len.result ≤ 64 = c.len.ensures.few in
    omega arith

pub returns-clause-known : goal.returns-clause-known
returns-clause-known c = made-items c.args.problem.now c.is_searchable.ensures c.args.self.now.choices c.requires.made

pub returns-clause-units : goal.returns-clause-units
returns-clause-units c = made-units c.args.problem.now c.is_searchable.ensures c.args.self.now.choices c.requires.made
