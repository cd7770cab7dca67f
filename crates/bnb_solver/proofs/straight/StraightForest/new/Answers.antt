use Rattle.std.proofs.Common.{◌≡◌, ◌≤◌, length, ap, ◌∙◌, arith}
use Rattle.bnb_solver.proofs.Numbered.{count-firsts}
use Rattle.bnb_solver.proofs.straight.StraightForest.new.Goals as goal

pub returns-clause-few : goal.returns-clause-few
returns-clause-few c = omega (arith, count-firsts c.args.problem, ap length c.in_ok-firsts.ensures.firsts, c.in_ok-firsts.ensures.few)
