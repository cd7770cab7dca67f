use Rattle.std.proofs.Common.{length}
use Rattle.std.proofs.lemmas.Bool.{le-ltb}
use Rattle.search_space.specs.Levels.{straight_trees}
use Rattle.bnb_solver.specs.declared.refusal.TheConstants.{TREES}
use Rattle.slothy_cli.specs.Shown.{stop_told}
use Rattle.slothy_cli.proofs.Searched.{refused-forest}
use Rattle.slothy_cli.proofs.best.forest_of.Goals as goal

pub returns-in-Ok : goal.returns-in-Ok
returns-in-Ok c = (c.in-Ok.ensures.forest, le-ltb TREES (length (straight_trees c.args.problem)) c.in-Ok.ensures.few)

pub returns-in-Err : goal.returns-in-Err
returns-in-Err c = refused-forest c.args.problem c.args.budget c.in-Err.error (stop_told c.refused.result) c.refused.ensures c.in-Err.ensures.refused
