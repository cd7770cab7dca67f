-- What the search of a straight problem comes to, as a verdict. Source: the verdict over levels and
-- trees.
use Rattle.search_space.specs.Levels.{Verdict}
use Rattle.search_space.specs.Levels.Outcome.{Found, Spent}
use Rattle.search_space.specs.Levels.Verdict.{First, Infeasible}
use Rattle.bnb_solver.specs.declared.solving.Solution.{Solution}
use Rattle.bnb_solver.specs.declared.solving.Solution.TheVariants as solutions

-- what was found, as a verdict
abbrev pub verdict_of : Solution → Verdict
verdict_of (solutions.Found level tree schedule) = First level tree (Found schedule.items)
verdict_of (solutions.Spent level tree) = First level tree Spent
verdict_of solutions.Infeasible = Infeasible
