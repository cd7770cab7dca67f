use Rattle.std.proofs.Common.{subst}
use Rattle.search_space.specs.Searchable.{IsSearchable}
use Rattle.slothy_cli.proofs.best.best_in.Goals as goal

pub returns-in-Ok-clause-searchable : goal.returns-in-Ok-clause-searchable
returns-in-Ok-clause-searchable g c = subst IsSearchable c.problem-problem.ensures c.is_searchable.ensures

pub returns-in-Err-clause-searchable : goal.returns-in-Err-clause-searchable
returns-in-Err-clause-searchable g c = subst IsSearchable c.problem-problem.ensures c.is_searchable.ensures
