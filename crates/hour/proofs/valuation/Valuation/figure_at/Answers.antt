use Rattle.std.proofs.Common.{rules}
use Rattle.hour.specs.Figure.{figure_at}
use Rattle.hour.proofs.valuation.Valuation.figure_at.Goals as goal

pub returns-in-Some : goal.returns-in-Some
unfolding figure_at
returns-in-Some c = search rules

pub returns-in-None : goal.returns-in-None
unfolding figure_at
returns-in-None c = search rules
