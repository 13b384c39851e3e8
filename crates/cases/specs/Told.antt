-- What the tests read off a line and the posted amounts. Assumes nothing.
use Rattle.std.specs.Prelude.{List, [], ◌∷◌, ℤ, pos}
use Rattle.hour.specs.declared.line.Amounts.{Amounts}
use Rattle.hour.specs.declared.line.Line.{Line}

-- the six amounts in the order of a statement
abbrev pub figures_of : Amounts → List ℤ
figures_of amounts = amounts.energy ∷ amounts.uplift ∷ amounts.adjustment ∷ amounts.supply_charge ∷ amounts.load_charge ∷ amounts.net ∷ []

-- a line as a statement prints it: the participant and the six amounts
abbrev pub row_of : Line → List ℤ
row_of line = pos line.participant ∷ figures_of line.amounts
