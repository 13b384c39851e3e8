-- Rows of numbers. Assumes nothing.
use Rattle.std.specs.Prelude.{◌≡◌, ℕ, ◌+◌, cond, List, [], ◌∷◌, map, length, decimal, nat_lt}
use Rattle.file.specs.Number.{Word}
use Rattle.file.specs.Place.{StandsBefore}
use Rattle.file.specs.Row.{row}
use Rattle.file.specs.declared.field.End.{End}
use Rattle.file.specs.declared.field.End.TheVariants.{Comma, Line}
use Rattle.file.specs.declared.position.Position.{Position}

-- each is a number of the file
abbrev pub Words : List ℕ → Type 0
Words [] = Unit {0}
Words (value ∷ values) = Word value × Words values

-- a line feed ends the last number of a row, else a comma
abbrev pub row_end : ℕ → ℕ → End
row_end place count = cond (nat_lt (place + 1) count) Comma Line

-- so many numbers, split by commas and ended by a line feed
pub record NumberRow (count : ℕ) (text : List ℕ) : Type 0 where
  pub values : List ℕ
  pub many : length values ≡ count
  pub words : Words values
  pub same : text ≡ row (map decimal values)

-- so many numbers were read up to their line feed
pub record ReadNumbers (count : ℕ) (file : List ℕ) (start : ℕ) (values : List ℕ) (next : Position) : Type 0 where
  pub many : length values ≡ count
  pub words : Words values
  pub stands : StandsBefore file start next (row (map decimal values))
