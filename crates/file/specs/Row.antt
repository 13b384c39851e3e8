-- Fields split by commas and ended by a line feed. Assumes nothing.
use Rattle.std.specs.Prelude.{ℕ, List, [], ◌∷◌, ◌++◌}

-- the byte behind a field: a line feed behind the last one, else a comma
abbrev pub ending : List (List ℕ) → ℕ
ending [] = 10
ending (field ∷ fields) = 44

-- the fields of a line, each with the byte behind it
abbrev pub row : List (List ℕ) → List ℕ
row [] = []
row (field ∷ fields) = field ++ ending fields ∷ row fields
