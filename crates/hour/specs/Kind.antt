-- The letters of the kinds. Assumes nothing.
use Rattle.std.specs.Prelude.{ℕ, Bool, cond, ◌||◌, ◌==◌}
use Rattle.prices.specs.declared.kind.Kind.{Kind}
use Rattle.prices.specs.declared.kind.Kind.TheVariants.{Generator, Import, Load, Export}

-- whether a letter is G (71), I (73), L (76) or X (88)
abbrev pub stands_for_kind : ℕ → Bool
stands_for_kind letter = letter == 71 || letter == 73 || letter == 76 || letter == 88

-- G is a generator, I an import, L a load, and any other letter is read as X, an export
abbrev pub kind_of : ℕ → Kind
kind_of letter = cond (letter == 71) Generator (cond (letter == 73) Import (cond (letter == 76) Load Export))
