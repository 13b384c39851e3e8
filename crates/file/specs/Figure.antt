-- How a figure is printed. Assumes nothing.
use Rattle.std.specs.Prelude.{ℕ, List, [], ◌∷◌, decimal}
use Rattle.std.specs.Fmt.{signed_decimal}
use Rattle.file.specs.declared.figure.Figure.{Figure}
use Rattle.file.specs.declared.figure.Figure.TheVariants.{Natural, Signed, Letter}

-- decimal digits without needless zeros, with a minus sign in front of a negative number
abbrev pub figure_text : Figure → List ℕ
figure_text (Natural value) = decimal value
figure_text (Signed value) = signed_decimal value
figure_text (Letter letter) = letter ∷ []
