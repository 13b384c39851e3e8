-- The lines of the print, and what is left in the caller's text. Assumes nothing.
use Rattle.std.specs.Prelude.{◌≡◌, ℕ, ◌<◌, List, [], ◌∷◌, ◌++◌, length, drop, Ok, Err, codes, decimal, Result}
use Rattle.std.specs.List.{flat_map}
use Rattle.std.specs.Fmt.{signed_decimal}
use Rattle.file.specs.Row.{row}
use Rattle.file.specs.declared.statement.PrintLine.{PrintLine}
use Rattle.file.specs.declared.statement.PrintLine.TheVariants.{Hour, Price, Amounts, Sum, Fault}
use Rattle.file.specs.declared.statement.TextTooShort.{TextTooShort}

-- the key of a line of the print with its equals sign
abbrev pub print_key : PrintLine → List ℕ
print_key (Hour label) = codes "hour="
print_key (Price price) = codes "price="
print_key (Amounts participant energy uplift adjustment supply load net) = codes "line="
print_key (Sum sum) = codes "sum="
print_key (Fault line layer row subject) = codes "fault="

-- the fields of a line of the print, each as it is written
abbrev pub print_fields : PrintLine → List (List ℕ)
print_fields (Hour label) = decimal label ∷ []
print_fields (Price price) = decimal price ∷ []
print_fields (Amounts participant energy uplift adjustment supply load net) =
    decimal participant ∷ signed_decimal energy ∷ signed_decimal uplift ∷ signed_decimal adjustment ∷ signed_decimal supply ∷ signed_decimal load ∷ signed_decimal net ∷ []
print_fields (Sum sum) = signed_decimal sum ∷ []
print_fields (Fault line layer row subject) = decimal line ∷ (layer ∷ []) ∷ decimal row ∷ decimal subject ∷ []

-- a line of the print: its key, its fields split by commas, and a line feed
abbrev pub print_text : PrintLine → List ℕ
print_text line = print_key line ++ row (print_fields line)

-- the lines of the print one after another
abbrev pub printed : List PrintLine → List ℕ
printed lines = flat_map print_text lines

-- the print fills the front of the text, or the text is too short for it and stays as it was
abbrev pub Prints : List PrintLine → List ℕ → List ℕ → Result ℕ TextTooShort → Type 0
Prints lines old new (Ok count) = (count ≡ length (printed lines)) × (new ≡ printed lines ++ drop (length (printed lines)) old)
Prints lines old new (Err short) = (short.needed ≡ length (printed lines)) × (length old < short.needed) × (new ≡ old)
