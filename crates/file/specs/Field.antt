-- A number or a letter of a line with the byte that ends it. Assumes nothing.
use Rattle.std.specs.Prelude.{◌≡◌, ℕ, Bool, true, ◌||◌, List, [], ◌∷◌, ◌++◌, decimal, ◌==◌}
use Rattle.std.specs.Int.{IsInRange}
use Rattle.file.specs.Number.{Word}
use Rattle.file.specs.Place.{ByteAt, StandsBefore}
use Rattle.file.specs.declared.field.End.{End}
use Rattle.file.specs.declared.field.End.TheVariants.{Colon, Comma, Line, CommaOrLine}
use Rattle.file.specs.declared.field.Field.{Field}
use Rattle.file.specs.declared.position.Position.{Position}

-- whether a byte may end a field: a colon is 58, a comma 44 and a line feed 10
abbrev pub allowed : End → ℕ → Bool
allowed Colon byte = byte == 58
allowed Comma byte = byte == 44
allowed Line byte = byte == 10
allowed CommaOrLine byte = byte == 44 || byte == 10

-- a number in decimal digits and a byte that may end it
pub record NumberField (end : End) (text : List ℕ) : Type 0 where
  pub value : ℕ
  pub byte : ℕ
  pub word : Word value
  pub ends : allowed end byte ≡ true
  pub same : text ≡ decimal value ++ byte ∷ []

-- a byte that may end a field stands at a place
pub record EndAt (end : End) (file : List ℕ) (at byte : ℕ) : Type 0 where
  pub here : ByteAt file at byte
  pub ends : allowed end byte ≡ true

-- no byte that may end a field stands at a place
abbrev pub NoEnd : End → List ℕ → ℕ → Type 0
NoEnd end file at = (byte : ℕ) → EndAt end file at byte → ⊥

-- a number was read with the byte that ends it
pub record ReadNumber (end : End) (file : List ℕ) (start : ℕ) (field : Field ℕ) : Type 0 where
  pub word : Word field.value
  pub byte : ℕ
  pub ends : allowed end byte ≡ true
  pub line : field.ends_line ≡ (byte == 10)
  pub stands : StandsBefore file start field.next (decimal field.value ++ byte ∷ [])

-- a letter is one byte from A to Z
abbrev pub Capital : ℕ → Type 0
Capital letter = IsInRange 65 90 letter

-- a letter and the comma that ends it
pub record LetterField (text : List ℕ) : Type 0 where
  pub letter : ℕ
  pub capital : Capital letter
  pub same : text ≡ letter ∷ 44 ∷ []

-- a letter was read with its comma
pub record ReadLetter (file : List ℕ) (start letter : ℕ) (next : Position) : Type 0 where
  pub capital : Capital letter
  pub stands : StandsBefore file start next (letter ∷ 44 ∷ [])
