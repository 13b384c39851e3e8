-- What stands behind a key: it is read as an item exactly as far as it is that item's writing. Assumes nothing.
use Rattle.std.specs.Prelude.{◌≡◌, ℕ, List, Result, MatchResult}
use Rattle.file.specs.Item.{Item, Sound, key_of, fields}
use Rattle.file.specs.Place.{Stands, BreaksAt}
use Rattle.file.specs.Row.{row}
use Rattle.file.specs.declared.body.Read.{Read}
use Rattle.file.specs.declared.broken.BrokenForm.{BrokenForm}
use Rattle.file.specs.declared.key.Key.{Key}

-- what may stand behind a key
pub record Body (key : Key) (text : List ℕ) : Type 0 where
  pub item : Item
  pub sound : Sound item
  pub keyed : key_of item ≡ key
  pub same : text ≡ row (fields item)

-- an item of a key was read
pub record ReadBody (key : Key) (file : List ℕ) (start : ℕ) (read : Read) : Type 0 where
  pub sound : Sound read.item
  pub keyed : key_of read.item ≡ key
  pub stands : Stands file start read.next (row (fields read.item))

-- an item of the key was read, or the form of the key's lines breaks
abbrev pub ReadsBody : Key → List ℕ → ℕ → Result Read BrokenForm → Type 0
ReadsBody key file start r = MatchResult r (λ read. ReadBody key file start read) (λ broken. BreaksAt (Body key) file start broken.place)
