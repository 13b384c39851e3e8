-- A line of the file: read as an item, or broken at a place that is counted in the line from 1. Assumes nothing.
use Rattle.std.specs.Prelude.{◌≡◌, ℕ, ◌+◌, true, ◌⊎◌, List, Ok, Option, Result, MatchResult}
use Rattle.file.specs.Item.{Item, Sound, key_of, writing}
use Rattle.file.specs.Key.{follows, NoKey, FoundKey}
use Rattle.file.specs.Place.{Stands, BreaksAt}
use Rattle.file.specs.declared.body.Read.{Read}
use Rattle.file.specs.declared.broken.BrokenForm.{BrokenForm}
use Rattle.file.specs.declared.key.Key.{Key}

-- the writing of an item of a key
pub record Line (key : Key) (text : List ℕ) : Type 0 where
  pub item : Item
  pub sound : Sound item
  pub keyed : key_of item ≡ key
  pub same : text ≡ writing item

-- the writing of an allowed item stands here
pub record ReadLine (file : List ℕ) (start : ℕ) (last : Option Key) (read : Read) : Type 0 where
  pub allowed : follows last (key_of read.item) ≡ true
  pub sound : Sound read.item
  pub stands : Stands file start read.next (writing read.item)

-- an allowed key stands here, and at the place the line breaks the form of that key's lines
pub record BrokenFields (file : List ℕ) (start : ℕ) (last : Option Key) (place : ℕ) : Type 0 where
  pub key : Key
  pub found : FoundKey file start last key
  pub before : ℕ
  pub counted : place ≡ before + 1
  pub breaks : BreaksAt (Line key) file start (start + before)

-- no allowed key stands here, and the place is 1, or the fields behind the key are broken
abbrev pub BrokenLine : List ℕ → ℕ → Option Key → ℕ → Type 0
BrokenLine file start last place = (NoKey file start last × (place ≡ 1)) ⊎ BrokenFields file start last place

-- an allowed line was read, or the line is broken
abbrev pub ReadsLine : List ℕ → ℕ → Option Key → Result Read BrokenForm → Type 0
ReadsLine file start last r = MatchResult r (λ read. ReadLine file start last read) (λ broken. BrokenLine file start last broken.place)

-- an allowed item whose writing stands here is what is read
abbrev pub Exactly : List ℕ → ℕ → Option Key → Result Read BrokenForm → Type 0
Exactly file start last r =
    (item : Item) (next : ℕ) → Sound item → follows last (key_of item) ≡ true → Stands file start next (writing item) → r ≡ Ok (record { item = item; next = next })
