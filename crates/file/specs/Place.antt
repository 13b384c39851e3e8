-- Where a text stands in a file, and where a file breaks a form. A form is a set of texts. Assumes nothing.
use Rattle.std.specs.Prelude.{◌≡◌, ℕ, ◌<◌, ◌≤◌, List, ◌∷◌, ◌++◌, length, drop, slice_index, ◌≢◌}
use Rattle.std.specs.List.{between}
use Rattle.file.specs.declared.position.Position.{Position}

-- a text stands from one place of a file up to the next
pub record Stands (file : List ℕ) (start next : ℕ) (text : List ℕ) : Type 0 where
  pub order : start ≤ next
  pub within : next ≤ length file
  pub same : between start next file ≡ text

-- what was read begins a text of the form, no text of the form begins with it and the byte that comes next,
-- and no text of the form stands here
pub record Breaks (Form : List ℕ → Type 0) (read left : List ℕ) : Type 0 where
  pub begins : (more : List ℕ) × Form (read ++ more)
  pub departs : (byte : ℕ) (later more : List ℕ) → left ≡ byte ∷ later → Form (read ++ byte ∷ more) → ⊥
  pub absent : (text more : List ℕ) → Form text → read ++ left ≢ text ++ more

-- a place is the first at which the file, from a start on, breaks a form
pub record BreaksAt (Form : List ℕ → Type 0) (file : List ℕ) (start place : ℕ) : Type 0 where
  pub order : start ≤ place
  pub within : place ≤ length file
  pub breaks : Breaks Form (between start place file) (drop place file)

-- a byte of a file stands at a place
pub record ByteAt (file : List ℕ) (at byte : ℕ) : Type 0 where
  pub inside : at < length file
  pub same : slice_index file at ≡ byte

-- a position of a file
pub record Behind (file : List ℕ) (at : ℕ) (next : Position) : Type 0 where
  pub same : next.file.now ≡ file
  pub at_is : next.at ≡ at

-- a text stands from a place of a file up to a position of it
pub record StandsBefore (file : List ℕ) (start : ℕ) (next : Position) (text : List ℕ) : Type 0 where
  pub same : next.file.now ≡ file
  pub stands : Stands file start next.at text
