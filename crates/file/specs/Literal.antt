-- How far a file agrees with a text. Assumes nothing.
use Rattle.std.specs.Prelude.{ℕ, ◌+◌, ◌<◌, ◌≤◌, List, length, take, ◌≢◌, slice_index}
use Rattle.file.specs.Place.{Stands}

-- the file has this many bytes of a text at a place, and no more
pub record Agrees (file : List ℕ) (start : ℕ) (text : List ℕ) (count : ℕ) : Type 0 where
  pub within : count ≤ length text
  pub stands : Stands file start (start + count) (take count text)
  pub differs : count < length text → start + count < length file → slice_index file (start + count) ≢ slice_index text count
