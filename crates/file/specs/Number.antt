-- The writing of a number, and the longest number at a place of a file. Assumes nothing.
use Rattle.std.specs.Prelude.{◌≡◌, ℕ, ◌+◌, ◌-◌, ◌*◌, ◌^◌, ◌<◌, ◌≤◌, ◌⊎◌, List, ◌∷◌, ◌++◌, length, drop, decimal, ◌≢◌}
use Rattle.std.specs.Int.{IsInRange}
use Rattle.std.specs.List.{between}
use Rattle.file.specs.declared.number.Number.{Number}

-- a number of the file is at most 4,294,967,295
abbrev pub Word : ℕ → Type 0
Word n = n < 2 ^ 32

-- how large a number is that has so many digits: none, up to 8, 9, or more
pub record Started (value digits : ℕ) : Type 0 where
  pub none : digits ≡ 0 → value ≡ 0
  pub eight : digits < 9 → value < 100000000
  pub nine : digits ≡ 9 → value < 1000000000
  pub ten : 9 < digits → 1000000000 ≤ value

-- a digit makes the value so far a further number
pub record Goes (value digits byte more : ℕ) : Type 0 where
  pub digit : IsInRange 48 57 byte
  pub value_is : more ≡ value * 10 + (byte - 48)
  pub small : Word more
  pub no_zero : (digits ≡ 0) ⊎ (0 < value)

-- no number goes on with this byte: it is no digit, follows a leading zero, or makes the number too large
abbrev pub Ends : ℕ → ℕ → ℕ → Type 0
Ends value digits byte = IsInRange 48 57 byte → (0 < digits) × ((value ≡ 0) ⊎ (2 ^ 32 ≤ value * 10 + (byte - 48)))

-- the longest number at a place: with the next byte no number begins
pub record Longest (file : List ℕ) (start value next : ℕ) : Type 0 where
  pub order : start ≤ next
  pub within : next ≤ length file
  pub small : Word value
  pub same : start < next → between start next file ≡ decimal value
  pub longest : (byte n : ℕ) (later more : List ℕ) → Word n → drop next file ≡ byte ∷ later → decimal n ≢ between start next file ++ byte ∷ more

-- the longest number of at least one digit stands up to a position
pub record StandsLongest (file : List ℕ) (start : ℕ) (number : Number) : Type 0 where
  pub same : number.next.file.now ≡ file
  pub some : start < number.next.at
  pub longest : Longest file start number.value number.next.at
