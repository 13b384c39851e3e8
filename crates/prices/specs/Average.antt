-- The average of 60 whole figures, rounded to the nearest, and what is left over. Assumes nothing.
use Rattle.std.specs.Prelude.{◌≡◌, ℕ, ◌+◌, ◌*◌, ◌/◌, ℤ, pos, negsuc, ◌+ℤ◌, ◌≤ℤ◌}

-- a sixtieth of a sum to the nearest whole, half up
abbrev pub nearest : ℕ → ℕ
nearest sum = (sum + 30) / 60

-- the sum is 60 times the average plus a remainder from -30 to 29
pub record Nearest (sum average : ℕ) (remainder : ℤ) : Type 0 where
  pub exact : pos sum ≡ pos (60 * average) +ℤ remainder
  pub low : negsuc 29 ≤ℤ remainder
  pub high : remainder ≤ℤ pos 29
