-- Sums, counts and ranks over the places of a list, numbered from 0. Assumes nothing.
use Rattle.std.specs.Prelude.{◌≡◌, ℕ, zero, suc, ◌+◌, Bool, true, false, cond}

-- the sum of a figure over the first places
unfoldable pub sum_over : (ℕ → ℕ) → ℕ → ℕ
sum_over figure zero = 0
sum_over figure (suc n) = sum_over figure n + figure n

-- how many of the first places pass a test
abbrev pub how_many : (ℕ → Bool) → ℕ → ℕ
how_many test n = sum_over (λ place. cond (test place) 1 0) n

-- how many of the first places come before this one
abbrev pub rank : (ℕ → ℕ → Bool) → ℕ → ℕ → ℕ
rank before n place = how_many (λ other. before other place) n

-- an order of the places: of two different ones exactly one comes before the other
pub record StrictOrder (before : ℕ → ℕ → Bool) : Type 0 where
  pub not_itself : (i : ℕ) → before i i ≡ false
  pub in_turn : (i j k : ℕ) → before i j ≡ true → before j k ≡ true → before i k ≡ true
  pub decided : (i j : ℕ) → before i j ≡ false → before j i ≡ false → i ≡ j
