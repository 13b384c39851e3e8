-- What the rule of the largest remainders means. Assumes nothing.
use Rattle.std.specs.Prelude.{ℕ, ◌+◌, ◌-◌, Bool, cond, ◌&&◌, ◌||◌, List, map, length, sum, ◌==◌, nat_lt, slice_index}
use Rattle.std.specs.List.{range_with_len}
use Rattle.splitting.specs.Places.{sum_over, rank}
use Rattle.splitting.specs.Proportion.{whole_cents, remainder}

-- the whole cents of a place
abbrev pub whole_at : ℕ → List ℕ → ℕ → ℕ
whole_at total weights place = whole_cents total (slice_index weights place) (sum weights)

-- the remainder of a place
abbrev pub remainder_at : ℕ → List ℕ → ℕ → ℕ
remainder_at total weights place = remainder total (slice_index weights place) (sum weights)

-- the cents that are missing from the total once each place has its whole cents
abbrev pub leftover : ℕ → List ℕ → ℕ
leftover total weights = total - sum_over (whole_at total weights) (length weights)

-- each place its whole cents, and one cent more to those that come first in an order, until the total is reached
unfoldable pub handed_out : (ℕ → ℕ → Bool) → ℕ → List ℕ → List ℕ
handed_out before total weights =
    map (λ place. whole_at total weights place + cond (nat_lt (rank before (length weights) place) (leftover total weights)) 1 0) (range_with_len 0 (length weights))

-- a place comes before another if its remainder is larger, or equal and the place is earlier
abbrev pub larger : ℕ → List ℕ → ℕ → ℕ → Bool
larger total weights i j =
    nat_lt (remainder_at total weights j) (remainder_at total weights i)
    || (remainder_at total weights i == remainder_at total weights j && nat_lt i j)

-- the leftover cents go to the largest remainders
abbrev pub largest : ℕ → List ℕ → List ℕ
largest total weights = handed_out (larger total weights) total weights
