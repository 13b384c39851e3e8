-- What the running rule means. Assumes nothing.
use Rattle.std.specs.Prelude.{ℕ, ◌+◌, ◌-◌, List, map, length, take, sum}
use Rattle.std.specs.List.{range_with_len}
use Rattle.splitting.specs.Proportion.{whole_cents}

-- the whole cents of the first so many weights together
abbrev pub up_to : ℕ → List ℕ → ℕ → ℕ
up_to total weights count = whole_cents total (sum (take count weights)) (sum weights)

-- a place gets that figure with its weight less the figure without it
unfoldable pub running : ℕ → List ℕ → List ℕ
running total weights = map (λ place. up_to total weights (place + 1) - up_to total weights place) (range_with_len 0 (length weights))
