-- Sums and counts over the places of a list, in std's words. Assumes nothing.
use Rattle.std.proofs.Common.{◌≡◌, ℕ, ◌≤◌, Bool, cond, List, length, map, sum, count_by, sym, ap, ◌∙◌, arith}
use Rattle.std.specs.Prelude.{slice_index}
use Rattle.std.specs.List.{range_with_len}
use Rattle.std.proofs.lemmas.List.{length-map, get_or-map}
use Rattle.std.proofs.lemmas.List.FromFn.{fill_by_all}
use Rattle.std.proofs.lemmas.List.Sums.{sum-map}
use Rattle.splitting.specs.Counts.{sum_table}
use Rattle.splitting.specs.Largest.{whole_at}
use Rattle.splitting.specs.Places.{sum_over, how_many}
use Rattle.splitting.specs.Proportion.{whole_cents}
use Rattle.splitting.specs.Remainders.{wholes_le}

-- a figure of each element, summed over the list and over its places
pub sum_each : (figure : ℕ → ℕ) (xs : List ℕ) → sum (map figure xs) ≡ sum_over (λ place. figure (slice_index xs place)) (length xs)
sum_each figure xs =
    ap sum (fill_by_all (λ place. figure (slice_index xs place)) (map figure xs) (length xs) 0 (length-map xs figure) (λ k within. get_or-map figure xs k 0 0 within))
    ∙ sum_table (λ place. figure (slice_index xs place)) (length xs)

-- how many of the first places pass a test
pub count_table : (test : ℕ → Bool) (n : ℕ) → count_by test (range_with_len 0 n) ≡ how_many test n
count_table test n = sym (sum-map (λ place. cond (test place) 1 0) (range_with_len 0 n)) ∙ sum_table (λ place. cond (test place) 1 0) n

-- the whole cents of each weight
abbrev pub wholes : ℕ → List ℕ → List ℕ
wholes total weights = map (λ weight. whole_cents total weight (sum weights)) weights

pub wholes_sum : (total : ℕ) (weights : List ℕ) → sum (wholes total weights) ≡ sum_over (whole_at total weights) (length weights)
wholes_sum total weights = sum_each (λ weight. whole_cents total weight (sum weights)) weights

pub wholes_le_total : (total : ℕ) (weights : List ℕ) → sum (wholes total weights) ≤ total
wholes_le_total total weights = omega (arith, wholes_sum total weights, wholes_le total weights (length weights) (omega arith))
