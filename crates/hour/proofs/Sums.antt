-- Sums over the numbers below a bound. Assumes nothing.
use Rattle.std.proofs.Common.{ℕ, zero, suc, ◌+◌, ◌*◌, ◌<◌, ◌≤◌, sym, subst, inl, inr, suc-mul, arith}
use Rattle.std.proofs.lemmas.Bool.{cases_eq}
use Rattle.prices.specs.Range.{total}

-- a part is at most the sum
pub part_le_total : (f : ℕ → ℕ) (n k : ℕ) → k < n → f k ≤ total f n
unfolding total
part_le_total f zero k lt = absurd (omega arith)
part_le_total f (suc n) k lt =
    elim (cases_eq k n) [ inl e ↦ subst (λ j. f j ≤ total f n + f n) (sym e) (omega arith) | inr ne ↦ omega (arith, part_le_total f n k (omega arith)) ]

-- a sum of figures that are at most m
pub total_le : (f : ℕ → ℕ) (m n : ℕ) → ((k : ℕ) → k < n → f k ≤ m) → total f n ≤ n * m
unfolding total
total_le f m zero each = omega arith
total_le f m (suc n) each =
    let before = total_le f m n (λ k lt. each k (omega arith)) in
    let here = each n (omega arith) in
    let more = suc-mul n m in
    omega (arith, before, here, more)
