-- Sums, counts, maxima and first places over the numbers below a bound. Assumes nothing.
use Rattle.std.specs.Prelude.{ℕ, zero, suc, ◌+◌, max, Bool, cond, Some, None, Option}

-- f 0 + .. + f (n - 1)
unfoldable pub total : (ℕ → ℕ) → ℕ → ℕ
total f zero = 0
total f (suc n) = total f n + f n

-- how many of the numbers below n pass the test
abbrev pub count : (ℕ → Bool) → ℕ → ℕ
count p n = total (λ k. cond (p k) 1 0) n

-- the higher of two figures, either of which may be missing
abbrev pub higher : Option ℕ → Option ℕ → Option ℕ
higher None y = y
higher (Some x) None = Some x
higher (Some x) (Some y) = Some (max x y)

-- the highest of f 0 .. f (n - 1), none where all are missing
unfoldable pub highest : (ℕ → Option ℕ) → ℕ → Option ℕ
highest f zero = None
highest f (suc n) = higher (highest f n) (f n)

-- the first of two places, either of which may be missing
abbrev pub earlier : Option ℕ → Option ℕ → Option ℕ
earlier None y = y
earlier (Some x) y = Some x

-- the least number below n that passes the test
unfoldable pub first_place : (ℕ → Bool) → ℕ → Option ℕ
first_place p zero = None
first_place p (suc n) = earlier (first_place p n) (cond (p n) (Some n) None)
