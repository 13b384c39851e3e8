-- Laws of sums over the numbers below a bound, natural and signed. Assumes nothing.
use Rattle.std.proofs.Common.{◌≡◌, ℕ, zero, suc, ◌+◌, ◌*◌, ◌<◌, Bool, true, false, cond, ℤ, pos, ◌-ℤ◌, sym, refl, ap, ◌∙◌, inl, inr, mul-zero, mul-add, arith}
use Rattle.std.proofs.lemmas.Int.{ints}
use Rattle.std.proofs.lemmas.Bool.{cases_eq}
use Rattle.prices.specs.Range.{total}
use Rattle.ledger.specs.Sums.{totalℤ}

-- a sum of zeros
pub total_zero : (f : ℕ → ℕ) (n : ℕ) → ((k : ℕ) → k < n → f k ≡ 0) → total f n ≡ 0
unfolding total
total_zero f zero none = refl
total_zero f (suc n) none = omega (arith, total_zero f n (λ k lt. none k (omega arith)), none n (omega arith))

-- a sum of sums of two
pub total_add : (f g : ℕ → ℕ) (n : ℕ) → total (λ k. f k + g k) n ≡ total f n + total g n
unfolding total
total_add f g zero = refl
total_add f g (suc n) = omega (arith, total_add f g n)

-- a sum of multiples
pub total_times : (p : ℕ) (f : ℕ → ℕ) (n : ℕ) → total (λ k. p * f k) n ≡ p * total f n
unfolding total
total_times p f zero = sym (mul-zero p)
total_times p f (suc n) = omega (arith, total_times p f n, mul-add p (total f n) (f n))

-- rows first or columns first
pub total_swap : (f : ℕ → ℕ → ℕ) (m n : ℕ) → total (λ i. total (f i) n) m ≡ total (λ j. total (λ i. f i j) m) n
unfolding total
total_swap f zero n = sym (total_zero (λ j. 0) n (λ k lt. refl))
total_swap f (suc m) n = ap (λ x. x + total (f m) n) (total_swap f m n) ∙ sym (total_add (λ j. total (λ i. f i j) m) (f m) n)

-- only one place is not zero
pub total_pick : (f : ℕ → ℕ) (n i : ℕ) → i < n → ((k : ℕ) → (k ≡ i → ⊥) → f k ≡ 0) → total f n ≡ f i
unfolding total
total_pick f zero i lt none = absurd (omega arith)
total_pick f (suc n) i lt none =
    elim (cases_eq n i) [
      | inl e ↦ omega (arith, total_zero f n (λ k below. none k (λ same. omega arith)), ap f e)
      | inr ne ↦ omega (arith, total_pick f n i (omega arith) none, none n ne)
    ]

-- a sum where a test holds
pub total_when : (b : Bool) (f : ℕ → ℕ) (n : ℕ) → cond b (total f n) 0 ≡ total (λ k. cond b (f k) 0) n
total_when true f n = refl
total_when false f n = sym (total_zero (λ k. 0) n (λ k lt. refl))

-- equal signed figures have equal sums
pub totalℤ-same : (f g : ℕ → ℤ) (n : ℕ) → ((k : ℕ) → k < n → f k ≡ g k) → totalℤ f n ≡ totalℤ g n
unfolding totalℤ
totalℤ-same f g zero same = refl
totalℤ-same f g (suc n) same =
    let before = totalℤ-same f g n (λ k lt. same k (omega arith)) in
    let here = same n (omega arith) in
    cc

-- a sum of differences is the difference of the sums
pub total_differences : (f g : ℕ → ℕ) (n : ℕ) → totalℤ (λ k. pos (f k) -ℤ pos (g k)) n ≡ pos (total f n) -ℤ pos (total g n)
unfolding total totalℤ
total_differences f g zero = refl
total_differences f g (suc n) = omega (arith, ints, total_differences f g n)
