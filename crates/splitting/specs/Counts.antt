-- Sums and counts over places. Assumes nothing.
use Rattle.std.specs.Prelude.{◌≡◌, ℕ, zero, suc, ◌+◌, ◌<◌, ◌≤◌, Bool, true, false, cond, map, sum, refl}
use Rattle.std.proofs.Common.{inl, inr, sym, ap, subst, ◌∙◌, add-one, arith}
use Rattle.std.specs.List.{range_with_len}
use Rattle.std.proofs.lemmas.List.FromFn.{sum_by-map-range_with_len_more}
use Rattle.std.proofs.lemmas.Bool.{cases_lt}
use Rattle.splitting.specs.Places.{sum_over, how_many}

pub sum_over_none : (f : ℕ → ℕ) → sum_over f 0 ≡ 0
unfolding sum_over
sum_over_none f = refl

pub sum_over_more : (f : ℕ → ℕ) (n : ℕ) → sum_over f (n + 1) ≡ sum_over f n + f n
unfolding sum_over
sum_over_more f n = rw add-one refl

-- one place more, with the answer of its test
pub how_many_more : (p : ℕ → Bool) (n : ℕ) (b : Bool) → b ≡ p n → how_many p (n + 1) ≡ how_many p n + cond b 1 0
how_many_more p n b e = sum_over_more (λ i. cond (p i) 1 0) n ∙ ap (λ t. how_many p n + cond t 1 0) (sym e)

pub sum_over_same : (f g : ℕ → ℕ) (n : ℕ) → ((i : ℕ) → i < n → f i ≡ g i) → sum_over f n ≡ sum_over g n
unfolding sum_over
sum_over_same f g zero h = refl
sum_over_same f g (suc n) h = omega (arith, sum_over_same f g n (λ i l. h i (omega arith)), h n (omega arith))

pub sum_over_add : (f g : ℕ → ℕ) (n : ℕ) → sum_over (λ i. f i + g i) n ≡ sum_over f n + sum_over g n
unfolding sum_over
sum_over_add f g zero = refl
sum_over_add f g (suc n) = omega (arith, sum_over_add f g n)

-- the list's sum and the sum over its places
pub sum_table : (f : ℕ → ℕ) (n : ℕ) → sum (map f (range_with_len 0 n)) ≡ sum_over f n
unfolding sum_over
sum_table f zero = refl
sum_table f (suc n) =
    let more : sum (map f (range_with_len 0 (n + 1))) ≡ sum (map f (range_with_len 0 n)) + f n = sum_by-map-range_with_len_more (λ x. x) f 0 n n (omega arith) in
    subst (λ m. sum (map f (range_with_len 0 m)) ≡ sum_over f n + f n) (add-one n) (omega (arith, sum_table f n))

one_le : (a b : Bool) → (a ≡ true → b ≡ true) → cond {A = ℕ} a 1 0 ≤ cond b 1 0
one_le false b h = omega arith
one_le true b h = rw (h refl) (omega arith)

pub how_many_le : (p q : ℕ → Bool) (n : ℕ) → ((i : ℕ) → i < n → p i ≡ true → q i ≡ true) → how_many p n ≤ how_many q n
unfolding sum_over
how_many_le p q zero h = omega arith
how_many_le p q (suc n) h =
    omega (arith, how_many_le p q n (λ i l. h i (omega arith)), one_le (p n) (q n) (h n (omega arith)))

pub how_many_lt : (p q : ℕ → Bool) (n k : ℕ) → ((i : ℕ) → i < n → p i ≡ true → q i ≡ true) → k < n → p k ≡ false → q k ≡ true → how_many p n < how_many q n
unfolding sum_over
how_many_lt p q zero k h within out into = absurd (omega arith)
how_many_lt p q (suc n) k h within out into =
    elim (cases_lt k n) [
      | inl l ↦ omega (arith, how_many_lt p q n k (λ i m. h i (omega arith)) l out into, one_le (p n) (q n) (h n (omega arith)))
      | inr l ↦
          let same : k ≡ n = omega arith in
          let less : how_many p n ≤ how_many q n = how_many_le p q n (λ i m. h i (omega arith)) in
          let no_p : p n ≡ false = ap p (sym same) ∙ out in
          let is_q : q n ≡ true = ap q (sym same) ∙ into in
          rw (no_p, is_q) (omega arith)
    ]

pub how_many_at_most : (p : ℕ → Bool) (n : ℕ) → how_many p n ≤ n
unfolding sum_over
how_many_at_most p zero = omega arith
how_many_at_most p (suc n) = omega (arith, how_many_at_most p n, one_le (p n) true (λ _. refl))
