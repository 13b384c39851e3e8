-- Over any strict order of n places, exactly k places have a rank below k, if k is at most n. Assumes nothing.
use Rattle.std.specs.Prelude.{◌≡◌, ℕ, zero, suc, ◌+◌, ◌-◌, ◌<◌, ◌≤◌, Bool, true, false, cond, ltb, ◌⊎◌, nat_lt}
use Rattle.std.proofs.Math.Logic.{inl, inr}
use Rattle.std.proofs.Math.Path.{ap}
use native.Mathlib.Omega.{arith}
use Rattle.std.proofs.lemmas.Bool.{cases_lt, cases_Bool, both_ways}
use Rattle.std.proofs.lemmas.Bool.Decides.{nat_tests}
use Rattle.splitting.specs.Places.{sum_over, how_many, rank, StrictOrder}
use Rattle.splitting.specs.Counts.{sum_over_same, how_many_le, how_many_lt, how_many_at_most}

-- a place whose rank among n was x, once place n with rank r has come in
below_last : (x r k : ℕ) (b : Bool) → ((b ≡ false) × (x < r)) ⊎ ((b ≡ true) × (r ≤ x)) → r < k → nat_lt (x + cond b 1 0) k ≡ nat_lt x (k - 1)
below_last x r k b (inl h) l = let e = h.0 in let m = h.1 in rw e (grind (arith, nat_tests))
below_last x r k b (inr h) l = let e = h.0 in let m = h.1 in rw e (grind (arith, nat_tests))

above_last : (x r k : ℕ) (b : Bool) → ((b ≡ false) × (x < r)) ⊎ ((b ≡ true) × (r ≤ x)) → k ≤ r → nat_lt (x + cond b 1 0) k ≡ nat_lt x k
above_last x r k b (inl h) l = let e = h.0 in let m = h.1 in rw e (grind (arith, nat_tests))
above_last x r k b (inr h) l = let e = h.0 in let m = h.1 in rw e (grind (arith, nat_tests))

module _ (before : ℕ → ℕ → Bool) (strict : StrictOrder before) where
  never_both : (i j : ℕ) → before i j ≡ true → before j i ≡ false
  never_both i j h =
      elim (cases_Bool (before j i)) [
        | inl b ↦ absurd (both_ways (before i i) (strict.not_itself i) (strict.in_turn i j i h b))
        | inr b ↦ b
      ]

  -- where place n stands to an earlier one, and their ranks among the first n
  placed : (n i : ℕ) → i < n → ((before n i ≡ false) × (rank before n i < rank before n n)) ⊎ ((before n i ≡ true) × (rank before n n ≤ rank before n i))
  placed n i within =
      elim (cases_Bool (before n i)) [
        | inl b ↦ inr (b, how_many_le (λ o. before o n) (λ o. before o i) n (λ o _ h. strict.in_turn o n i h b))
        | inr b ↦
            let front : before i n ≡ true =
            elim (cases_Bool (before i n)) [ inl y ↦ y | inr z ↦ absurd (omega (arith, strict.decided n i b z)) ] in
            inl (b, how_many_lt (λ o. before o i) (λ o. before o n) n i (λ o _ h. strict.in_turn o i n h front) within (strict.not_itself i) front)
      ]

  pub first_ranks : (n k : ℕ) → k ≤ n → how_many (λ i. ltb (rank before n i) k) n ≡ k
  unfolding sum_over
  first_ranks zero k h = omega arith
  first_ranks (suc n) k h =
      let none : before n n ≡ false = strict.not_itself n in
      elim (cases_lt (rank before n n) k) [
        | inl l ↦
            let rest : how_many (λ i. ltb (rank before n i + cond (before n i) 1 0) k) n ≡ how_many (λ i. ltb (rank before n i) (k - 1)) n =
            sum_over_same _ _ n (λ i m. ap (λ b. cond {A = ℕ} b 1 0) (below_last (rank before n i) (rank before n n) k (before n i) (placed n i m) l)) in
            let last : ltb (rank before n n + cond (before n n) 1 0) k ≡ true = rw none (grind (arith, nat_tests)) in
            rw last (omega (arith, rest, first_ranks n (k - 1) (omega arith)))
        | inr l ↦
            let rest : how_many (λ i. ltb (rank before n i + cond (before n i) 1 0) k) n ≡ how_many (λ i. ltb (rank before n i) k) n =
            sum_over_same _ _ n (λ i m. ap (λ b. cond {A = ℕ} b 1 0) (above_last (rank before n i) (rank before n n) k (before n i) (placed n i m) l)) in
            let last : ltb (rank before n n + cond (before n n) 1 0) k ≡ false = rw none (grind (arith, nat_tests)) in
            rw last (omega (arith, rest, first_ranks n k (omega (arith, how_many_at_most (λ o. before o n) n))))
      ]
