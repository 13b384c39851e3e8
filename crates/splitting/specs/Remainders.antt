-- Whole cents and remainders: handing out the leftover cents in an order that puts remainders above 0 first is fair. Assumes nothing.
use Rattle.std.specs.Prelude.{◌≡◌, ℕ, zero, suc, ◌+◌, ◌*◌, ◌/◌, ◌%◌, ◌<◌, ◌≤◌, Bool, true, false, cond, List, map, length, take, sum, nat_lt, slice_index, slice_index_or}
use Rattle.std.proofs.Math.Logic.{inl, inr}
use Rattle.std.proofs.Math.Path.{refl, subst}
use Rattle.std.proofs.Common.{sym, ap, ◌∙◌, mul-zero, mul_comm, mul-le-mul_left, add-one}
use Rattle.std.proofs.Math.Nat.{mul-add, div-zero, div-add-mod, mod-lt, le_of_mul-le-mul_left}
use native.Mathlib.Omega.{arith}
use Rattle.std.specs.List.{range_with_len}
use Rattle.std.proofs.lemmas.List.FromFn.{length-map-range_with_len, get_or-map-range_with_len}
use Rattle.std.proofs.lemmas.List.{take_all}
use Rattle.std.proofs.lemmas.List.Sums.{sum_by_more, sum_by-take-le}
use Rattle.std.proofs.lemmas.Bool.{cases_lt, ltb-true, lt-ltb}
use Rattle.std.proofs.lemmas.Bool.Decides.{nat_tests}
use Rattle.splitting.specs.Largest.{whole_at, remainder_at, leftover, handed_out, larger, largest}
use Rattle.splitting.specs.Places.{sum_over, how_many, rank, StrictOrder}
use Rattle.splitting.specs.Rule.{Near, Fair, Lawful}
use Rattle.splitting.specs.Weights.{Accepted}
use Rattle.splitting.specs.Counts.{sum_over_add, sum_table, how_many_le, how_many_at_most}
use Rattle.splitting.specs.Fairness.{fair_from}
use Rattle.splitting.specs.Ranks.{first_ranks}

-- whole cents, or one more where there is a remainder, are near
near_whole : (total weight all : ℕ) (more : Bool) → 0 < all → (more ≡ true → 0 < total * weight % all) →
    Near total weight all (total * weight / all + cond more 1 0)
near_whole total weight all false h _ =
    let parts : all * (total * weight / all) + total * weight % all ≡ total * weight = div-add-mod (total * weight) all in
    let small : total * weight % all < all = mod-lt (total * weight) h in
    let split : all * (total * weight / all + 0) ≡ all * (total * weight / all) + all * 0 = mul-add all (total * weight / all) 0 in
    record { not_over = omega arith; not_under = omega arith }
near_whole total weight all true h some =
    let parts : all * (total * weight / all) + total * weight % all ≡ total * weight = div-add-mod (total * weight) all in
    let small : total * weight % all < all = mod-lt (total * weight) h in
    let left : 0 < total * weight % all = some refl in
    let split : all * (total * weight / all + 1) ≡ all * (total * weight / all) + all * 1 = mul-add all (total * weight / all) 1 in
    record { not_over = omega arith; not_under = omega arith }

-- the share of a place
abbrev pub handed : (ℕ → ℕ → Bool) → ℕ → List ℕ → ℕ → ℕ
handed before total weights place = whole_at total weights place + cond (nat_lt (rank before (length weights) place) (leftover total weights)) 1 0

module _ (total : ℕ) (weights : List ℕ) where
  abbrev all : ℕ
  all = sum weights

  abbrev whole : ℕ → ℕ
  whole = whole_at total weights

  abbrev left : ℕ → ℕ
  left = remainder_at total weights

  abbrev some_left : ℕ → Bool
  some_left place = nat_lt 0 (left place)

  -- whole cents and remainders together are the exact proportions
  parts : (n : ℕ) → n ≤ length weights → all * sum_over whole n + sum_over left n ≡ total * sum (take n weights)
  unfolding sum_over
  parts zero h = rw (mul-zero, mul-zero) refl
  parts (suc n) h =
      let before : all * sum_over whole n + sum_over left n ≡ total * sum (take n weights) = parts n (omega arith) in
      let here : all * whole n + left n ≡ total * slice_index_or weights n 0 = div-add-mod (total * slice_index weights n) all in
      let front : sum (take (n + 1) weights) ≡ sum (take n weights) + slice_index_or weights n 0 = sum_by_more (λ x. x) weights n 0 (omega arith) in
      let both : total * (sum (take n weights) + slice_index weights n) ≡ total * sum (take n weights) + total * slice_index_or weights n 0 = mul-add total (sum (take n weights)) (slice_index weights n) in
      let wholes : all * (sum_over whole n + whole n) ≡ all * sum_over whole n + all * whole n = mul-add all (sum_over whole n) (whole n) in
      subst (λ m. all * (sum_over whole n + whole n) + (sum_over left n + left n) ≡ total * sum (take m weights)) (add-one n)
      (rw front (omega arith))

  wholes_none : all ≡ 0 → (n : ℕ) → sum_over whole n ≡ 0
  unfolding sum_over
  wholes_none e zero = refl
  wholes_none e (suc n) =
      let here : whole n ≡ 0 = rw e (div-zero (total * slice_index weights n)) in
      omega (arith, wholes_none e n)

  pub wholes_le : (n : ℕ) → n ≤ length weights → sum_over whole n ≤ total
  wholes_le n h =
      elim (cases_lt 0 all) [
        | inl some ↦
            le_of_mul-le-mul_left {k = all}
            (omega (arith, parts n h, mul-le-mul_left total (sum_by-take-le (λ x. x) weights n), mul_comm total all))
            some
        | inr none ↦ omega (arith, wholes_none (omega arith) n)
      ]

  left_le : 0 < all → (n : ℕ) → sum_over left n ≤ all * how_many some_left n
  unfolding sum_over
  left_le some zero = omega arith
  left_le some (suc n) =
      let small : left n < all = mod-lt (total * slice_index weights n) some in
      let here : left n ≤ all * cond (some_left n) 1 0 =
      elim (cases_lt 0 (left n)) [
        | inl l ↦ rw (lt-ltb 0 (left n) l) (omega arith)
        | inr l ↦ omega (arith)
      ] in
      omega (arith, left_le some n, here, mul-add all (how_many some_left n) (cond (some_left n) 1 0))

  -- no more cents are left over than places with a remainder
  leftover_le : 0 < all → leftover total weights ≤ how_many some_left (length weights)
  leftover_le some =
      let n = length weights in
      let given : sum_over whole n ≤ total = wholes_le n (omega arith) in
      let sums : all * sum_over whole n + sum_over left n ≡ total * sum (take n weights) = parts n (omega arith) in
      let whole_list : sum (take n weights) ≡ all = ap sum (take_all n weights (omega arith)) in
      let sums' : all * sum_over whole n + sum_over left n ≡ total * all = sums ∙ ap (λ s. total * s) whole_list in
      let back : all * (leftover total weights + sum_over whole n) ≡ all * leftover total weights + all * sum_over whole n =
      mul-add all (leftover total weights) (sum_over whole n) in
      let reach : leftover total weights + sum_over whole n ≡ total = omega arith in
      let back' : all * total ≡ all * leftover total weights + all * sum_over whole n = ap (λ s. all * s) (sym reach) ∙ back in
      le_of_mul-le-mul_left {k = all} (omega (arith, left_le some n, mul_comm total all)) some

  leftover_fits : Accepted total weights → leftover total weights ≤ length weights
  leftover_fits ok =
      elim (cases_lt 0 all) [
        | inl some ↦ omega (arith, leftover_le some, how_many_at_most some_left (length weights))
        | inr none ↦ elim (cases_lt 0 total) [ inl more ↦ absurd (omega (arith, ok.weighs more)) | inr le ↦ omega arith ]
      ]

  module _ (before : ℕ → ℕ → Bool) (strict : StrictOrder before)
      (first : (i j : ℕ) → 0 < remainder_at total weights i → remainder_at total weights j ≡ 0 → before i j ≡ true) where
    abbrev served : ℕ → Bool
    served place = nat_lt (rank before (length weights) place) (leftover total weights)

    -- a place that gets one cent more has a remainder
    served_left : 0 < all → (place : ℕ) → served place ≡ true → 0 < left place
    served_left some place yes-served =
        elim (cases_lt 0 (left place)) [
          | inl l ↦ l
          | inr l ↦
              let none : left place ≡ 0 = omega arith in
              let ahead : how_many some_left (length weights) ≤ rank before (length weights) place =
              how_many_le some_left (λ o. before o place) (length weights) (λ o _ h. first o place (ltb-true 0 (left o) h) none) in
              absurd (omega (arith, leftover_le some, ltb-true _ _ yes-served))
        ]

    abbrev share : ℕ → ℕ
    share = handed before total weights

    pub handed_fair : Accepted total weights → Fair total weights (handed_out before total weights)
    unfolding handed_out
    handed_fair ok =
        let n = length weights in
        let given : sum_over whole n ≤ total = wholes_le n (omega arith) in
        let extra : how_many served n ≡ leftover total weights = first_ranks before strict n (leftover total weights) (leftover_fits ok) in
        let adds : sum (map share (range_with_len 0 n)) ≡ total =
        sum_table share n ∙ sum_over_add whole (λ i. cond (served i) 1 0) n ∙ (omega arith) in
        fair_from total weights (handed_out before total weights)
        (length-map-range_with_len share 0 n)
        adds
        (λ some place within.
        rw (get_or-map-range_with_len share 0 n place place 0 within (omega arith))
        (near_whole total (slice_index weights place) all (served place) some (served_left some place)))

  larger_strict : StrictOrder (larger total weights)
  larger_strict = record {
    not_itself = λ i. grind (arith, nat_tests);
    in_turn = λ i j k h m. grind (arith, nat_tests);
    decided = λ i j h m. grind (arith, nat_tests);
  }

  larger_first : (i j : ℕ) → 0 < left i → left j ≡ 0 → larger total weights i j ≡ true
  larger_first i j some none = grind (arith, nat_tests)

pub largest_lawful : Lawful largest
largest_lawful total weights ok =
    handed_fair total weights (larger total weights) (larger_strict total weights) (larger_first total weights) ok
