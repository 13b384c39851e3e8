-- What an accepted call knows of its total and weights. Assumes nothing.
use Rattle.std.specs.Prelude.{◌≡◌, ℕ, ◌*◌, ◌<◌, ◌≤◌, Bool, false, ◌&&◌, ◌||◌, ltb, List, length, Ok, Err, sum, Result, ◌==◌, nat_lt, slice_index}
use Rattle.std.proofs.Common.{◌∙◌, div-le_self, arith}
use Rattle.std.proofs.lemmas.Nat.{mul-le}
use Rattle.std.proofs.lemmas.List.Sums.{get_or-le-sum_by}
use Rattle.std.proofs.lemmas.Bool.{cond-false}
use Rattle.std.proofs.lemmas.Bool.Decides.{nat_tests}
use Rattle.splitting.specs.Proportion.{whole_cents}
use Rattle.splitting.specs.Weights.{Limited, Accepted, first_fault}
use Rattle.splitting.specs.declared.fault.Fault.{Fault}

module _ (places total : ℕ) (weights : List ℕ) where
  abbrev weightless : Bool
  weightless = nat_lt 0 total && sum weights == 0

  abbrev passed : Bool
  passed = nat_lt 32 (length weights) || (nat_lt 64000000 (sum weights) || nat_lt 10000000000 total)

  within : passed ≡ false → Limited total weights
  within h = record { few = grind (arith, nat_tests); light = grind (arith, nat_tests); small = grind (arith, nat_tests) }

  -- what an accepted call knows
  pub accepted_at : {X : Type 0} (x y : X) → ◌≡◌ {A = Result X Fault} (Ok y) (first_fault Err (Ok x) places total weights) → Accepted total weights × (length weights ≤ places) × (y ≡ x)
  accepted_at x y e =
      let long : length weights ≤ places = grind (arith, nat_tests) in
      let heavy : 0 < total → 0 < sum weights = λ h. grind (arith, nat_tests) in
      let inside : passed ≡ false = grind (arith, nat_tests) in
      let same : y ≡ x = grind (arith, nat_tests) in
      (record { limits = within inside; weighs = heavy }, long, same)

  -- where one chain of reasons comes to its end, so does every other
  pub at_end : {X Y : Type 0} (x y : X) (refuse : Fault → Y) (end : Y) → ◌≡◌ {A = Result X Fault} (Ok y) (first_fault Err (Ok x) places total weights) → first_fault refuse end places total weights ≡ end
  at_end x y refuse end e =
      let long : ltb places (length weights) ≡ false = grind (arith, nat_tests) in
      let heavy : weightless ≡ false = grind (arith, nat_tests) in
      let inside : passed ≡ false = grind (arith, nat_tests) in
      cond-false (nat_lt places (length weights)) _ _ long ∙ cond-false weightless _ _ heavy ∙ cond-false passed _ _ inside

-- each weight is within the limit of their sum
pub weight_le : (total : ℕ) (weights : List ℕ) → Limited total weights → (i : ℕ) → i < length weights → slice_index weights i ≤ 64000000
weight_le total weights limits i h = omega (arith, limits.light, get_or-le-sum_by (λ x. x) weights i 0 h)

pub whole_cents_le : (total part all : ℕ) → total ≤ 10000000000 → part ≤ 64000000 → whole_cents total part all ≤ 640000000000000000
whole_cents_le total part all small light =
    omega (arith, div-le_self (total * part) all, mul-le total part 10000000000 64000000 small light)
