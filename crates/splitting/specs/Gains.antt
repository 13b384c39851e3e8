-- The running rule is lawful: its gains telescope, and each lies between two roundings. Assumes nothing.
use Rattle.std.specs.Prelude.{◌≡◌, ℕ, zero, suc, ◌+◌, ◌-◌, ◌*◌, ◌/◌, ◌%◌, ◌<◌, ◌≤◌, List, map, length, take, sum, slice_index, slice_index_or}
use Rattle.std.proofs.Common.{inl, inr, ⊎_elim, sym, ap, subst, ◌∙◌, mul-add, mul-zero, mod-lt, mul-div_cancel, add-one, arith}
use Rattle.std.proofs.Math.Nat.{zero-div, div-zero, div-add-mod}
use Rattle.std.specs.List.{range_with_len}
use Rattle.std.proofs.lemmas.Nat.{le-div}
use Rattle.std.proofs.lemmas.List.FromFn.{length-map-range_with_len, get_or-map-range_with_len, sum_by-map-range_with_len_more}
use Rattle.std.proofs.lemmas.List.{take_all}
use Rattle.std.proofs.lemmas.List.Sums.{sum_by_more}
use Rattle.std.proofs.lemmas.Bool.{cases_lt}
use Rattle.splitting.specs.Rule.{Near, Lawful}
use Rattle.splitting.specs.Running.{running, up_to}
use Rattle.splitting.specs.Weights.{Accepted}
use Rattle.splitting.specs.Fairness.{fair_from}

pub div_rises : (a b k : ℕ) → a ≤ b → a / k ≤ b / k
div_rises a b zero h = rw (div-zero a, div-zero b) (omega arith)
div_rises a b (suc k) h = le-div (a / suc k) b (suc k) (omega arith) (omega (arith, div-add-mod a (suc k)))

-- the difference of two rounded figures is less than one from the exact difference
pub gain_near : (total before weight all : ℕ) → 0 < all →
    Near total weight all (total * (before + weight) / all - total * before / all)
gain_near total before weight all h =
    let low = total * before / all in
    let high = total * (before + weight) / all in
    let rises : low ≤ high = div_rises (total * before) (total * (before + weight)) all (omega (arith, mul-add total before weight)) in
    let gain : all * (high - low) + all * low ≡ all * high =
    sym (mul-add all (high - low) low) ∙ ap (λ q. all * q) (omega arith) in
    let facts : total * (before + weight) ≡ total * before + total * weight = mul-add total before weight in
    let at_low : all * low + total * before % all ≡ total * before = div-add-mod (total * before) all in
    let at_high : all * high + total * (before + weight) % all ≡ total * (before + weight) = div-add-mod (total * (before + weight)) all in
    let left_low : total * before % all < all = mod-lt (total * before) h in
    let left_high : total * (before + weight) % all < all = mod-lt (total * (before + weight)) h in
    record { not_over = omega arith; not_under = omega arith }

pub front_more : (weights : List ℕ) (i : ℕ) → i < length weights → sum (take (i + 1) weights) ≡ sum (take i weights) + slice_index weights i
front_more weights i h = sum_by_more (λ x. x) weights i 0 h

module _ (total : ℕ) (weights : List ℕ) where
  pub up_to_rises : (i : ℕ) → i < length weights → up_to total weights i ≤ up_to total weights (i + 1)
  up_to_rises i h =
      let more : sum (take (i + 1) weights) ≡ sum (take i weights) + slice_index_or weights i 0 = front_more weights i h in
      div_rises (total * sum (take i weights)) (total * sum (take (i + 1) weights)) (sum weights)
      (rw more (omega (arith, mul-add total (sum (take i weights)) (slice_index weights i))))

  abbrev pub gain : ℕ → ℕ
  gain place = up_to total weights (place + 1) - up_to total weights place

  up_to_none : up_to total weights 0 ≡ 0
  up_to_none = rw mul-zero (zero-div (sum weights))

  gains_sum : (n : ℕ) → n ≤ length weights → sum (map gain (range_with_len 0 n)) ≡ up_to total weights n
  gains_sum zero h = sym up_to_none
  gains_sum (suc n) h =
      let so_far : sum (map gain (range_with_len 0 n)) ≡ up_to total weights n = gains_sum n (omega arith) in
      let more : sum (map gain (range_with_len 0 (n + 1))) ≡ sum (map gain (range_with_len 0 n)) + gain n =
      sum_by-map-range_with_len_more (λ x. x) gain 0 n n (omega arith) in
      let rises : up_to total weights n ≤ up_to total weights (n + 1) = up_to_rises n (omega arith) in
      let all_of : sum (map gain (range_with_len 0 (n + 1))) ≡ up_to total weights (n + 1) = omega arith in
      subst (λ m. sum (map gain (range_with_len 0 m)) ≡ up_to total weights m) (add-one n) all_of

  up_to_all : Accepted total weights → up_to total weights (length weights) ≡ total
  up_to_all ok =
      let whole : take (length weights) weights ≡ weights = take_all (length weights) weights (omega arith) in
      rw whole
      (⊎_elim
      (λ (h : 0 < sum weights). mul-div_cancel total h)
      (λ (h : sum weights ≤ 0).
      let none : sum weights ≡ 0 = omega arith in
      let empty : total ≡ 0 = elim (cases_lt 0 total) [ inl more ↦ absurd (omega (arith, ok.weighs more)) | inr le ↦ omega arith ] in
      rw (none, empty) (zero-div 0))
      (cases_lt 0 (sum weights)))

pub running_lawful : Lawful running
unfolding running
running_lawful total weights ok =
    fair_from total weights (running total weights)
    (length-map-range_with_len (gain total weights) 0 (length weights))
    (gains_sum total weights (length weights) (omega arith) ∙ up_to_all total weights ok)
    (λ h place within.
    rw (get_or-map-range_with_len (gain total weights) 0 (length weights) place place 0 within (omega arith), front_more weights place within)
    (gain_near total (sum (take place weights)) (slice_index weights place) (sum weights) h))
