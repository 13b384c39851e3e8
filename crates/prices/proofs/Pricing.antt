-- The system price and the setter in words. Assumes nothing.
use Rattle.std.proofs.Common.{◌≡◌, ℕ, suc, ◌<◌, Bool, true, false, cond, Some, None, Option, unwrap_or, sym, refl, ap, ◌∙◌, subst, arith}
use native.Mathlib.Numerals.{suc-eq-add-one}
use Rattle.std.specs.Option.{option_map}
use Rattle.std.proofs.lemmas.Bool.{eqb-true, eq-eqb, both_ways, cond-false}
use Rattle.prices.specs.declared.schedule.Schedule.{Schedule}
use Rattle.prices.specs.Range.{first_place}
use Rattle.prices.specs.Schedule.{marked_in, proposed, top_price, system_price, SystemPrice}
use Rattle.prices.specs.Setter.{setter_of, setter_is, is_number, sets_price, Sets}
use Rattle.prices.proofs.Ranges.{Greatest, highest_greatest, Least, first_place_least}

conflict : {A : Type 0} {x : Option ℕ} {q : ℕ} → x ≡ None → x ≡ Some q → A
conflict e s = let z : ◌≡◌ {A = ℕ} 0 1 = cc in absurd (omega arith)

system_at : (s : Schedule) (minute : ℕ) (b : Bool) (top : Option ℕ) → marked_in s minute ≡ b → Greatest (proposed s minute) 64 top → SystemPrice s minute (cond b 100000 (unwrap_or top 0))
system_at s minute true top m g = record {
  capped = λ _. refl;
  unset = λ f _. absurd (both_ways _ f m);
  reached = λ f k p lt e. absurd (both_ways _ f m);
  topped = λ f k p lt e. absurd (both_ways _ f m);
}
system_at s minute false None m g = record {
  capped = λ t. absurd (both_ways _ m t);
  unset = λ _ _. refl;
  reached = λ _ k p lt e. conflict (g k lt) e;
  topped = λ _ k p lt e. conflict (g k lt) e;
}
system_at s minute false (Some top) m g = record {
  capped = λ t. absurd (both_ways _ m t);
  unset = λ _ none. conflict (none g.0.0 g.0.1) g.0.2;
  reached = λ _ k p lt e. g.0;
  topped = λ _ k p lt e. g.1 k lt p e;
}

-- the system price in words
pub system_words : (s : Schedule) (minute price : ℕ) → price ≡ system_price s minute → SystemPrice s minute price
unfolding system_price
system_words s minute price e =
    subst (SystemPrice s minute) (sym e) (system_at s minute (marked_in s minute) (top_price s minute) refl (highest_greatest (proposed s minute) 64))

found : (x : Option ℕ) (n : ℕ) → is_number x n ≡ true → x ≡ Some n
found None n e = absurd (both_ways _ refl e)
found (Some m) n e = ap Some (eqb-true m n e)

none_found : (s : Schedule) (minute : ℕ) → marked_in s minute ≡ false → ((k : ℕ) → k < 64 → sets_price s minute k ≡ false) → (k : ℕ) → k < 64 → (x : Option ℕ) → proposed s minute k ≡ x → x ≡ None
none_found s minute m never k lt None e = refl
none_found s minute m never k lt (Some p) e =
    let at = (system_words s minute (system_price s minute) refl).reached m k p lt e in
    absurd (both_ways _ (never at.0 at.1) (ap (λ x. is_number x (system_price s minute)) at.2 ∙ eq-eqb _ _ refl))

setter_at : (s : Schedule) (minute : ℕ) (b : Bool) (place : Option ℕ) → marked_in s minute ≡ b → Least (sets_price s minute) 64 place → Sets s minute (cond b None (option_map suc place))
setter_at s minute true place m l = λ f. absurd (both_ways _ f m)
setter_at s minute false None m l = λ f k lt. none_found s minute f l k lt (proposed s minute k) refl
setter_at s minute false (Some place) m l = record {
  place = place;
  numbered = suc-eq-add-one place;
  within = l.0;
  unmarked = m;
  priced = found (proposed s minute place) (system_price s minute) l.1;
}

-- the setter in words
pub setter_words : (s : Schedule) (minute : ℕ) (r : Option ℕ) → r ≡ setter_of s minute → Sets s minute r
setter_words s minute r e =
    subst (Sets s minute) (sym (e ∙ setter_is s minute)) (setter_at s minute (marked_in s minute) (first_place (sets_price s minute) 64) refl (first_place_least (sets_price s minute) 64))

-- the first asset that proposes the system price of an unmarked minute is its setter
pub setter_found : (s : Schedule) (minute price : ℕ) (place : Option ℕ) → marked_in s minute ≡ false → price ≡ system_price s minute → place ≡ first_place (λ k. is_number (proposed s minute k) price) 64 → option_map suc place ≡ setter_of s minute
setter_found s minute price place unmarked priced first =
    ap (option_map suc) (first ∙ ap (λ p. first_place (λ k. is_number (proposed s minute k) p) 64) priced)
    ∙ sym (setter_is s minute ∙ cond-false (marked_in s minute) None (option_map suc (first_place (sets_price s minute) 64)) unmarked)
