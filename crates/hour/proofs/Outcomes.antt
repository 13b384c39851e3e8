-- What holds of the tables after a call that is accepted or refused. Assumes nothing.
use Rattle.std.proofs.Common.{◌≡◌, ℕ, zero, suc, Bool, true, false, cond, List, [], ◌∷◌, get_or, set, is_ok, Ok, Err, Result, sym, refl, ◌∙◌, subst, arith, ◌-◌, ◌<◌, ap}
use Rattle.std.proofs.lemmas.Bool.{cond-true, both_ways}
use Rattle.std.proofs.lemmas.Bool.Decides.{nat_tests}
use Rattle.hour.specs.declared.fault.Fault.{Fault}
use Rattle.hour.specs.Reason.{Reason, first_fitting, answer, outside}
use Rattle.hour.specs.Market.{outcome}

module _ {A T : Type 0} (r : Result T Fault) (changed before after : A) (state : after ≡ outcome r changed before) where
  -- what holds of the old tables, and of the changed ones if the call is accepted, holds after the call
  pub after_if : (P : A → Type 0) → (is_ok r ≡ true → P changed) → P before → P after
  after_if P new old = subst P (sym state) (at r new)
    where
      at : (s : Result T Fault) → (is_ok s ≡ true → P changed) → P (outcome s changed before)
      at (Ok x) got = got refl
      at (Err e) got = old

  pub after_has : (P : A → Type 0) → P changed → P before → P after
  after_has P new old = after_if P (λ _. new) old

  -- an accepted call leaves the changed tables
  pub accepted : is_ok r ≡ true → after ≡ changed
  accepted ok = state ∙ cond-true (is_ok r) changed before ok

  -- what the change does not touch is as it was
  pub untouched : {B : Type 0} (f : A → B) → f changed ≡ f before → f after ≡ f before
  untouched f same = after_has (λ x. f x ≡ f before) same refl

-- no reason of the list fits
abbrev pub NoneFits : List Reason → Type 0
NoneFits [] = Unit {0}
NoneFits (reason ∷ rest) = (reason.fits ≡ false) × NoneFits rest

-- if a call is accepted, none of its reasons fits
pub none_fits : {A : Type 0} (reasons : List Reason) (otherwise : Result A Fault) → is_ok (first_fitting reasons otherwise) ≡ true → NoneFits reasons
none_fits [] otherwise ok = tt
none_fits (reason ∷ rest) otherwise ok = at reason.fits refl ok (none_fits rest otherwise)
  where
    at : (b : Bool) → reason.fits ≡ b → is_ok (cond b (Err reason.fault) (first_fitting rest otherwise)) ≡ true → (is_ok (first_fitting rest otherwise) ≡ true → NoneFits rest) → (reason.fits ≡ false) × NoneFits rest
    at true e said more = absurd (both_ways _ refl said)
    at false e said more = (e, more said)

-- none of an accepted call's reasons fits
pub accepted_none : (r : Result (Unit {0}) Fault) (reasons : List Reason) → r ≡ answer reasons → is_ok r ≡ true → NoneFits reasons
accepted_none r reasons said ok = none_fits reasons (Ok tt) (ap is_ok (sym said) ∙ ok)

-- a number from 1 to 64 has a place in its table
pub place_inside : (number : ℕ) → outside 1 64 number ≡ false → number - 1 < 64
place_inside number inside = grind (arith, nat_tests)

-- what holds of a new element and of every old one holds of every element after the write
pub getD_set_has : {A : Type 0} (P : A → Type 0) (xs : List A) (i k : ℕ) (x d : A) → P x → P (get_or xs k d) → P (get_or (set xs i x) k d)
getD_set_has P [] i k x d new old = old
getD_set_has P (y ∷ ys) zero zero x d new old = new
getD_set_has P (y ∷ ys) zero (suc k) x d new old = old
getD_set_has P (y ∷ ys) (suc i) zero x d new old = old
getD_set_has P (y ∷ ys) (suc i) (suc k) x d new old = getD_set_has P ys i k x d new old

-- a check that is passed
pub passed : {A E : Type 0} (t : Bool) (x y : A) (e : E) → ◌≡◌ {A = Result A E} (Ok x) (cond t (Err e) (Ok y)) → t ≡ false
passed true x y e h = let z : ◌≡◌ {A = ℕ} 0 1 = cc in absurd (omega arith)
passed false x y e h = refl
