-- The slip that a draw hands out is that of the run out. Assumes nothing.
use Rattle.std.proofs.Common.{◌≡◌, ℕ, ◌+◌, Bool, true, false, cond, List, [], ◌∷◌, length, Ok, Err, Result, sym, refl, ap, ◌∙◌, subst, arith}
use Rattle.std.proofs.lemmas.Bool.{eq-eqb, eqb-true, and_parts, both_ways}
use Rattle.hour.specs.declared.fault.Fault.TheVariants.{ForeignSlip}
use Rattle.hour.specs.declared.slip.Slip.{Slip}
use Rattle.hour.specs.declared.slip.Returned.{Returned}
use Rattle.hour.specs.declared.line.Line.{Line}
use Rattle.hour.specs.declared.book.Book.{Book}
use Rattle.hour.specs.Reason.{Reason, first_fitting}
use Rattle.hour.specs.Run.{Drawing, draw_reasons, drawn, slip_of, slip_fits, slip_answer}

-- an accepted call gives what stands at the end of its reasons
pub given : {A : Type 0} (reasons : List Reason) (x y : A) → Ok y ≡ first_fitting reasons (Ok x) → y ≡ x
given [] x y e = cc
given (reason ∷ rest) x y e = at reason.fits e (given rest x y)
  where
    at : (b : Bool) → Ok y ≡ cond b (Err reason.fault) (first_fitting rest (Ok x)) → (Ok y ≡ first_fitting rest (Ok x) → y ≡ x) → y ≡ x
    at true said more = let z : ◌≡◌ {A = ℕ} 0 1 = cc in absurd (omega arith)
    at false said more = more said

-- after a draw its slip fits
pub fresh_fits : (shares : ℕ → List ℕ → List ℕ) (before : Book) (list : List Line) (slip : Slip) (after : Book) (left : List Line) → Drawing shares before list (Ok slip) after left → slip_fits after slip ≡ true
fresh_fits shares before list slip after left done =
    subst (λ b. slip_fits b slip ≡ true) (sym done.state)
    (subst (λ s. slip_fits (drawn shares before) s ≡ true) (sym (given (draw_reasons shares before (length list)) _ slip done.answer)) own)
  where
    own : slip_fits (drawn shares before) (slip_of before.market.label (before.draws + 1)) ≡ true
    own = rw (eq-eqb before.market.label _ refl, eq-eqb (before.draws + 1) _ refl) refl

-- a slip that fits is not returned
pub not_returned : (b : Book) (slip : Slip) (back : Returned) → slip_fits b slip ≡ true → Err back ≡ slip_answer b slip → ⊥
not_returned b slip back fits said = at (slip_fits b slip) fits said
  where
    at : (t : Bool) → t ≡ true → Err back ≡ cond t (Ok (tt {0})) (Err (record { slip = slip; fault = ForeignSlip slip.run })) → ⊥
    at true e h = let z : ◌≡◌ {A = ℕ} 0 1 = cc in absurd (omega arith)
    at false e h = absurd (both_ways _ refl e)

-- a slip comes back whole
pub same_slip : (b : Book) (slip : Slip) (back : Returned) → Err back ≡ slip_answer b slip → back.slip ≡ slip
same_slip b slip back said = at (slip_fits b slip) said
  where
    at : (t : Bool) → Err back ≡ cond t (Ok (tt {0})) (Err (record { slip = slip; fault = ForeignSlip slip.run })) → back.slip ≡ slip
    at true h = let z : ◌≡◌ {A = ℕ} 0 1 = cc in absurd (omega arith)
    at false h = let same : back ≡ (record { slip = slip; fault = ForeignSlip slip.run }) = cc in ap (λ x. x.slip) same

-- a slip that fits goes on fitting while the label and the run out are the same
pub fits_kept : (before after : Book) (slip : Slip) → after.market.label ≡ before.market.label → after.out ≡ before.out → slip_fits before slip ≡ true → slip_fits after slip ≡ true
fits_kept before after slip label out fits = rw (label, out) fits

-- an hour that returns a slip is as it was
pub refused_same : (b changed after : Book) (slip : Slip) (back : Returned) → Err back ≡ slip_answer b slip → after ≡ cond (slip_fits b slip) changed b → after ≡ b
refused_same b changed after slip back said state = at (slip_fits b slip) said state
  where
    at : (t : Bool) → Err back ≡ cond t (Ok (tt {0})) (Err (record { slip = slip; fault = ForeignSlip slip.run })) → after ≡ cond t changed b → after ≡ b
    at true h e = let z : ◌≡◌ {A = ℕ} 0 1 = cc in absurd (omega arith)
    at false h e = e

-- two slips that fit one hour fit the same hours
pub alike : (a b : Book) (slip other : Slip) → slip_fits b slip ≡ true → slip_fits b other ≡ true → slip_fits a slip ≡ true → slip_fits a other ≡ true
alike a b slip other fits also own =
    let p = and_parts _ _ (and_parts _ _ fits).1 in
    let q = and_parts _ _ (and_parts _ _ also).1 in
    let label : slip.label ≡ other.label = eqb-true _ _ p.0 ∙ sym (eqb-true _ _ q.0) in
    let run : slip.run ≡ other.run = eqb-true _ _ p.1 ∙ sym (eqb-true _ _ q.1) in
    rw (sym label, sym run) own

-- an hour that takes a slip fits it
pub taken : (b : Book) (slip : Slip) (u : Unit {0}) → Ok u ≡ slip_answer b slip → slip_fits b slip ≡ true
taken b slip u said = at (slip_fits b slip) said
  where
    at : (t : Bool) → ◌≡◌ {A = Result (Unit {0}) Returned} (Ok u) (cond t (Ok tt) (Err (record { slip = slip; fault = ForeignSlip slip.run }))) → t ≡ true
    at true h = refl
    at false h = let z : ◌≡◌ {A = ℕ} 0 1 = cc in absurd (omega arith)
