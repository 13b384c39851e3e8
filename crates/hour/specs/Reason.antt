-- The reasons for which a call is refused, and which of them counts. Assumes nothing.
use Rattle.std.specs.Prelude.{ℕ, ◌≤◌, Bool, cond, ◌||◌, List, [], ◌∷◌, Ok, Err, Result, nat_lt}
use Rattle.hour.specs.declared.fault.Fault.{Fault}
use Rattle.hour.specs.Fault.{refusal}

-- a reason: whether it fits, and the fault that it gives
pub record Reason : Type 0 where
  pub fits : Bool
  pub fault : Fault

-- a reason that fits if a test is true
abbrev pub when : Bool → Fault → Reason
when test fault = record { fits = test; fault = fault }

-- the first reason that fits decides; if none fits, the call goes on
abbrev pub first_fitting : {A : Type 0} → List Reason → Result A Fault → Result A Fault
first_fitting [] otherwise = otherwise
first_fitting (reason ∷ rest) otherwise = cond reason.fits (Err reason.fault) (first_fitting rest otherwise)

-- what a call without a result answers
abbrev pub answer : List Reason → Result (Unit {0}) Fault
answer reasons = first_fitting reasons (Ok tt)

-- the reasons stand by rising row, so that the first that fits is the topmost
abbrev pub Rising : List Reason → Type 0
Rising [] = Unit {0}
Rising (reason ∷ []) = Unit {0}
Rising (reason ∷ next ∷ rest) = ((refusal reason.fault).row ≤ (refusal next.fault).row) × Rising (next ∷ rest)

-- a number outside its range
abbrev pub outside : ℕ → ℕ → ℕ → Bool
outside low high number = nat_lt number low || nat_lt high number
