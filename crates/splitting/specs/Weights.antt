-- When a total can be split over weights, and why it is refused. Assumes nothing.
use Rattle.std.specs.Prelude.{◌≡◌, ℕ, ◌<◌, ◌≤◌, cond, ◌&&◌, ◌||◌, List, length, Ok, Err, sum, Result, ◌==◌, nat_lt}
use Rattle.splitting.specs.Fault.{refusal}
use Rattle.splitting.specs.declared.fault.Fault.{Fault}
use Rattle.splitting.specs.declared.fault.Fault.TheVariants.{ListTooShort, NothingWeighs, LimitPassed}

-- at most 32 weights of at most 64,000,000 kWh together, and at most 10,000,000,000 cents
pub record Limited (total : ℕ) (weights : List ℕ) : Type 0 where
  pub few : length weights ≤ 32
  pub light : sum weights ≤ 64000000
  pub small : total ≤ 10000000000

-- a total that can be split: within the limits, and something weighs if there is something to split
pub record Accepted (total : ℕ) (weights : List ℕ) : Type 0 where
  pub limits : Limited total weights
  pub weighs : 0 < total → 0 < sum weights

-- the first fault that applies, in the order of the table, or what stands at the end
abbrev pub first_fault : {X : Type 0} → (Fault → X) → X → (places total : ℕ) → List ℕ → X
first_fault refuse end places total weights =
    cond (nat_lt places (length weights)) (refuse (ListTooShort (length weights)))
    (cond (nat_lt 0 total && sum weights == 0) (refuse NothingWeighs)
    (cond (nat_lt 32 (length weights) || (nat_lt 64000000 (sum weights) || nat_lt 10000000000 total)) (refuse LimitPassed)
    end))

-- a fault applies to a call
abbrev pub Applies : Fault → (places total : ℕ) → List ℕ → Type 0
Applies (ListTooShort needed) places total weights = (places < length weights) × (needed ≡ length weights)
Applies NothingWeighs places total weights = (0 < total) × (sum weights ≡ 0)
Applies LimitPassed places total weights = Limited total weights → ⊥

-- no fault applies, or this one does and has the topmost row of all that do
abbrev pub Topmost : {X : Type 0} → (places total : ℕ) → List ℕ → Result X Fault → Type 0
Topmost places total weights (Ok _) = (other : Fault) → Applies other places total weights → ⊥
Topmost places total weights (Err fault) =
    Applies fault places total weights × ((other : Fault) → Applies other places total weights → (refusal fault).row ≤ (refusal other).row)
