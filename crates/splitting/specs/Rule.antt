-- What makes a rule an apportioning rule, and what a split answers and leaves. Assumes nothing.
use Rattle.std.specs.Prelude.{◌≡◌, ℕ, ◌+◌, ◌*◌, ◌<◌, List, ◌++◌, length, drop, Ok, Err, sum, Result, slice_index}
use Rattle.splitting.specs.Weights.{Accepted, first_fault}
use Rattle.splitting.specs.declared.fault.Fault.{Fault}

-- a share is less than one cent from the exact proportion, total × weight / all
pub record Near (total weight all share : ℕ) : Type 0 where
  pub not_over : share * all < total * weight + all
  pub not_under : total * weight < share * all + all

-- shares that split a total fairly over the weights
pub record Fair (total : ℕ) (weights shares : List ℕ) : Type 0 where
  pub one_each : length shares ≡ length weights
  pub adds_up : sum shares ≡ total
  pub near : 0 < sum weights → (place : ℕ) → place < length weights → Near total (slice_index weights place) (sum weights) (slice_index shares place)
  pub nothing : total ≡ 0 → (place : ℕ) → slice_index shares place ≡ 0

-- the law of every rule: whatever can be split is split fairly
abbrev pub Lawful : (ℕ → List ℕ → List ℕ) → Type 0
Lawful meaning = (total : ℕ) (weights : List ℕ) → Accepted total weights → Fair total weights (meaning total weights)

-- what a split answers, and what it leaves in the list: the shares and the old contents behind them, or the list as it was
pub record Splits (meaning : ℕ → List ℕ → List ℕ) (total : ℕ) (weights before : List ℕ) (answer : Result (Unit {0}) Fault) (after : List ℕ) : Type 0 where
  pub answers : answer ≡ first_fault Err (Ok tt) (length before) total weights
  pub writes : after ≡ first_fault (λ _. before) (meaning total weights ++ drop (length weights) before) (length before) total weights
