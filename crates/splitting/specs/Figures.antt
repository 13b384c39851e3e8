-- Worked figures of the two rules, and two ways of splitting that the law excludes. Assumes nothing.
use Rattle.std.specs.Prelude.{◌≡◌, ℕ, ◌+◌, ◌*◌, ◌/◌, List, [], ◌∷◌, map, sum}
use Rattle.splitting.specs.Largest.{largest}
use Rattle.splitting.specs.Rule.{Lawful}
use Rattle.splitting.specs.Running.{running}

-- one cent over 2 and 1 kWh, and 45,000 cents over 110,000 and 50,000 kWh
pub record Figures : Type 0 where
  pub cent_by_largest : largest 1 (2 ∷ 1 ∷ []) ≡ 1 ∷ 0 ∷ []
  pub cent_by_running : running 1 (2 ∷ 1 ∷ []) ≡ 0 ∷ 1 ∷ []
  pub charge_by_largest : largest 45000 (110000 ∷ 50000 ∷ []) ≡ 30938 ∷ 14062 ∷ []
  pub charge_by_running : running 45000 (110000 ∷ 50000 ∷ []) ≡ 30937 ∷ 14063 ∷ []

-- the whole total to the first weight
abbrev pub loaded : ℕ → List ℕ → List ℕ
loaded total [] = []
loaded total (_ ∷ others) = total ∷ map (λ _. 0) others

-- each share rounded alone to the nearest cent, half up
abbrev pub rounded_alone : ℕ → List ℕ → List ℕ
rounded_alone total weights = map (λ weight. (2 * total * weight + sum weights) / (2 * sum weights)) weights

-- neither is a rule
pub record Excluded : Type 0 where
  pub loading : Lawful loaded → ⊥
  pub rounding_alone : Lawful rounded_alone → ⊥
