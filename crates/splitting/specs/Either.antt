-- What a rule that is one of two rules means. Assumes nothing.
use Rattle.std.specs.Prelude.{ℕ, List}
use Rattle.splitting.specs.declared.either.Either.{Either}
use Rattle.splitting.specs.declared.either.Either.TheVariants.{First, Second}

-- the meaning of the rule that it holds
abbrev pub chosen : {P Q : Type 0} → (P → ℕ → List ℕ → List ℕ) → (Q → ℕ → List ℕ → List ℕ) → Either P Q → ℕ → List ℕ → List ℕ
chosen first second (First rule) = first rule
chosen first second (Second rule) = second rule
