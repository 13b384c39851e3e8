-- What each fault tells the caller. Assumes nothing.
use Rattle.std.specs.Prelude.{ℕ}
use Rattle.splitting.specs.declared.fault.Fault.{Fault}
use Rattle.splitting.specs.declared.fault.Fault.TheVariants.{ListTooShort, NothingWeighs, LimitPassed}

-- a refusal: the code of the layer's letter, the row of the table of refusals, the subject
pub record Refusal : Type 0 where
  pub layer : ℕ
  pub row : ℕ
  pub subject : ℕ

-- a refusal of the layer S, whose code is 83
abbrev pub of_splitting : ℕ → ℕ → Refusal
of_splitting row subject = record { layer = 83; row = row; subject = subject }

-- the table of refusals
abbrev pub refusal : Fault → Refusal
refusal (ListTooShort needed) = of_splitting 14 needed
refusal NothingWeighs = of_splitting 16 0
refusal LimitPassed = of_splitting 17 0
