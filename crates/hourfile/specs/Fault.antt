-- What each fault of a file tells the caller. Assumes nothing.
use Rattle.std.specs.Prelude.{ℕ}
use Rattle.splitting.specs.Fault.{Refusal}
use Rattle.hour.specs.Fault as hour
use Rattle.hourfile.specs.declared.fault.Fault.{Fault}
use Rattle.hourfile.specs.declared.fault.Fault.TheVariants.{Hour, TooLarge, IllFormed, TextTooShort}

-- a refusal of the layer F, whose code is 70
abbrev pub of_file : ℕ → ℕ → Refusal
of_file row subject = record { layer = 70; row = row; subject = subject }

-- the table of refusals; the hour's refusal is passed on whole
abbrev pub refusal : Fault → Refusal
refusal (Hour fault) = hour.refusal fault
refusal TooLarge = of_file 19 0
refusal (IllFormed place) = of_file 19 place
refusal (TextTooShort needed) = of_file 14 needed
