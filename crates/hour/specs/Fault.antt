-- What each fault of an hour tells the caller. Assumes nothing.
use Rattle.std.specs.Prelude.{ℕ}
use Rattle.splitting.specs.Fault as splitting
use Rattle.splitting.specs.Fault.{Refusal}
use Rattle.hour.specs.declared.fault.Fault.{Fault}
use Rattle.hour.specs.declared.fault.Fault.TheVariants.{RunOut, ForeignSlip, OutOfRange, EnrolledAlready, NotEnrolled, OfferAfterOrder, UnsoundBlocks, WrongMinute, LevelTooHigh, EnergyOutOfRange, WrongKinds, WrongStage, WrongParty, ListTooShort, ReadingMissing, Split, DrawsUsedUp, NetTooLarge}

-- a refusal of the layer H, whose code is 72
abbrev pub of_hour : ℕ → ℕ → Refusal
of_hour row subject = record { layer = 72; row = row; subject = subject }

-- the table of refusals; a rule's refusal is passed on whole
abbrev pub refusal : Fault → Refusal
refusal (RunOut run) = of_hour 1 run
refusal (ForeignSlip run) = of_hour 2 run
refusal (OutOfRange number) = of_hour 3 number
refusal (EnrolledAlready asset) = of_hour 4 asset
refusal (NotEnrolled asset) = of_hour 5 asset
refusal (OfferAfterOrder asset) = of_hour 6 asset
refusal (UnsoundBlocks asset) = of_hour 7 asset
refusal (WrongMinute minute) = of_hour 8 minute
refusal (LevelTooHigh asset) = of_hour 9 asset
refusal (EnergyOutOfRange number) = of_hour 10 number
refusal (WrongKinds number) = of_hour 11 number
refusal (WrongStage number) = of_hour 12 number
refusal (WrongParty participant) = of_hour 13 participant
refusal (ListTooShort needed) = of_hour 14 needed
refusal (ReadingMissing asset) = of_hour 15 asset
refusal (Split fault) = splitting.refusal fault
refusal DrawsUsedUp = of_hour 17 0
refusal (NetTooLarge participant) = of_hour 18 participant
