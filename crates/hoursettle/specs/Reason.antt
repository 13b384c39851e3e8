-- The words for each reason of a refusal. Assumes nothing.
use Rattle.std.specs.Prelude.{ℕ, List, codes}
use Rattle.splitting.specs.declared.fault.Fault as splitting
use Rattle.splitting.specs.declared.fault.Fault.TheVariants as of_split
use Rattle.hour.specs.declared.fault.Fault.{Fault}
use Rattle.hour.specs.declared.fault.Fault.TheVariants.{RunOut, ForeignSlip, OutOfRange, EnrolledAlready, NotEnrolled, OfferAfterOrder, UnsoundBlocks, WrongMinute, LevelTooHigh, EnergyOutOfRange, WrongKinds, WrongStage, WrongParty, ListTooShort, ReadingMissing, Split, DrawsUsedUp, NetTooLarge}

-- why a charge cannot be split
abbrev pub split_reason : splitting.Fault → List ℕ
split_reason (of_split.ListTooShort needed) = codes "the list is too short for the shares needed"
split_reason of_split.NothingWeighs = codes "there is a charge, and no sink has a reading above 0"
split_reason of_split.LimitPassed = codes "a charge or its weights pass a limit"

-- why a call on the hour is refused
abbrev pub reason : Fault → List ℕ
reason (RunOut run) = codes "a run is out"
reason (ForeignSlip run) = codes "the slip is not that of the run out"
reason (OutOfRange number) = codes "an asset, participant, instruction or letter is out of range"
reason (EnrolledAlready asset) = codes "the asset is enrolled already"
reason (NotEnrolled asset) = codes "the asset is not enrolled"
reason (OfferAfterOrder asset) = codes "the asset has an order, so its offer stands"
reason (UnsoundBlocks asset) = codes "the blocks of the asset break the rules of an offer"
reason (WrongMinute minute) = codes "the minute or the span of minutes is wrong"
reason (LevelTooHigh asset) = codes "the asset has no blocks, or the level is above their sum"
reason (EnergyOutOfRange number) = codes "the energy of the asset or instruction is out of range"
reason (WrongKinds number) = codes "the instruction does not go from a source to a sink"
reason (WrongStage number) = codes "the instruction is in another stage"
reason (WrongParty participant) = codes "the participant is not a party to the instruction"
reason (ListTooShort needed) = codes "the list is too short for the places needed"
reason (ReadingMissing asset) = codes "the asset has no reading"
reason (Split fault) = split_reason fault
reason DrawsUsedUp = codes "all draws of the hour are made"
reason (NetTooLarge participant) = codes "the net of the participant is too large"
