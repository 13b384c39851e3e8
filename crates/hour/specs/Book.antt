-- The tables of a priced hour, and what meter, propose, confirm and withdraw answer and change. Assumes nothing.
use Rattle.std.specs.Prelude.{◌≡◌, ℕ, ◌-◌, Bool, true, false, not, ◌&&◌, ◌||◌, List, [], ◌∷◌, length, replicate, pos, is_some, Some, None, Option, ◌==◌, nat_le, nat_lt, slice_index_or, slice_set}
use Rattle.std.specs.Option.{unwrap_or}
use Rattle.prices.specs.declared.asset.Asset.{Asset}
use Rattle.prices.specs.Kind.{source, sink}
use Rattle.hour.specs.declared.fault.Fault.TheVariants.{RunOut, OutOfRange, NotEnrolled, EnergyOutOfRange, WrongKinds, WrongStage, WrongParty}
use Rattle.hour.specs.declared.record.Record.{Record}
use Rattle.hour.specs.declared.line.Amounts.{Amounts}
use Rattle.hour.specs.declared.run.Run.{Run}
use Rattle.hour.specs.declared.market.Market.{Market}
use Rattle.hour.specs.declared.book.Book.{Book}
use Rattle.hour.specs.declared.book.Step.{Step}
use Rattle.hour.specs.declared.instruction.Terms.{Terms}
use Rattle.hour.specs.declared.instruction.Instruction.{Instruction}
use Rattle.hour.specs.declared.instruction.Instruction.TheVariants.{Free, Proposed, Matched}
use Rattle.hour.specs.declared.instruction.Event.{Event}
use Rattle.hour.specs.declared.instruction.Event.TheVariants.{Propose, Confirm, Withdraw}
use Rattle.hour.specs.Reason.{Reason, when, outside}
use Rattle.hour.specs.Instruction.{next_stage, held_terms, terms_of}
use Rattle.hour.specs.Market.{asset_at, record_at, missing}

-- nothing to pay and nothing to charge
abbrev pub no_amounts : Amounts
no_amounts = record { energy = pos 0; uplift = pos 0; adjustment = pos 0; supply_charge = pos 0; load_charge = pos 0; net = pos 0 }

-- every instruction free, nothing drawn and nothing posted
abbrev pub new_book : Market → Book
new_book market = record { market = market; instructions = replicate 64 Free; posted = replicate 32 no_amounts; draws = 0; out = None }

-- every table has its full size
abbrev pub FullBook : Book → Type 0
FullBook b =
    (length b.market.schedule.assets ≡ 64) × (length b.market.schedule.marked ≡ 60) × (length b.market.records ≡ 64)
    × (length b.instructions ≡ 64) × (length b.posted ≡ 32)

-- number of the run that is out, 0 if there is none
abbrev pub run_number : Option Run → ℕ
run_number None = 0
run_number (Some run) = run.number

-- whether an enrolled asset is a source, and whether it is a sink
abbrev pub is_source : Option Asset → Bool
is_source None = false
is_source (Some asset) = source asset.kind

abbrev pub is_sink : Option Asset → Bool
is_sink None = false
is_sink (Some asset) = sink asset.kind

-- terms join an enrolled source and an enrolled sink by at most 1,000,000 kWh
abbrev pub joined_by : List (Option Asset) → Terms → Bool
joined_by assets t = is_source (slice_index_or assets (t.source - 1) None) && is_sink (slice_index_or assets (t.sink - 1) None) && nat_le 1 t.source && nat_le 1 t.sink && nat_le t.kwh 1000000

-- the same of an instruction that is not free
abbrev pub joins : List (Option Asset) → Instruction → Bool
joins assets Free = true
joins assets (Proposed t) = joined_by assets t
joins assets (Matched t) = joined_by assets t

-- an instruction at a place of the table
abbrev pub instruction_at : Book → ℕ → Instruction
instruction_at b place = slice_index_or b.instructions place Free

-- owner of an asset, by its number
abbrev pub owner_of : Market → ℕ → ℕ
owner_of m asset = (record_at m (asset - 1)).owner

-- the tables with other records, and with other instructions
abbrev pub with_records : Market → List Record → Market
with_records m records = record { label = m.label; schedule = m.schedule; records = records }

abbrev pub with_market : Book → Market → Book
with_market b market = record { market = market; instructions = b.instructions; posted = b.posted; draws = b.draws; out = b.out }

abbrev pub with_instruction : Book → ℕ → Instruction → Book
with_instruction b place instruction = record { market = b.market; instructions = slice_set b.instructions place instruction; posted = b.posted; draws = b.draws; out = b.out }

-- a record with a reading
abbrev pub read : Record → ℕ → Record
read entry kwh = record { owner = entry.owner; ordered = entry.ordered; reading = Some kwh }

-- the reason that comes first while a run is out
abbrev pub out_reason : Book → Reason
out_reason b = when (is_some b.out) (RunOut (run_number b.out))

abbrev pub meter_reasons : Book → ℕ → ℕ → List Reason
meter_reasons b asset kwh =
    out_reason b
    ∷ when (outside 1 64 asset) (OutOfRange asset)
    ∷ when (missing b.market asset) (NotEnrolled asset)
    ∷ when (nat_lt 1000000 kwh) (EnergyOutOfRange asset)
    ∷ []

-- the asset's reading is replaced
abbrev pub metered : Book → ℕ → ℕ → Book
metered b asset kwh =
    with_market b (with_records b.market (slice_set b.market.records (asset - 1) (read (record_at b.market (asset - 1)) kwh)))

-- what an instruction is proposed with
abbrev pub terms : ℕ → ℕ → ℕ → Terms
terms source sink kwh = record { source = source; sink = sink; kwh = kwh }

-- an event does not fit the stage of an instruction
abbrev pub misplaced : Book → ℕ → Event → Bool
misplaced b number event = not (is_some (next_stage (instruction_at b (number - 1)) event))

-- the instruction after an event
abbrev pub stepped : Book → ℕ → Event → Book
stepped b number event = with_instruction b (number - 1) (unwrap_or (next_stage (instruction_at b (number - 1)) event) Free)

abbrev pub propose_reasons : Book → ℕ → ℕ → ℕ → ℕ → List Reason
propose_reasons b number source sink kwh =
    out_reason b
    ∷ when (outside 1 64 number) (OutOfRange number)
    ∷ when (outside 1 64 source) (OutOfRange source)
    ∷ when (outside 1 64 sink) (OutOfRange sink)
    ∷ when (missing b.market source) (NotEnrolled source)
    ∷ when (missing b.market sink) (NotEnrolled sink)
    ∷ when (outside 1 1000000 kwh) (EnergyOutOfRange number)
    ∷ when (not (is_source (asset_at b.market (source - 1)) && is_sink (asset_at b.market (sink - 1)))) (WrongKinds number)
    ∷ when (misplaced b number (Propose (terms source sink kwh))) (WrongStage number)
    ∷ []

abbrev pub proposed : Book → ℕ → ℕ → ℕ → ℕ → Book
proposed b number source sink kwh = stepped b number (Propose (terms source sink kwh))

-- owners of the assets that an instruction names
abbrev pub source_owner : Book → ℕ → ℕ
source_owner b number = owner_of b.market (terms_of (instruction_at b (number - 1))).source

abbrev pub sink_owner : Book → ℕ → ℕ
sink_owner b number = owner_of b.market (terms_of (instruction_at b (number - 1))).sink

-- the reasons that confirm and withdraw share; an instruction without terms takes no step
abbrev pub step_reasons : Book → ℕ → ℕ → Event → List Reason
step_reasons b number participant event =
    out_reason b
    ∷ when (outside 1 64 number) (OutOfRange number)
    ∷ when (outside 1 32 participant) (OutOfRange participant)
    ∷ when (not (is_some (held_terms (instruction_at b (number - 1)))) || misplaced b number event) (WrongStage number)
    ∷ []

-- the step that an event makes of an instruction
abbrev pub step_of : Book → ℕ → Event → Step
step_of b number event =
    record { place = number - 1; terms = terms_of (instruction_at b (number - 1)); next = unwrap_or (next_stage (instruction_at b (number - 1)) event) Free }

abbrev pub confirm_reasons : Book → ℕ → ℕ → List Reason
confirm_reasons b number participant =
    out_reason b
    ∷ when (outside 1 64 number) (OutOfRange number)
    ∷ when (outside 1 32 participant) (OutOfRange participant)
    ∷ when (misplaced b number Confirm) (WrongStage number)
    ∷ when (not (participant == sink_owner b number)) (WrongParty participant)
    ∷ []

abbrev pub confirmed : Book → ℕ → Book
confirmed b number = stepped b number Confirm

abbrev pub withdraw_reasons : Book → ℕ → ℕ → List Reason
withdraw_reasons b number participant =
    out_reason b
    ∷ when (outside 1 64 number) (OutOfRange number)
    ∷ when (outside 1 32 participant) (OutOfRange participant)
    ∷ when (misplaced b number Withdraw) (WrongStage number)
    ∷ when (not (participant == source_owner b number || participant == sink_owner b number)) (WrongParty participant)
    ∷ []

abbrev pub withdrawn : Book → ℕ → Book
withdrawn b number = stepped b number Withdraw
