-- What meter, propose, confirm and withdraw answer and what is true of the tables after them. Assumes nothing.
use Rattle.std.specs.Prelude.{◌≡◌, ℕ, ◌-◌, true, ◌⊎◌, is_ok, Some, Result, ◌≢◌}
use Rattle.hour.specs.declared.fault.Fault.{Fault}
use Rattle.hour.specs.declared.book.Book.{Book}
use Rattle.hour.specs.declared.instruction.Terms.{Terms}
use Rattle.hour.specs.declared.instruction.Instruction.TheVariants.{Free, Proposed, Matched}
use Rattle.hour.specs.Reason.{answer, Rising}
use Rattle.hour.specs.Market.{outcome, asset_at, record_at}
use Rattle.hour.specs.Book.{instruction_at, is_source, is_sink, owner_of, meter_reasons, metered, propose_reasons, proposed, confirm_reasons, confirmed, withdraw_reasons, withdrawn}

-- all but the readings is as it was
pub record OnlyReading (before after : Book) (place : ℕ) : Type 0 where
  pub label : after.market.label ≡ before.market.label
  pub schedule : after.market.schedule ≡ before.market.schedule
  pub owner : (record_at after.market place).owner ≡ (record_at before.market place).owner
  pub records : (k : ℕ) → (k ≢ place) → record_at after.market k ≡ record_at before.market k
  pub instructions : after.instructions ≡ before.instructions
  pub posted : after.posted ≡ before.posted
  pub draws : after.draws ≡ before.draws
  pub out : after.out ≡ before.out

-- meter: the asset's reading is then the one given, and every other asset's record is as it was
pub record Metering (before : Book) (asset kwh : ℕ) (r : Result (Unit {0}) Fault) (after : Book) : Type 0 where
  pub answer : r ≡ answer (meter_reasons before asset kwh)
  pub topmost : Rising (meter_reasons before asset kwh)
  pub state : after ≡ outcome r (metered before asset kwh) before
  pub reading : is_ok r ≡ true → (record_at after.market (asset - 1)).reading ≡ Some kwh
  pub others : OnlyReading before after (asset - 1)

-- all but one instruction is as it was
pub record OnlyInstruction (before after : Book) (place : ℕ) : Type 0 where
  pub market : after.market ≡ before.market
  pub instructions : (k : ℕ) → (k ≢ place) → instruction_at after k ≡ instruction_at before k
  pub posted : after.posted ≡ before.posted
  pub draws : after.draws ≡ before.draws
  pub out : after.out ≡ before.out

-- terms join an enrolled source and an enrolled sink
pub record Joined (b : Book) (t : Terms) : Type 0 where
  pub source : is_source (asset_at b.market (t.source - 1)) ≡ true
  pub sink : is_sink (asset_at b.market (t.sink - 1)) ≡ true

-- propose: the instruction was free and is then proposed with these terms
pub record Proposal (before : Book) (number source sink kwh : ℕ) (r : Result (Unit {0}) Fault) (after : Book) : Type 0 where
  pub answer : r ≡ answer (propose_reasons before number source sink kwh)
  pub topmost : Rising (propose_reasons before number source sink kwh)
  pub state : after ≡ outcome r (proposed before number source sink kwh) before
  pub was_free : is_ok r ≡ true → instruction_at before (number - 1) ≡ Free
  pub is_proposed : is_ok r ≡ true → instruction_at after (number - 1) ≡ Proposed (record { source = source; sink = sink; kwh = kwh })
  pub others : OnlyInstruction before after (number - 1)

-- an instruction that was proposed is matched, for the owner of its sink
pub record Match (before : Book) (number participant : ℕ) (after : Book) : Type 0 where
  pub terms : Terms
  pub was_proposed : instruction_at before (number - 1) ≡ Proposed terms
  pub is_matched : instruction_at after (number - 1) ≡ Matched terms
  pub party : participant ≡ owner_of before.market terms.sink

-- confirm: a match; and every matched instruction joins an enrolled source and an enrolled sink
pub record Confirmation (before : Book) (number participant : ℕ) (r : Result (Unit {0}) Fault) (after : Book) : Type 0 where
  pub answer : r ≡ answer (confirm_reasons before number participant)
  pub topmost : Rising (confirm_reasons before number participant)
  pub state : after ≡ outcome r (confirmed before number) before
  pub matches : is_ok r ≡ true → Match before number participant after
  pub others : OnlyInstruction before after (number - 1)
  pub joined : (k : ℕ) (t : Terms) → instruction_at after k ≡ Matched t → Joined after t

-- an instruction that was not free is freed, for the owner of its source or of its sink
pub record Release (before : Book) (number participant : ℕ) (after : Book) : Type 0 where
  pub terms : Terms
  pub was_taken : (instruction_at before (number - 1) ≡ Proposed terms) ⊎ (instruction_at before (number - 1) ≡ Matched terms)
  pub is_free : instruction_at after (number - 1) ≡ Free
  pub party : (participant ≡ owner_of before.market terms.source) ⊎ (participant ≡ owner_of before.market terms.sink)

-- withdraw: a release
pub record Withdrawal (before : Book) (number participant : ℕ) (r : Result (Unit {0}) Fault) (after : Book) : Type 0 where
  pub answer : r ≡ answer (withdraw_reasons before number participant)
  pub topmost : Rising (withdraw_reasons before number participant)
  pub state : after ≡ outcome r (withdrawn before number) before
  pub releases : is_ok r ≡ true → Release before number participant after
  pub others : OnlyInstruction before after (number - 1)
