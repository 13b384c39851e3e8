-- What every list of calls keeps true of the tables: owners in range, joined instructions, the same participants listed. Assumes nothing.
use Rattle.std.proofs.Common.{◌≡◌, ℕ, zero, suc, ◌-◌, ◌≤◌, true, false, cond, ◌&&◌, eqb, ltb, List, [], ◌∷◌, length, get_or, replicate, is_some, is_ok, None, Option, Result, sym, refl, ap, ◌∙◌, subst, inl, inr, arith}
use Rattle.std.proofs.lemmas.List.{length-set}
use Rattle.std.proofs.lemmas.Bool.{cases_eq, cases_Bool, cond-false, cond_both, not-false, both_ways}
use Rattle.std.proofs.lemmas.Bool.Decides.{nat_tests}
use Rattle.prices.specs.declared.asset.Asset.{Asset}
use Rattle.prices.proofs.Ranges.{total_same}
use Rattle.hour.specs.declared.fault.Fault.{Fault}
use Rattle.hour.specs.declared.market.Market.{Market}
use Rattle.hour.specs.declared.book.Book.{Book}
use Rattle.hour.specs.declared.slip.Slip.{Slip}
use Rattle.hour.specs.declared.instruction.Instruction.{Instruction}
use Rattle.hour.specs.declared.instruction.Instruction.TheVariants.{Free}
use Rattle.hour.specs.Reason.{outside}
use Rattle.hour.specs.Market.{asset_at, record_at, outcome, no_record, enrol_reasons, enrolled, offer_reasons, offered_blocks, order_reasons, ordered}
use Rattle.hour.specs.Trading.{OnlyRow}
use Rattle.hour.specs.Book.{instruction_at, joins, terms, with_instruction, propose_reasons, proposed, confirmed, withdrawn}
use Rattle.hour.specs.Priced.{Metering}
use Rattle.hour.specs.Figure.{owned, listed}
use Rattle.hour.specs.Run.{slip_fits}
use Rattle.hour.proofs.Outcomes.{after_if, after_has, accepted_none, getD_set_has}
use Rattle.hour.proofs.Joining.{proposed_joins, proposed_if, still_joined, freed}
use Rattle.ledger.specs.Trade.{Trade, enrol, offer, order, shedding, LivedTrade, TradeMade, Traded}
use Rattle.ledger.specs.Call.{Call, meter, propose, confirm, withdraw, draw, post, void, Answer, Lived, Made, Leads}

-- an owner's number is a participant's
abbrev pub InRange : ℕ → Type 0
InRange owner = (1 ≤ owner) × (owner ≤ 32)

-- every enrolled asset has a participant as its owner
abbrev pub Owners : Market → Type 0
Owners m = (k : ℕ) → is_some (asset_at m k) ≡ true → InRange (record_at m k).owner

-- what trading keeps
pub record SoundMarket (m : Market) : Type 0 where
  pub full : length m.schedule.assets ≡ 64
  pub owners : Owners m

-- tables that change in one row at most keep their owners if the row does
row_owners : (before after : Market) (place : ℕ) → OnlyRow before after place → (is_some (asset_at after place) ≡ true → InRange (record_at after place).owner) → Owners before → Owners after
row_owners before after place only here old k some =
    elim (cases_eq k place) [
      | inl e ↦ subst (λ j. is_some (asset_at after j) ≡ true → InRange (record_at after j).owner) (sym e) here some
      | inr ne ↦ subst (λ entry. InRange entry.owner) (sym (only.records k ne)) (old k (subst (λ a. is_some a ≡ true) (only.assets k ne) some))
    ]

-- a refused call leaves the market as it was
refused : {A : Type 0} (r : Result (Unit {0}) Fault) (changed before after : A) → after ≡ outcome r changed before → is_ok r ≡ false → after ≡ before
refused r changed before after state bad = state ∙ cond-false (is_ok r) changed before bad

in_range : (owner : ℕ) → outside 1 32 owner ≡ false → InRange owner
in_range owner inside = (grind (arith, nat_tests), grind (arith, nat_tests))

trade_sound : (trade : Trade) (r : Result (Unit {0}) Fault) (before after : Market) → TradeMade trade r before after → SoundMarket before → SoundMarket after
trade_sound (enrol asset letter owner) r before after made sound = record {
  full = after_has r (enrolled before asset letter owner) before after made.state (λ m. length m.schedule.assets ≡ 64) (length-set before.schedule.assets _ _ ∙ sound.full) sound.full;
  owners = row_owners before after (asset - 1) made.others
      (λ some. elim (cases_Bool (is_ok r)) [
        | inl ok ↦ subst (λ entry. InRange entry.owner) (sym (made.enrolled_record ok)) (in_range owner (accepted_none r (enrol_reasons before asset letter owner) made.answer ok).1.1.0)
        | inr bad ↦
            let same = refused r (enrolled before asset letter owner) before after made.state bad in
            subst (λ m. is_some (asset_at m (asset - 1)) ≡ true → InRange (record_at m (asset - 1)).owner) (sym same) (sound.owners (asset - 1)) some
      ])
      sound.owners;
}
trade_sound (offer asset blocks) r before after made sound = record {
  full = after_has r (offered_blocks before asset blocks) before after made.state (λ m. length m.schedule.assets ≡ 64) (length-set before.schedule.assets _ _ ∙ sound.full) sound.full;
  owners = row_owners before after (asset - 1) made.others
      (λ some. elim (cases_Bool (is_ok r)) [
        | inl ok ↦ subst (λ rs. InRange (get_or rs (asset - 1) no_record).owner) (sym made.records) (sound.owners (asset - 1) (not-false _ (accepted_none r (offer_reasons before asset blocks) made.answer ok).1.0))
        | inr bad ↦
            let same = refused r (offered_blocks before asset blocks) before after made.state bad in
            subst (λ m. is_some (asset_at m (asset - 1)) ≡ true → InRange (record_at m (asset - 1)).owner) (sym same) (sound.owners (asset - 1)) some
      ])
      sound.owners;
}
trade_sound (order asset minute level) r before after made sound = record {
  full = after_has r (ordered before asset minute level) before after made.state (λ m. length m.schedule.assets ≡ 64) (length-set before.schedule.assets _ _ ∙ sound.full) sound.full;
  owners = row_owners before after (asset - 1) made.others
      (λ some. elim (cases_Bool (is_ok r)) [
        | inl ok ↦ subst InRange (sym made.owner) (sound.owners (asset - 1) (not-false _ (accepted_none r (order_reasons before asset minute level) made.answer ok).1.0))
        | inr bad ↦
            let same = refused r (ordered before asset minute level) before after made.state bad in
            subst (λ m. is_some (asset_at m (asset - 1)) ≡ true → InRange (record_at m (asset - 1)).owner) (sym same) (sound.owners (asset - 1)) some
      ])
      sound.owners;
}
trade_sound (shedding first end) r before after made sound = record {
  full = ap length made.assets ∙ sound.full;
  owners = λ k some. subst (λ rs. InRange (get_or rs k no_record).owner) (sym made.records) (sound.owners k (subst (λ xs. is_some (get_or xs k None) ≡ true) made.assets some));
}

no_assets : (n k : ℕ) → is_some {T = Asset} (get_or (replicate n None) k None) ≡ false
no_assets zero k = refl
no_assets (suc n) zero = refl
no_assets (suc n) (suc k) = no_assets n k

-- what trading keeps holds after every list of trading calls
pub market_sound : (label : ℕ) (lived : List LivedTrade) (m : Market) → Traded label lived m → SoundMarket m
market_sound label [] m came = subst SoundMarket (sym came) (record { full = refl; owners = λ k some. absurd (both_ways _ (no_assets 64 k) some) })
market_sound label (event ∷ earlier) m came = trade_sound event.0 event.1 came.0 m came.2 (market_sound label earlier came.0 came.1)

-- what a priced hour keeps: besides, the listed participants are those of the closed market, and instructions join
pub record SoundBook (m : Market) (b : Book) : Type 0 where
  pub full : length b.market.schedule.assets ≡ 64
  pub owners : Owners b.market
  pub same : (participant : ℕ) → listed b.market participant ≡ listed m participant
  pub joined : (k : ℕ) → joins b.market.schedule.assets (instruction_at b k) ≡ true

-- tables with the same market and joined instructions
same_market : (m : Market) (before after : Book) → after.market ≡ before.market → ((k : ℕ) → joins before.market.schedule.assets (instruction_at after k) ≡ true) → SoundBook m before → SoundBook m after
same_market m before after same joined sound = record {
  full = ap (λ x. length x.schedule.assets) same ∙ sound.full;
  owners = subst Owners (sym same) sound.owners;
  same = λ p. ap (λ x. listed x p) same ∙ sound.same p;
  joined = λ k. ap (λ x. joins x.schedule.assets (instruction_at after k)) same ∙ joined k;
}

-- an instruction that joins is written
write_joins : (assets : List (Option Asset)) (b : Book) (place : ℕ) (i : Instruction) → joins assets i ≡ true → ((k : ℕ) → joins assets (instruction_at b k) ≡ true) → (k : ℕ) → joins assets (instruction_at (with_instruction b place i) k) ≡ true
write_joins assets b place i good old k = getD_set_has (λ x. joins assets x ≡ true) b.instructions place k i Free good (old k)

-- tables with the same market and instructions
unchanged : (m : Market) (before after : Book) → after.market ≡ before.market → after.instructions ≡ before.instructions → SoundBook m before → SoundBook m after
unchanged m before after same equal sound =
    same_market m before after same (λ k. ap (λ is. joins before.market.schedule.assets (get_or is k Free)) equal ∙ sound.joined k) sound

-- after a post or a void the market and the instructions are as they were
by_slip : {A : Type 0} (f : Book → A) (b changed : Book) (slip : Slip) (after : Book) → after ≡ cond (slip_fits b slip) changed b → f changed ≡ f b → f after ≡ f b
by_slip f b changed slip after state same = ap f state ∙ cond_both (slip_fits b slip) changed b (λ x. f x ≡ f b) (λ _. same) (λ _. refl)

module _ (m : Market) where
  metered_sound : (asset kwh : ℕ) (r : Result (Unit {0}) Fault) (before after : Book) → Metering before asset kwh r after → SoundBook m before → SoundBook m after
  unfolding listed
  metered_sound asset kwh r before after made sound = record {
    full = ap (λ s. length s.assets) made.others.schedule ∙ sound.full;
    owners = λ k some. subst InRange (sym (owner_same k)) (sound.owners k (subst (λ s. is_some (get_or s.assets k None) ≡ true) made.others.schedule some));
    same = λ p. listed_same p ∙ sound.same p;
    joined = λ k. ap (λ s. joins s.assets (instruction_at after k)) made.others.schedule
        ∙ ap (λ is. joins before.market.schedule.assets (get_or is k Free)) made.others.instructions ∙ sound.joined k;
  }
    where
      owner_same : (k : ℕ) → (record_at after.market k).owner ≡ (record_at before.market k).owner
      owner_same k = elim (cases_eq k (asset - 1)) [
        | inl e ↦ subst (λ j. (record_at after.market j).owner ≡ (record_at before.market j).owner) (sym e) made.others.owner
        | inr ne ↦ ap (λ entry. entry.owner) (made.others.records k ne)
      ]

      owned_same : (p k : ℕ) → owned after.market p k ≡ owned before.market p k
      owned_same p k =
          ap (λ s. is_some (get_or s.assets k None) && eqb (record_at after.market k).owner p) made.others.schedule
          ∙ ap (λ o. is_some (asset_at before.market k) && eqb o p) (owner_same k)

      listed_same : (p : ℕ) → listed after.market p ≡ listed before.market p
      listed_same p = ap (ltb 0) (total_same _ _ 64 (λ k lt. ap (λ t. cond t 1 0) (owned_same p k)))

  -- what a priced hour keeps is kept by every call
  call_sound : (call : Call) (a : Answer call) (before after : Book) → Made call a before after → SoundBook m before → SoundBook m after
  call_sound (meter asset kwh) r before after made sound = metered_sound asset kwh r before after made sound
  call_sound (propose number source sink kwh) r before after made sound =
      same_market m before after made.others.market
      (after_if r (proposed before number source sink kwh) before after made.state (λ b. (k : ℕ) → joins before.market.schedule.assets (instruction_at b k) ≡ true)
      (λ ok. write_joins before.market.schedule.assets before (number - 1) _ (proposed_if before.market.schedule.assets (instruction_at before (number - 1)) (terms source sink kwh) (proposed_joins before number source sink kwh (accepted_none r (propose_reasons before number source sink kwh) made.answer ok))) sound.joined)
      sound.joined) sound
  call_sound (confirm number participant) r before after made sound =
      same_market m before after made.others.market
      (after_has r (confirmed before number) before after made.state (λ b. (k : ℕ) → joins before.market.schedule.assets (instruction_at b k) ≡ true)
      (write_joins before.market.schedule.assets before (number - 1) _ (still_joined before.market.schedule.assets (instruction_at before (number - 1)) (sound.joined (number - 1))) sound.joined)
      sound.joined) sound
  call_sound (withdraw number participant) r before after made sound =
      same_market m before after made.others.market
      (after_has r (withdrawn before number) before after made.state (λ b. (k : ℕ) → joins before.market.schedule.assets (instruction_at b k) ≡ true)
      (write_joins before.market.schedule.assets before (number - 1) _ (ap (joins before.market.schedule.assets) (freed (instruction_at before (number - 1)))) sound.joined)
      sound.joined) sound
  call_sound (draw shares law list) a before after made sound =
      unchanged m before after
      (after_has a.0 _ before after made.state (λ b. b.market ≡ before.market) refl refl)
      (after_has a.0 _ before after made.state (λ b. b.instructions ≡ before.instructions) refl refl) sound
  call_sound (post slip) r before after made sound =
      unchanged m before after (by_slip (λ b. b.market) before _ slip after made.state refl) (by_slip (λ b. b.instructions) before _ slip after made.state refl) sound
  call_sound (void slip) r before after made sound =
      unchanged m before after (by_slip (λ b. b.market) before _ slip after made.state refl) (by_slip (λ b. b.instructions) before _ slip after made.state refl) sound

  all_free : (assets : List (Option Asset)) (n k : ℕ) → joins assets (get_or (replicate n Free) k Free) ≡ true
  all_free assets zero k = refl
  all_free assets (suc n) zero = refl
  all_free assets (suc n) (suc k) = all_free assets n k

  -- it holds after every list of calls
  pub book_sound : SoundMarket m → (lived : List Lived) (b : Book) → Leads m lived b → SoundBook m b
  book_sound closed [] b came =
      subst (SoundBook m) (sym came) (record { full = closed.full; owners = closed.owners; same = λ _. refl; joined = λ k. all_free m.schedule.assets 64 k })
  book_sound closed (event ∷ earlier) b came = call_sound event.0 event.1 came.0 b came.2 (book_sound closed earlier came.0 came.1)
