-- What is true of the tables after meter, propose, confirm and withdraw. Assumes nothing.
use Rattle.std.proofs.Common.{◌≡◌, ℕ, ◌-◌, ◌<◌, ◌≤◌, true, false, not, ◌⊎◌, is_some, is_ok, Result, unwrap_or, sym, refl, ap, ◌∙◌, subst, inl, inr, arith}
use Rattle.std.proofs.lemmas.List.{length-set, get_or-set_same, get_or-set_other}
use Rattle.std.proofs.lemmas.Bool.{both_ways, not-false, eqb-true, or_cases, ltb-false}
use Rattle.hour.specs.declared.fault.Fault.{Fault}
use Rattle.hour.specs.declared.record.Record.{Record}
use Rattle.hour.specs.declared.book.Book.{Book}
use Rattle.hour.specs.declared.instruction.Terms.{Terms}
use Rattle.hour.specs.declared.instruction.Instruction.{Instruction}
use Rattle.hour.specs.declared.instruction.Instruction.TheVariants.{Free, Proposed, Matched}
use Rattle.hour.specs.declared.instruction.Event.TheVariants.{Propose, Confirm, Withdraw}
use Rattle.hour.specs.Reason.{answer, outside}
use Rattle.hour.specs.Instruction.{next_stage, terms_of}
use Rattle.hour.specs.Market.{outcome, record_at, no_record}
use Rattle.hour.specs.Run.{PricedTables}
use Rattle.hour.specs.Book.{FullBook, instruction_at, joined_by, joins, with_instruction, terms, meter_reasons, metered, propose_reasons, proposed, confirm_reasons, confirmed, withdraw_reasons, withdrawn}
use Rattle.hour.specs.Priced.{OnlyReading, Metering, OnlyInstruction, Joined, Proposal, Confirmation, Withdrawal}
use Rattle.hour.proofs.Joining.{joined_parts, proposed_joins, still_joined, freed}
use Rattle.hour.proofs.Outcomes.{after_if, after_has, accepted, NoneFits, accepted_none, place_inside, getD_set_has}

module _ (before : Book) (asset kwh : ℕ) (r : Result (Unit {0}) Fault) (after : Book)
    (said : r ≡ answer (meter_reasons before asset kwh)) (state : after ≡ outcome r (metered before asset kwh) before) where
  meter_none : is_ok r ≡ true → NoneFits (meter_reasons before asset kwh)
  meter_none ok = accepted_none r (meter_reasons before asset kwh) said ok

  pub meter_kept : PricedTables before → PricedTables after
  meter_kept kept = after_if r _ _ _ state PricedTables new kept
    where
      small : is_ok r ≡ true → kwh ≤ 1000000
      small ok = ltb-false 1000000 kwh (meter_none ok).1.1.1.0

      new : is_ok r ≡ true → PricedTables (metered before asset kwh)
      new ok = (
        (kept.0.0, kept.0.1, length-set _ _ _ ∙ kept.0.2, kept.0.3, kept.0.4),
        (
          kept.1.0,
          λ k. getD_set_has (λ (e : Record). unwrap_or e.reading 0 ≤ 1000000) before.market.records (asset - 1) k _ no_record (small ok) (kept.1.1 k),
          kept.1.2,
        ),
        kept.2,
        kept.3,
        kept.4,
      )

  pub meter_words : FullBook before → Metering before asset kwh r after
  meter_words full = record {
    answer = said;
    topmost = (omega arith, (omega arith, (omega arith, tt)));
    state = state;
    reading = λ ok. ap (λ b. (record_at b.market (asset - 1)).reading) (accepted r _ _ _ state ok) ∙ ap (λ (e : Record). e.reading) (get_or-set_same before.market.records (asset - 1) _ no_record (subst (λ n. asset - 1 < n) (sym full.2) (place_inside asset (meter_none ok).1.0)));
    others = after_has r _ _ _ state (λ b. OnlyReading before b (asset - 1)) changed same;
  }
    where
      changed : OnlyReading before (metered before asset kwh) (asset - 1)
      changed = record {
        label = refl;
        schedule = refl;
        owner = getD_set_has (λ (e : Record). e.owner ≡ (record_at before.market (asset - 1)).owner) before.market.records (asset - 1) (asset - 1) _ no_record refl refl;
        records = λ k ne. get_or-set_other before.market.records (asset - 1) k _ no_record ne;
        instructions = refl;
        posted = refl;
        draws = refl;
        out = refl;
      }

      same : OnlyReading before before (asset - 1)
      same = record { label = refl; schedule = refl; owner = refl; records = λ _ _. refl; instructions = refl; posted = refl; draws = refl; out = refl }

-- an instruction changes and nothing else
only_instruction : (b : Book) (place : ℕ) (i : Instruction) → OnlyInstruction b (with_instruction b place i) place
only_instruction b place i = record {
  market = refl;
  instructions = λ k ne. get_or-set_other b.instructions place k i Free ne;
  posted = refl;
  draws = refl;
  out = refl;
}

only_same : (b : Book) (place : ℕ) → OnlyInstruction b b place
only_same b place = record { market = refl; instructions = λ _ _. refl; posted = refl; draws = refl; out = refl }

step_kept : (b : Book) (place : ℕ) (i : Instruction) → PricedTables b → joins b.market.schedule.assets i ≡ true → PricedTables (with_instruction b place i)
step_kept b place i kept good = (
  (kept.0.0, kept.0.1, kept.0.2, length-set _ _ _ ∙ kept.0.3, kept.0.4),
  (kept.1.0, kept.1.1, λ k. getD_set_has (λ x. joins b.market.schedule.assets x ≡ true) b.instructions place k i Free good (kept.1.2 k)),
  kept.2,
  kept.3,
  kept.4,
)

-- the instruction that is written is the one then found
step_at : (b : Book) (number : ℕ) (i : Instruction) → FullBook b → outside 1 64 number ≡ false → instruction_at (with_instruction b (number - 1) i) (number - 1) ≡ i
step_at b number i full inside = get_or-set_same b.instructions (number - 1) i Free (subst (λ n. number - 1 < n) (sym full.3) (place_inside number inside))

module _ (before : Book) (number source sink kwh : ℕ) (r : Result (Unit {0}) Fault) (after : Book)
    (said : r ≡ answer (propose_reasons before number source sink kwh)) (state : after ≡ outcome r (proposed before number source sink kwh) before) where
  propose_none : is_ok r ≡ true → NoneFits (propose_reasons before number source sink kwh)
  propose_none ok = accepted_none r (propose_reasons before number source sink kwh) said ok

  abbrev t : Terms
  t = terms source sink kwh

  free_if : (i : Instruction) → not (is_some (next_stage i (Propose t))) ≡ false → (i ≡ Free) × (unwrap_or (next_stage i (Propose t)) Free ≡ Proposed t)
  free_if Free e = (refl, refl)
  free_if (Proposed u) e = absurd (both_ways _ e refl)
  free_if (Matched u) e = absurd (both_ways _ e refl)

  taken : is_ok r ≡ true → (instruction_at before (number - 1) ≡ Free) × (unwrap_or (next_stage (instruction_at before (number - 1)) (Propose t)) Free ≡ Proposed t)
  taken ok = free_if (instruction_at before (number - 1)) (propose_none ok).1.1.1.1.1.1.1.1.0

  pub propose_kept : PricedTables before → PricedTables after
  propose_kept kept = after_if r _ _ _ state PricedTables new kept
    where
      good : is_ok r ≡ true → joined_by before.market.schedule.assets t ≡ true
      good ok = proposed_joins before number source sink kwh (propose_none ok)

      new : is_ok r ≡ true → PricedTables (proposed before number source sink kwh)
      new ok = step_kept before (number - 1) _ kept (ap (joins before.market.schedule.assets) (taken ok).1 ∙ good ok)

  pub propose_words : FullBook before → Proposal before number source sink kwh r after
  propose_words full = record {
    answer = said;
    topmost = (omega arith, (omega arith, (omega arith, (omega arith, (omega arith, (omega arith, (omega arith, (omega arith, tt))))))));
    state = state;
    was_free = λ ok. (taken ok).0;
    is_proposed = λ ok. ap (λ b. instruction_at b (number - 1)) (accepted r _ _ _ state ok) ∙ step_at before number _ full (propose_none ok).1.0 ∙ (taken ok).1;
    others = after_has r _ _ _ state (λ b. OnlyInstruction before b (number - 1)) (only_instruction before (number - 1) _) (only_same before (number - 1));
  }

-- matched instructions join what the hour keeps joined
pub all_joined : (b : Book) → ((k : ℕ) → joins b.market.schedule.assets (instruction_at b k) ≡ true) → (k : ℕ) (t : Terms) → instruction_at b k ≡ Matched t → Joined b t
all_joined b joined k t e =
    let parts = joined_parts b.market.schedule.assets t (ap (joins b.market.schedule.assets) (sym e) ∙ joined k) in
    record { source = parts.source; sink = parts.sink }

module _ (before : Book) (number participant : ℕ) (r : Result (Unit {0}) Fault) (after : Book)
    (said : r ≡ answer (confirm_reasons before number participant)) (state : after ≡ outcome r (confirmed before number) before) where
  confirm_none : is_ok r ≡ true → NoneFits (confirm_reasons before number participant)
  confirm_none ok = accepted_none r (confirm_reasons before number participant) said ok

  pub confirm_kept : PricedTables before → PricedTables after
  confirm_kept kept = after_has r _ _ _ state PricedTables (step_kept before (number - 1) _ kept (still_joined before.market.schedule.assets (instruction_at before (number - 1)) (kept.1.2 (number - 1)))) kept

  proposed_if : (i : Instruction) → not (is_some (next_stage i Confirm)) ≡ false → (i ≡ Proposed (terms_of i)) × (unwrap_or (next_stage i Confirm) Free ≡ Matched (terms_of i))
  proposed_if Free e = absurd (both_ways _ e refl)
  proposed_if (Proposed t) e = (refl, refl)
  proposed_if (Matched t) e = absurd (both_ways _ e refl)

  -- what joined before joins after a confirmation
  confirm_joined : ((k : ℕ) → joins before.market.schedule.assets (instruction_at before k) ≡ true) → (k : ℕ) → joins after.market.schedule.assets (instruction_at after k) ≡ true
  confirm_joined old =
      after_has r (confirmed before number) before after state (λ b. (k : ℕ) → joins b.market.schedule.assets (instruction_at b k) ≡ true)
      (λ k. getD_set_has (λ x. joins before.market.schedule.assets x ≡ true) before.instructions (number - 1) k _ Free (still_joined before.market.schedule.assets (instruction_at before (number - 1)) (old (number - 1))) (old k)) old

  pub confirm_words : FullBook before → ((k : ℕ) → joins before.market.schedule.assets (instruction_at before k) ≡ true) → Confirmation before number participant r after
  confirm_words full old = record {
    answer = said;
    topmost = (omega arith, (omega arith, (omega arith, (omega arith, tt))));
    state = state;
    matches = λ ok.
        let at = proposed_if (instruction_at before (number - 1)) (confirm_none ok).1.1.1.0 in
        record {
          terms = terms_of (instruction_at before (number - 1));
          was_proposed = at.0;
          is_matched = ap (λ b. instruction_at b (number - 1)) (accepted r _ _ _ state ok) ∙ step_at before number _ full (confirm_none ok).1.0 ∙ at.1;
          party = eqb-true _ _ (not-false _ (confirm_none ok).1.1.1.1.0);
        };
    others = after_has r _ _ _ state (λ b. OnlyInstruction before b (number - 1)) (only_instruction before (number - 1) _) (only_same before (number - 1));
    joined = all_joined after (confirm_joined old);
  }

module _ (before : Book) (number participant : ℕ) (r : Result (Unit {0}) Fault) (after : Book)
    (said : r ≡ answer (withdraw_reasons before number participant)) (state : after ≡ outcome r (withdrawn before number) before) where
  withdraw_none : is_ok r ≡ true → NoneFits (withdraw_reasons before number participant)
  withdraw_none ok = accepted_none r (withdraw_reasons before number participant) said ok

  pub withdraw_kept : PricedTables before → PricedTables after
  withdraw_kept kept = after_has r _ _ _ state PricedTables (step_kept before (number - 1) _ kept (ap (joins before.market.schedule.assets) (freed (instruction_at before (number - 1))))) kept

  was_taken : (i : Instruction) → not (is_some (next_stage i Withdraw)) ≡ false → (i ≡ Proposed (terms_of i)) ⊎ (i ≡ Matched (terms_of i))
  was_taken Free e = absurd (both_ways _ e refl)
  was_taken (Proposed t) e = inl refl
  was_taken (Matched t) e = inr refl

  pub withdraw_words : FullBook before → Withdrawal before number participant r after
  withdraw_words full = record {
    answer = said;
    topmost = (omega arith, (omega arith, (omega arith, (omega arith, tt))));
    state = state;
    releases = λ ok. record {
      terms = terms_of (instruction_at before (number - 1));
      was_taken = was_taken (instruction_at before (number - 1)) (withdraw_none ok).1.1.1.0;
      is_free = ap (λ b. instruction_at b (number - 1)) (accepted r _ _ _ state ok) ∙ step_at before number _ full (withdraw_none ok).1.0 ∙ freed (instruction_at before (number - 1));
      party = elim (or_cases _ _ (not-false _ (withdraw_none ok).1.1.1.1.0)) [ inl e ↦ inl (eqb-true _ _ e) | inr e ↦ inr (eqb-true _ _ e) ];
    };
    others = after_has r _ _ _ state (λ b. OnlyInstruction before b (number - 1)) (only_instruction before (number - 1) _) (only_same before (number - 1));
  }
