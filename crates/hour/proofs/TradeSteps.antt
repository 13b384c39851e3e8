-- What is true of the tables after each trading call. Assumes nothing.
use Rattle.std.proofs.Common.{◌≡◌, ℕ, zero, suc, ◌-◌, ◌<◌, ◌≤◌, true, false, not, List, length, get_or, set, replicate, is_some, is_ok, Some, None, Option, Result, unwrap_or, sym, refl, ap, ◌∙◌, subst, inl, inr, arith}
use Rattle.std.proofs.lemmas.List.{length-set, get_or-set_same, get_or-set_other}
use Rattle.std.proofs.lemmas.Bool.{cases_lt, not-false, cond-true, cond-false, lt-ltb, le-ltb, both_ways}
use Rattle.prices.specs.declared.block.Block.{Block}
use Rattle.prices.specs.Block.{price_at}
use Rattle.prices.proofs.Filling.{listed_block_list}
use Rattle.hour.proofs.Soundness.{sound_prices, sound_few}
use Rattle.prices.specs.declared.asset.Asset.{Asset}
use Rattle.hour.specs.declared.fault.Fault.{Fault}
use Rattle.hour.specs.declared.record.Record.{Record}
use Rattle.hour.specs.declared.market.Market.{Market}
use Rattle.hour.specs.Reason.{answer}
use Rattle.hour.specs.Minute.{level_from, mark_between}
use Rattle.hour.specs.Blocks.{sound_blocks}
use Rattle.hour.specs.Market.{OpenTables, empty_market, asset_at, record_at, no_record, blocks_of, blocks_at, kind_in, outcome, enrol_reasons, enrolled, offer_reasons, offering, offered_blocks, order_reasons, levelled, ordered, shed_reasons, shed}
use Rattle.hour.specs.Trading.{OnlyRow, Enrolled, Shed, Offering, Instructed, level_of, level_at}
use Rattle.hour.proofs.Outcomes.{after_if, after_has, accepted, untouched, NoneFits, accepted_none, place_inside, getD_set_has}
use Rattle.hour.proofs.Tables.{length_table, getD_table}

-- tables with another asset and another record at one place
abbrev changed_row : Market → ℕ → Option Asset → Record → Market
changed_row m place asset entry = record {
  label = m.label;
  schedule = record { assets = set m.schedule.assets place asset; marked = m.schedule.marked };
  records = set m.records place entry;
}

row_kept : (m : Market) (place : ℕ) (asset : Option Asset) (entry : Record) → OpenTables m → ((j : ℕ) → price_at (blocks_of asset) j ≤ 99999) → is_some entry.reading ≡ false → OpenTables (changed_row m place asset entry)
row_kept m place asset entry kept capped unread = (
  (length-set _ _ _ ∙ kept.0.0, kept.0.1, length-set _ _ _ ∙ kept.0.2),
  λ k j. getD_set_has (λ a. price_at (blocks_of a) j ≤ 99999) m.schedule.assets place k asset None (capped j) (kept.1 k j),
  λ k. getD_set_has (λ (e : Record). is_some e.reading ≡ false) m.records place k entry no_record unread (kept.2 k),
)

only_row : (m : Market) (k : ℕ) (asset : Option Asset) (entry : Record) → OnlyRow m (changed_row m k asset entry) k
only_row m k asset entry = record {
  label = refl;
  marks = refl;
  assets = λ j ne. get_or-set_other _ k j _ None ne;
  records = λ j ne. get_or-set_other _ k j _ no_record ne;
}

same_rows : (m : Market) (k : ℕ) → OnlyRow m m k
same_rows m k = record { label = refl; marks = refl; assets = λ _ _. refl; records = λ _ _. refl }

module _ (before : Market) (asset letter owner : ℕ) (r : Result (Unit {0}) Fault) (after : Market)
    (kept : OpenTables before) (said : r ≡ answer (enrol_reasons before asset letter owner)) (state : after ≡ outcome r (enrolled before asset letter owner) before) where
  pub enrol_kept : OpenTables after
  enrol_kept = after_has r _ _ _ state OpenTables (row_kept before (asset - 1) _ _ kept (λ j. omega arith) refl) kept

  pub enrol_words : Enrolled before asset letter owner r after
  enrol_words = record {
    answer = said;
    topmost = (omega arith, (omega arith, (omega arith, tt)));
    state = state;
    enrolled_asset = λ ok. ap (λ m. asset_at m (asset - 1)) (accepted r _ _ _ state ok) ∙ get_or-set_same _ _ _ None (subst (λ n. asset - 1 < n) (sym kept.0.0) (inside ok));
    enrolled_record = λ ok. ap (λ m. record_at m (asset - 1)) (accepted r _ _ _ state ok) ∙ get_or-set_same _ _ _ no_record (subst (λ n. asset - 1 < n) (sym kept.0.2) (inside ok));
    others = after_has r _ _ _ state (λ m. OnlyRow before m (asset - 1)) (only_row before (asset - 1) _ _) (same_rows before (asset - 1));
  }
    where
      inside : is_ok r ≡ true → asset - 1 < 64
      inside ok = place_inside asset (accepted_none r (enrol_reasons before asset letter owner) said ok).0

module _ (before : Market) (asset : ℕ) (blocks : List Block) (r : Result (Unit {0}) Fault) (after : Market)
    (kept : OpenTables before) (said : r ≡ answer (offer_reasons before asset blocks)) (state : after ≡ outcome r (offered_blocks before asset blocks) before) where
  abbrev old : Option Asset
  old = asset_at before (asset - 1)

  offer_none : is_ok r ≡ true → NoneFits (offer_reasons before asset blocks)
  offer_none ok = accepted_none r (offer_reasons before asset blocks) said ok

  sound : is_ok r ≡ true → sound_blocks (kind_in old) blocks ≡ true
  sound ok = not-false _ (offer_none ok).1.1.1.0

  -- an enrolled asset then has the blocks
  blocks_then : (a : Option Asset) → not (is_some a) ≡ false → length blocks ≤ 7 → blocks_of (offering a blocks) ≡ blocks
  blocks_then None missing short = absurd (both_ways _ missing refl)
  blocks_then (Some x) missing short = listed_block_list blocks short

  offered_then : is_ok r ≡ true → blocks_of (offering old blocks) ≡ blocks
  offered_then ok = blocks_then old (offer_none ok).1.0 (sound_few (kind_in old) blocks (sound ok))

  pub offer_kept : OpenTables after
  offer_kept = after_if r _ _ _ state OpenTables new kept
    where
      new : is_ok r ≡ true → OpenTables (offered_blocks before asset blocks)
      new ok = (
        (length-set _ _ _ ∙ kept.0.0, kept.0.1, kept.0.2),
        λ k j. getD_set_has (λ a. price_at (blocks_of a) j ≤ 99999) before.schedule.assets (asset - 1) k (offering old blocks) None
            (subst (λ bs. price_at bs j ≤ 99999) (sym (offered_then ok)) (sound_prices (kind_in old) blocks (sound ok) j)) (kept.1 k j),
        kept.2,
      )

  same_kind : (a : Option Asset) → kind_in (offering a blocks) ≡ kind_in a
  same_kind None = refl
  same_kind (Some x) = refl

  same_level : (m : ℕ) (a : Option Asset) → level_of (offering a blocks) m ≡ level_of a m
  same_level m None = refl
  same_level m (Some x) = refl

  pub offer_words : Offering before asset blocks r after
  offer_words = record {
    answer = said;
    topmost = (omega arith, (omega arith, (omega arith, tt)));
    state = state;
    offered_now = λ ok. ap (λ m. blocks_at m (asset - 1)) (accepted r _ _ _ state ok)
        ∙ ap blocks_of (get_or-set_same before.schedule.assets (asset - 1) (offering old blocks) None (subst (λ n. asset - 1 < n) (sym kept.0.0) (place_inside asset (offer_none ok).0)))
        ∙ offered_then ok;
    kind = after_has r _ _ _ state (λ m. kind_in (asset_at m (asset - 1)) ≡ kind_in old) (getD_set_has (λ a. kind_in a ≡ kind_in old) before.schedule.assets (asset - 1) (asset - 1) _ None (same_kind old) refl) refl;
    levels = λ m. after_has r _ _ _ state (λ x. level_at x (asset - 1) m ≡ level_of old m) (getD_set_has (λ a. level_of a m ≡ level_of old m) before.schedule.assets (asset - 1) (asset - 1) _ None (same_level m old) refl) refl;
    records = untouched r _ _ _ state (λ m. m.records) refl;
    others = after_has r _ _ _ state (λ m. OnlyRow before m (asset - 1))
        (record { label = refl; marks = refl; assets = λ j ne. get_or-set_other _ (asset - 1) j _ None ne; records = λ _ _. refl })
        (same_rows before (asset - 1));
  }

module _ (before : Market) (asset minute level : ℕ) (r : Result (Unit {0}) Fault) (after : Market)
    (kept : OpenTables before) (said : r ≡ answer (order_reasons before asset minute level)) (state : after ≡ outcome r (ordered before asset minute level) before) where
  abbrev then_old : Option Asset
  then_old = asset_at before (asset - 1)

  abbrev new_asset : Option Asset
  new_asset = levelled then_old minute level

  order_none : is_ok r ≡ true → NoneFits (order_reasons before asset minute level)
  order_none ok = accepted_none r (order_reasons before asset minute level) said ok

  blocks_stay : (a : Option Asset) → blocks_of (levelled a minute level) ≡ blocks_of a
  blocks_stay None = refl
  blocks_stay (Some x) = refl

  kind_stays : (a : Option Asset) → kind_in (levelled a minute level) ≡ kind_in a
  kind_stays None = refl
  kind_stays (Some x) = refl

  level_then : (a : Option Asset) → not (is_some a) ≡ false → (m : ℕ) → minute ≤ m → m < 60 → level_of (levelled a minute level) m ≡ level
  level_then None missing m from within = absurd (both_ways _ missing refl)
  level_then (Some x) missing m from within =
      cond-true _ _ 0 (lt-ltb m 60 within) ∙ getD_table (level_from x.levels minute level) 60 m 0 within ∙ cond-false _ _ level (le-ltb m minute from)

  level_before : (a : Option Asset) (m : ℕ) → m < minute → level_of (levelled a minute level) m ≡ level_of a m
  level_before None m less = refl
  level_before (Some x) m less =
      elim (cases_lt m 60) [
        | inl within ↦ cond-true _ _ 0 (lt-ltb m 60 within) ∙ getD_table (level_from x.levels minute level) 60 m 0 within ∙ cond-true _ _ level (lt-ltb m minute less) ∙ sym (cond-true _ _ 0 (lt-ltb m 60 within))
        | inr past ↦ cond-false _ _ 0 (le-ltb m 60 past) ∙ sym (cond-false _ _ 0 (le-ltb m 60 past))
      ]

  pub order_kept : OpenTables after
  order_kept = after_has r _ _ _ state OpenTables
      (row_kept before (asset - 1) new_asset _ kept (λ j. subst (λ bs. price_at bs j ≤ 99999) (sym (blocks_stay then_old)) (kept.1 (asset - 1) j)) (kept.2 (asset - 1)))
      kept

  pub order_words : Instructed before asset minute level r after
  order_words = record {
    answer = said;
    topmost = (omega arith, (omega arith, (omega arith, tt)));
    state = state;
    from_then_on = λ ok m from within. ap (λ x. level_at x (asset - 1) m) (accepted r _ _ _ state ok)
        ∙ ap (λ a. level_of a m) (get_or-set_same before.schedule.assets (asset - 1) new_asset None (subst (λ n. asset - 1 < n) (sym kept.0.0) (inside ok)))
        ∙ level_then then_old (order_none ok).1.0 m from within;
    earlier = λ m less. after_has r _ _ _ state (λ x. level_at x (asset - 1) m ≡ level_of then_old m) (getD_set_has (λ a. level_of a m ≡ level_of then_old m) before.schedule.assets (asset - 1) (asset - 1) _ None (level_before then_old m less) refl) refl;
    latest = λ ok. ap (λ m. (record_at m (asset - 1)).ordered) (accepted r _ _ _ state ok)
        ∙ ap (λ (e : Record). e.ordered) (get_or-set_same before.records (asset - 1) _ no_record (subst (λ n. asset - 1 < n) (sym kept.0.2) (inside ok)));
    kind = after_has r _ _ _ state (λ m. kind_in (asset_at m (asset - 1)) ≡ kind_in then_old) (getD_set_has (λ a. kind_in a ≡ kind_in then_old) before.schedule.assets (asset - 1) (asset - 1) _ None (kind_stays then_old) refl) refl;
    blocks = after_has r _ _ _ state (λ m. blocks_at m (asset - 1) ≡ blocks_of then_old) (getD_set_has (λ a. blocks_of a ≡ blocks_of then_old) before.schedule.assets (asset - 1) (asset - 1) _ None (blocks_stay then_old) refl) refl;
    owner = after_has r _ _ _ state (λ m. (record_at m (asset - 1)).owner ≡ (record_at before (asset - 1)).owner) (getD_set_has (λ (e : Record). e.owner ≡ (record_at before (asset - 1)).owner) before.records (asset - 1) (asset - 1) _ no_record refl refl) refl;
    others = after_has r _ _ _ state (λ m. OnlyRow before m (asset - 1)) (only_row before (asset - 1) _ _) (same_rows before (asset - 1));
  }
    where
      inside : is_ok r ≡ true → asset - 1 < 64
      inside ok = place_inside asset (order_none ok).0

module _ (before : Market) (first end : ℕ) (r : Result (Unit {0}) Fault) (after : Market)
    (kept : OpenTables before) (said : r ≡ answer (shed_reasons first end)) (state : after ≡ outcome r (shed before first end) before) where
  pub shed_kept : OpenTables after
  shed_kept = after_has r _ _ _ state OpenTables ((kept.0.0, length_table _ 60, kept.0.2), kept.1, kept.2) kept

  pub shed_words : Shed before first end r after
  shed_words = record {
    answer = said;
    topmost = tt;
    state = state;
    marks = λ ok m lt. ap (λ x. get_or x.schedule.marked m false) (accepted r _ _ _ state ok) ∙ getD_table (mark_between before.schedule.marked first end) 60 m false lt;
    label = untouched r _ _ _ state (λ m. m.label) refl;
    assets = untouched r _ _ _ state (λ m. m.schedule.assets) refl;
    records = untouched r _ _ _ state (λ m. m.records) refl;
  }

-- an asset that is not read has reading 0
pub unread_small : (reading : Option ℕ) → is_some reading ≡ false → unwrap_or reading 0 ≤ 1000000
unread_small None e = omega arith
unread_small (Some kwh) e = absurd (both_ways _ e refl)

no_blocks : (n k j : ℕ) → price_at (blocks_of (get_or (replicate n None) k None)) j ≤ 99999
no_blocks zero k j = omega arith
no_blocks (suc n) zero j = omega arith
no_blocks (suc n) (suc k) j = no_blocks n k j

no_readings : (n k : ℕ) → is_some (get_or (replicate n no_record) k no_record).reading ≡ false
no_readings zero k = refl
no_readings (suc n) zero = refl
no_readings (suc n) (suc k) = no_readings n k

-- a new hour keeps it
pub empty_kept : (label : ℕ) → OpenTables (empty_market label)
empty_kept label = ((refl, refl, refl), no_blocks 64, no_readings 64)
