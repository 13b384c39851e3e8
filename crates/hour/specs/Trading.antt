-- What each trading call answers and what is true of the tables after it. Assumes nothing.
use Rattle.std.specs.Prelude.{◌≡◌, ℕ, ◌-◌, ◌<◌, ◌≤◌, true, false, ◌&&◌, ◌||◌, List, replicate, is_ok, Some, None, Option, Result, ◌≢◌, nat_le, nat_lt, slice_index_or}
use Rattle.prices.specs.declared.asset.Asset.{Asset}
use Rattle.prices.specs.declared.block.Block.{Block}
use Rattle.prices.specs.Asset.{level_in}
use Rattle.hour.specs.declared.fault.Fault.{Fault}
use Rattle.hour.specs.declared.market.Market.{Market}
use Rattle.hour.specs.Reason.{answer, Rising}
use Rattle.hour.specs.Kind.{kind_of}
use Rattle.hour.specs.Market.{asset_at, record_at, blocks_at, kind_in, outcome, enrol_reasons, enrolled, offer_reasons, offered_blocks, order_reasons, ordered, shed_reasons, shed}

-- level of an asset in a minute, 0 if it is not enrolled
abbrev pub level_of : Option Asset → ℕ → ℕ
level_of None minute = 0
level_of (Some asset) minute = level_in asset minute

-- label, marks, and the assets and records at all places but one are as they were
pub record OnlyRow (before after : Market) (place : ℕ) : Type 0 where
  pub label : after.label ≡ before.label
  pub marks : after.schedule.marked ≡ before.schedule.marked
  pub assets : (k : ℕ) → (k ≢ place) → asset_at after k ≡ asset_at before k
  pub records : (k : ℕ) → (k ≢ place) → record_at after k ≡ record_at before k

-- enrol: the asset then has this kind and owner, no blocks, no order, no reading and level 0
pub record Enrolled (before : Market) (asset letter owner : ℕ) (r : Result (Unit {0}) Fault) (after : Market) : Type 0 where
  pub answer : r ≡ answer (enrol_reasons before asset letter owner)
  pub topmost : Rising (enrol_reasons before asset letter owner)
  pub state : after ≡ outcome r (enrolled before asset letter owner) before
  pub enrolled_asset : is_ok r ≡ true → asset_at after (asset - 1) ≡ Some (record { kind = kind_of letter; offer = None; levels = replicate 60 0 })
  pub enrolled_record : is_ok r ≡ true → record_at after (asset - 1) ≡ (record { owner = owner; ordered = None; reading = None })
  pub others : OnlyRow before after (asset - 1)

-- shed: a minute is then marked if it was or if it lies in the span
pub record Shed (before : Market) (first end : ℕ) (r : Result (Unit {0}) Fault) (after : Market) : Type 0 where
  pub answer : r ≡ answer (shed_reasons first end)
  pub topmost : Rising (shed_reasons first end)
  pub state : after ≡ outcome r (shed before first end) before
  pub marks : is_ok r ≡ true → (m : ℕ) → m < 60 → slice_index_or after.schedule.marked m false ≡ (slice_index_or before.schedule.marked m false || (nat_le first m && nat_lt m end))
  pub label : after.label ≡ before.label
  pub assets : after.schedule.assets ≡ before.schedule.assets
  pub records : after.records ≡ before.records

-- level of the asset at a place in a minute
abbrev pub level_at : Market → ℕ → ℕ → ℕ
level_at m place minute = level_of (asset_at m place) minute

-- offer: the asset then has these blocks; its kind, its levels and its record are as they were
pub record Offering (before : Market) (asset : ℕ) (blocks : List Block) (r : Result (Unit {0}) Fault) (after : Market) : Type 0 where
  pub answer : r ≡ answer (offer_reasons before asset blocks)
  pub topmost : Rising (offer_reasons before asset blocks)
  pub state : after ≡ outcome r (offered_blocks before asset blocks) before
  pub offered_now : is_ok r ≡ true → blocks_at after (asset - 1) ≡ blocks
  pub kind : kind_in (asset_at after (asset - 1)) ≡ kind_in (asset_at before (asset - 1))
  pub levels : (m : ℕ) → level_at after (asset - 1) m ≡ level_at before (asset - 1) m
  pub records : after.records ≡ before.records
  pub others : OnlyRow before after (asset - 1)

-- order: the level stands from the minute on; kind, blocks, owner and earlier levels are as they were
pub record Instructed (before : Market) (asset minute level : ℕ) (r : Result (Unit {0}) Fault) (after : Market) : Type 0 where
  pub answer : r ≡ answer (order_reasons before asset minute level)
  pub topmost : Rising (order_reasons before asset minute level)
  pub state : after ≡ outcome r (ordered before asset minute level) before
  pub from_then_on : is_ok r ≡ true → (m : ℕ) → minute ≤ m → m < 60 → level_at after (asset - 1) m ≡ level
  pub earlier : (m : ℕ) → m < minute → level_at after (asset - 1) m ≡ level_at before (asset - 1) m
  pub latest : is_ok r ≡ true → (record_at after (asset - 1)).ordered ≡ Some minute
  pub kind : kind_in (asset_at after (asset - 1)) ≡ kind_in (asset_at before (asset - 1))
  pub blocks : blocks_at after (asset - 1) ≡ blocks_at before (asset - 1)
  pub owner : (record_at after (asset - 1)).owner ≡ (record_at before (asset - 1)).owner
  pub others : OnlyRow before after (asset - 1)
