-- The tables that trading fills, and what each trading call answers and changes. Assumes nothing.
use Rattle.std.specs.Prelude.{◌≡◌, ℕ, ◌-◌, ◌≤◌, Bool, false, cond, not, ◌&&◌, ◌||◌, List, [], ◌∷◌, length, replicate, is_some, is_ok, Some, None, Option, Result, ◌==◌, nat_le, nat_lt, slice_index_or, slice_set}
use Rattle.std.specs.Option.{unwrap_or}
use Rattle.prices.specs.declared.kind.Kind.{Kind}
use Rattle.prices.specs.declared.kind.Kind.TheVariants.{Generator}
use Rattle.prices.specs.declared.asset.Asset.{Asset}
use Rattle.prices.specs.declared.block.Block.{Block}
use Rattle.prices.specs.Block.{price_at, ahead, block_list}
use Rattle.prices.specs.Asset.{offered}
use Rattle.hour.specs.declared.fault.Fault.{Fault}
use Rattle.hour.specs.declared.fault.Fault.TheVariants.{OutOfRange, EnrolledAlready, NotEnrolled, OfferAfterOrder, UnsoundBlocks, WrongMinute, LevelTooHigh}
use Rattle.hour.specs.declared.record.Record.{Record}
use Rattle.hour.specs.declared.market.Market.{Market}
use Rattle.hour.specs.Reason.{Reason, when, outside}
use Rattle.hour.specs.Blocks.{sound_blocks}
use Rattle.hour.specs.Kind.{stands_for_kind, kind_of}
use Rattle.hour.specs.Minute.{levels_from, marks_between}

-- what stands for an asset that is not enrolled
abbrev pub no_record : Record
no_record = record { owner = 0; ordered = None; reading = None }

-- an asset at a place of the table, and its record
abbrev pub asset_at : Market → ℕ → Option Asset
asset_at m place = slice_index_or m.schedule.assets place None

abbrev pub record_at : Market → ℕ → Record
record_at m place = slice_index_or m.records place no_record

-- the blocks of an asset, if it is enrolled
abbrev pub blocks_of : Option Asset → List Block
blocks_of None = []
blocks_of (Some asset) = offered asset

-- the blocks of the asset at a place
abbrev pub blocks_at : Market → ℕ → List Block
blocks_at m place = blocks_of (asset_at m place)

-- the reading of the asset at a place, 0 if there is none
abbrev pub reading_at : Market → ℕ → ℕ
reading_at m place = unwrap_or (record_at m place).reading 0

-- whether the asset of a number is not enrolled
abbrev pub missing : Market → ℕ → Bool
missing m asset = not (is_some (asset_at m (asset - 1)))

-- the tables with another asset and record at a place
abbrev pub with_row : Market → ℕ → Asset → Record → Market
with_row m place asset entry = record {
  label = m.label;
  schedule = record { assets = slice_set m.schedule.assets place (Some asset); marked = m.schedule.marked };
  records = slice_set m.records place entry;
}

-- the tables with other assets
abbrev pub with_assets : Market → List (Option Asset) → Market
with_assets m assets = record {
  label = m.label;
  schedule = record { assets = assets; marked = m.schedule.marked };
  records = m.records;
}

-- the tables with other marks
abbrev pub with_marks : Market → List Bool → Market
with_marks m marks = record {
  label = m.label;
  schedule = record { assets = m.schedule.assets; marked = marks };
  records = m.records;
}

-- every table has its full size
abbrev pub FullTables : Market → Type 0
FullTables m = (length m.schedule.assets ≡ 64) × (length m.schedule.marked ≡ 60) × (length m.records ≡ 64)

-- block prices of at most 99,999 cents
abbrev pub CappedPrices : Market → Type 0
CappedPrices m = (k j : ℕ) → price_at (blocks_at m k) j ≤ 99999

-- what an open hour keeps true of its tables: their sizes, the cap on block prices, and that no asset has a reading
abbrev pub OpenTables : Market → Type 0
OpenTables m = FullTables m × CappedPrices m × ((k : ℕ) → is_some (record_at m k).reading ≡ false)

-- nothing enrolled and no minute marked
abbrev pub empty_market : ℕ → Market
empty_market label = record {
  label = label;
  schedule = record { assets = replicate 64 None; marked = replicate 60 false };
  records = replicate 64 no_record;
}

-- what an accepted call makes of the tables, which a refused one leaves alone
abbrev pub outcome : {A T : Type 0} → Result T Fault → A → A → A
outcome r changed before = cond (is_ok r) changed before

-- an asset that has just been enrolled: no blocks, level 0 all hour
abbrev pub newcomer : Kind → Asset
newcomer kind = record { kind = kind; offer = None; levels = replicate 60 0 }

abbrev pub enrol_reasons : Market → ℕ → ℕ → ℕ → List Reason
enrol_reasons m asset letter owner =
    when (outside 1 64 asset) (OutOfRange asset)
    ∷ when (not (stands_for_kind letter)) (OutOfRange letter)
    ∷ when (outside 1 32 owner) (OutOfRange owner)
    ∷ when (is_some (asset_at m (asset - 1))) (EnrolledAlready asset)
    ∷ []

abbrev pub enrolled : Market → ℕ → ℕ → ℕ → Market
enrolled m asset letter owner =
    with_row m (asset - 1) (newcomer (kind_of letter)) (record { owner = owner; ordered = None; reading = None })

-- kind of an asset at a place; what stands for one that is not enrolled is of no account
abbrev pub kind_in : Option Asset → Kind
kind_in None = Generator
kind_in (Some asset) = asset.kind

abbrev pub offer_reasons : Market → ℕ → List Block → List Reason
offer_reasons m asset blocks =
    when (outside 1 64 asset) (OutOfRange asset)
    ∷ when (missing m asset) (NotEnrolled asset)
    ∷ when (is_some (record_at m (asset - 1)).ordered) (OfferAfterOrder asset)
    ∷ when (not (sound_blocks (kind_in (asset_at m (asset - 1))) blocks)) (UnsoundBlocks asset)
    ∷ []

-- an asset with other blocks
abbrev pub offering : Option Asset → List Block → Option Asset
offering None blocks = None
offering (Some asset) blocks = Some (record { kind = asset.kind; offer = Some (block_list blocks); levels = asset.levels })

-- the asset's blocks are replaced
abbrev pub offered_blocks : Market → ℕ → List Block → Market
offered_blocks m asset blocks = with_assets m (slice_set m.schedule.assets (asset - 1) (offering (asset_at m (asset - 1)) blocks))

-- minute of an asset's latest order, 0 if there is none
abbrev pub ordered_at : Market → ℕ → ℕ
ordered_at m asset = unwrap_or (record_at m (asset - 1)).ordered 0

-- power in all the blocks of an asset
abbrev pub capacity : Market → ℕ → ℕ
capacity m asset = ahead (blocks_at m (asset - 1)) (length (blocks_at m (asset - 1)))

abbrev pub order_reasons : Market → ℕ → ℕ → ℕ → List Reason
order_reasons m asset minute level =
    when (outside 1 64 asset) (OutOfRange asset)
    ∷ when (missing m asset) (NotEnrolled asset)
    ∷ when (nat_lt 59 minute || nat_lt minute (ordered_at m asset)) (WrongMinute minute)
    ∷ when (length (blocks_at m (asset - 1)) == 0 || nat_lt (capacity m asset) level) (LevelTooHigh asset)
    ∷ []

-- an asset with another level from a minute on
abbrev pub levelled : Option Asset → ℕ → ℕ → Option Asset
levelled None minute level = None
levelled (Some asset) minute level = Some (record { kind = asset.kind; offer = asset.offer; levels = levels_from asset.levels minute level })

-- a record with the minute of its latest order
abbrev pub ordered_from : Record → ℕ → Record
ordered_from entry minute = record { owner = entry.owner; ordered = Some minute; reading = entry.reading }

-- the asset's level stands from the minute to the end of the hour
abbrev pub ordered : Market → ℕ → ℕ → ℕ → Market
ordered m asset minute level = record {
  label = m.label;
  schedule = record { assets = slice_set m.schedule.assets (asset - 1) (levelled (asset_at m (asset - 1)) minute level); marked = m.schedule.marked };
  records = slice_set m.records (asset - 1) (ordered_from (record_at m (asset - 1)) minute);
}

abbrev pub shed_reasons : ℕ → ℕ → List Reason
shed_reasons first end = when (not (nat_lt first end && nat_le end 60)) (WrongMinute end) ∷ []

abbrev pub shed : Market → ℕ → ℕ → Market
shed m first end = with_marks m (marks_between m.schedule.marked first end)
