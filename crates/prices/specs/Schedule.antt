-- The system price of each minute and the pool price of the hour. Assumes nothing.
use Rattle.std.specs.Prelude.{◌≡◌, ℕ, ◌<◌, ◌≤◌, Bool, true, false, cond, Some, None, Option, nat_lt, slice_index_or}
use Rattle.std.specs.Option.{unwrap_or}
use Rattle.prices.specs.declared.asset.Asset.{Asset}
use Rattle.prices.specs.declared.schedule.Schedule.{Schedule}
use Rattle.prices.specs.Range.{total, highest}
use Rattle.prices.specs.Asset.{generator_price}
use Rattle.prices.specs.Average.{nearest}

-- whether load was shed in a minute
abbrev pub marked_in : Schedule → ℕ → Bool
marked_in s minute = cond (nat_lt minute 60) (slice_index_or s.marked minute false) false

-- the price that an asset proposes for the system, if it is enrolled, a generator and dispatched
abbrev pub proposed_by : Option Asset → ℕ → Option ℕ
proposed_by None minute = None
proposed_by (Some asset) minute = generator_price asset minute

-- the same for the asset at a place of the table
abbrev pub proposed : Schedule → ℕ → ℕ → Option ℕ
proposed s minute place = proposed_by (slice_index_or s.assets place None) minute

-- highest marginal price over the generators
abbrev pub top_price : Schedule → ℕ → Option ℕ
top_price s minute = highest (proposed s minute) 64

-- system price: the cap in a marked minute, else the highest over the generators, 0 if there is none
unfoldable pub system_price : Schedule → ℕ → ℕ
system_price s minute = cond (marked_in s minute) 100000 (unwrap_or (top_price s minute) 0)

-- the system price in words
pub record SystemPrice (s : Schedule) (minute price : ℕ) : Type 0 where
  pub capped : marked_in s minute ≡ true → price ≡ 100000
  pub unset : marked_in s minute ≡ false → ((k : ℕ) → k < 64 → proposed s minute k ≡ None) → price ≡ 0
  pub reached : marked_in s minute ≡ false → (k p : ℕ) → k < 64 → proposed s minute k ≡ Some p → (n : ℕ) × (n < 64) × (proposed s minute n ≡ Some price)
  pub topped : marked_in s minute ≡ false → (k p : ℕ) → k < 64 → proposed s minute k ≡ Some p → p ≤ price

-- the 60 system prices added up
abbrev pub price_sum : Schedule → ℕ
price_sum s = total (system_price s) 60

-- pool price of the hour
unfoldable pub pool_price : Schedule → ℕ
pool_price s = nearest (price_sum s)
