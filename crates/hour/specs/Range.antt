-- The ranges that an hour keeps its tables in, and the limits that follow. Assumes nothing.
use Rattle.std.specs.Prelude.{◌≡◌, ℕ, ◌≤◌, true}
use Rattle.hour.specs.declared.book.Book.{Book}
use Rattle.hour.specs.Market.{CappedPrices, reading_at}
use Rattle.hour.specs.Book.{instruction_at, joins}

-- block prices of at most 99,999 cents, readings and instructions of at most 1,000,000 kWh
abbrev pub Ranged : Book → Type 0
Ranged b =
    CappedPrices b.market
    × ((k : ℕ) → reading_at b.market k ≤ 1000000)
    × ((k : ℕ) → joins b.market.schedule.assets (instruction_at b k) ≡ true)

-- no figure of an asset is larger
abbrev pub largest_figure : ℕ
largest_figure = 100000003
