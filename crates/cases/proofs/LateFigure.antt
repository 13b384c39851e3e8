-- What the late reading comes to, by computation. Assumes nothing.
use Rattle.std.proofs.Common.{◌≡◌, ℤ, pos, neg_ℤ, refl}
use Rattle.prices.specs.Range.{total, highest}
use Rattle.prices.specs.Block.{block_list}
use Rattle.prices.specs.Asset.{price_in}
use Rattle.prices.specs.Schedule.{system_price, pool_price}
use Rattle.margins.specs.Order.{every, ordered, ordered_for}
use Rattle.hour.specs.Blocks.{sound_blocks}
use Rattle.hour.specs.Table.{table}
use Rattle.hour.specs.Book.{new_book, metered}
use Rattle.hour.specs.declared.market.Market.{Market}
use Rattle.ledger.specs.Imbalance.{source_readings, sink_readings, price_times_imbalance}
use Rattle.cases.specs.Worked.{worked_market, worked_book}

-- a market with the late reading
abbrev pub read_late : Market → Market
read_late m = (metered (new_book m) 4 60000).market

-- price times imbalance of a market
abbrev pub nets_of : Market → ℤ
nets_of m = price_times_imbalance (pool_price m.schedule) m

pub late_figure : nets_of (read_late worked_book.market) ≡ neg_ℤ (pos 30000000)
unfolding total highest block_list price_in system_price pool_price every ordered ordered_for sound_blocks table source_readings sink_readings worked_market worked_book
late_figure = refl
