-- The worked hour, by computation. Assumes nothing.
use Rattle.std.proofs.Common.{refl}
use Rattle.prices.specs.Range.{total, highest, first_place}
use Rattle.prices.specs.Block.{block_list}
use Rattle.prices.specs.Asset.{price_in}
use Rattle.prices.specs.Schedule.{system_price, pool_price}
use Rattle.splitting.specs.Largest.{handed_out}
use Rattle.splitting.specs.Places.{sum_over}
use Rattle.splitting.specs.Running.{running}
use Rattle.margins.specs.Order.{every, ordered, ordered_for}
use Rattle.margins.specs.Energy.{energy_of, reduced}
use Rattle.margins.specs.Payment.{block_payment, side_payment, margin_payment}
use Rattle.hour.specs.Blocks.{sound_blocks}
use Rattle.hour.specs.Table.{table}
use Rattle.hour.specs.Figure.{matched_kwh, figure_at, figure_of, listed}
use Rattle.hour.specs.Listing.{listing_to}
use Rattle.hour.specs.Charge.{whole_charge, weights, share_of}
use Rattle.hour.specs.Line.{amounts_of, new_amounts, lines_of, first_beyond}
use Rattle.hour.specs.Run.{first_unread}
use Rattle.ledger.specs.Sums.{totalℤ}
use Rattle.ledger.specs.Imbalance.{all_nets}
use Rattle.cases.specs.Worked.{worked_market, worked_book, late_book, bid_market}
use Rattle.cases.specs.Cases.{WorkedHour, WorkedHourByRunning, LateReading, ReducedBid}

pub worked_hour : WorkedHour
unfolding total highest block_list price_in system_price pool_price every ordered ordered_for sound_blocks table worked_market worked_book handed_out sum_over energy_of reduced block_payment side_payment margin_payment matched_kwh figure_at figure_of listed listing_to whole_charge weights share_of amounts_of new_amounts lines_of totalℤ all_nets
worked_hour = record { price = refl; lines = refl; sum = refl }

pub worked_hour_by_running : WorkedHourByRunning
unfolding total highest block_list price_in system_price pool_price every ordered ordered_for sound_blocks table worked_market worked_book running sum_over energy_of reduced block_payment side_payment margin_payment matched_kwh figure_at figure_of listed listing_to whole_charge weights share_of amounts_of new_amounts lines_of
worked_hour_by_running = record { lines = refl }

pub late_reading : LateReading
unfolding total highest block_list price_in system_price pool_price every ordered ordered_for sound_blocks table worked_market worked_book handed_out sum_over energy_of reduced block_payment side_payment margin_payment matched_kwh figure_at figure_of listed listing_to whole_charge weights share_of amounts_of new_amounts lines_of late_book first_place first_unread first_beyond
late_reading = record { lines = λ law. refl }

pub reduced_bid : ReducedBid
unfolding total block_list every ordered ordered_for sound_blocks table energy_of reduced block_payment side_payment margin_payment bid_market
reduced_bid = record { paid = refl }
