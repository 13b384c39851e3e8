use Rattle.cases.proofs.Figures.{sums_of_prices, half_cents, one_cent}
use Rattle.cases.proofs.WorkedHour.{worked_hour, worked_hour_by_running, late_reading, reduced_bid}
use Rattle.cases.proofs.worked.worked_cases.Goals as goal

pub returns : goal.returns
returns c = record {
  worked_hour = worked_hour;
  worked_hour_by_running = worked_hour_by_running;
  late_reading = late_reading;
  sums_of_prices = sums_of_prices;
  half_cents = half_cents;
  one_cent = one_cent;
  reduced_bid = reduced_bid;
}
