-- Worked cases of prices, payments, splitting and settled hours, in figures. Assumes nothing.
use Rattle.std.specs.Prelude.{◌≡◌, ℕ, [], ◌∷◌, ℤ, pos, neg_ℤ}
use Rattle.prices.specs.Average.{nearest, Nearest}
use Rattle.splitting.specs.Largest.{largest}
use Rattle.splitting.specs.Running.{running}
use Rattle.splitting.specs.Rule.{Lawful}
use Rattle.margins.specs.Payment.{nearest_cent, exact_worth}
use Rattle.hour.specs.declared.figure.Figure.TheVariants.{Adjustment}
use Rattle.hour.specs.declared.line.Line.{Line}
use Rattle.hour.specs.Market.{asset_at}
use Rattle.hour.specs.Figure.{figure_in}
use Rattle.hour.specs.Run.{price_of, drawn_amounts, drawn_lines}
use Rattle.ledger.specs.Imbalance.{all_nets}
use Rattle.cases.specs.Worked.{worked_book, late_book, bid_market}

-- a line: participant, energy, uplift, adjustment, supply charge, load charge, net
abbrev pub line : ℕ → (energy uplift adjustment supply load net : ℤ) → Line
line participant energy uplift adjustment supply load net = record {
  participant = participant;
  amounts = record { energy = energy; uplift = uplift; adjustment = adjustment; supply_charge = supply; load_charge = load; net = net };
}

-- the worked hour by the largest remainders
pub record WorkedHour : Type 0 where
  pub price : price_of worked_book ≡ 6000
  pub lines : drawn_lines largest worked_book ≡
      line 1 (pos 360000000) (pos 0) (pos 0) (pos 0) (pos 0) (pos 360000000)
      ∷ line 2 (pos 390000000) (pos 45000) (pos 0) (pos 0) (pos 0) (pos 435000000)
      ∷ line 3 (neg_ℤ (pos 420000000)) (pos 0) (pos 0) (pos 30938) (pos 0) (neg_ℤ (pos 450938000))
      ∷ line 4 (neg_ℤ (pos 300000000)) (pos 0) (pos 0) (pos 14062) (pos 0) (neg_ℤ (pos 314062000))
      ∷ []
  pub sum : all_nets (drawn_amounts largest worked_book) ≡ pos 30000000

-- the same by the running rule
pub record WorkedHourByRunning : Type 0 where
  pub lines : drawn_lines running worked_book ≡
      line 1 (pos 360000000) (pos 0) (pos 0) (pos 0) (pos 0) (pos 360000000)
      ∷ line 2 (pos 390000000) (pos 45000) (pos 0) (pos 0) (pos 0) (pos 435000000)
      ∷ line 3 (neg_ℤ (pos 420000000)) (pos 0) (pos 0) (pos 30937) (pos 0) (neg_ℤ (pos 450937000))
      ∷ line 4 (neg_ℤ (pos 300000000)) (pos 0) (pos 0) (pos 14063) (pos 0) (neg_ℤ (pos 314063000))
      ∷ []

-- a late reading after the first run was posted: the second run has the differences
pub record LateReading : Type 0 where
  pub lines : (law : Lawful largest) → drawn_lines largest (late_book law) ≡
      line 1 (pos 0) (pos 0) (pos 0) (pos 0) (pos 0) (pos 0)
      ∷ line 2 (pos 0) (pos 0) (pos 0) (pos 0) (pos 0) (pos 0)
      ∷ line 3 (pos 0) (pos 0) (pos 0) (neg_ℤ (pos 1820)) (pos 0) (pos 1820000)
      ∷ line 4 (neg_ℤ (pos 60000000)) (pos 0) (pos 0) (pos 1820) (pos 0) (neg_ℤ (pos 61820000))
      ∷ []

-- a sum of 60 prices as a pool price and the sixtieths left over
pub record SumsOfPrices : Type 0 where
  pub half_down : nearest 60029 ≡ 1000
  pub left_over : Nearest 60029 1000 (pos 29)
  pub half_up : nearest 60030 ≡ 1001
  pub short_of : Nearest 60030 1001 (neg_ℤ (pos 30))

-- 60 kW-minutes at a margin just below half a cent, and at half a cent
pub record HalfCents : Type 0 where
  pub below : nearest_cent (exact_worth 60 0 60 (pos 499)) ≡ 0
  pub half : nearest_cent (exact_worth 60 0 60 (pos 500)) ≡ 1

-- one cent over 2 and 1 kWh
pub record OneCent : Type 0 where
  pub by_largest : largest 1 (2 ∷ 1 ∷ []) ≡ 1 ∷ 0 ∷ []
  pub by_running : running 1 (2 ∷ 1 ∷ []) ≡ 0 ∷ 1 ∷ []

-- a load that reduced its bid, at a reading of 52,000 kWh and a pool price of 6,000
pub record ReducedBid : Type 0 where
  pub paid : figure_in Adjustment 6000 (asset_at bid_market 0) 52000 0 ≡ 12000

-- all the worked cases
pub record WorkedCases : Type 0 where
  pub worked_hour : WorkedHour
  pub worked_hour_by_running : WorkedHourByRunning
  pub late_reading : LateReading
  pub sums_of_prices : SumsOfPrices
  pub half_cents : HalfCents
  pub one_cent : OneCent
  pub reduced_bid : ReducedBid
