-- What the program prints of an hour. Assumes nothing.
use Rattle.std.specs.Prelude.{◌≡◌, ℕ, zero, suc, cond, List, [], ◌++◌, codes, decimal, ℤ, ◌==◌}
use Rattle.std.specs.Fmt.{signed_decimal}
use Rattle.prices.specs.declared.schedule.Schedule.{Schedule}
use Rattle.prices.specs.Average.{Nearest}
use Rattle.prices.specs.Schedule.{price_sum}
use Rattle.prices.specs.Setter.{minutes_set}
use Rattle.hour.specs.declared.market.Market.{Market}

-- the line of an asset that set the price in so many minutes; none for one that set it in no minute
abbrev pub minutes_line : ℕ → ℕ → List ℕ
minutes_line asset count = cond (count == 0) [] (codes "minutes=" ++ (decimal asset ++ (codes "," ++ (decimal count ++ codes "\n"))))

-- the lines of the leading assets
abbrev pub minutes_lines : Schedule → ℕ → List ℕ
minutes_lines s zero = []
minutes_lines s (suc n) = minutes_lines s n ++ minutes_line (suc n) (minutes_set s (suc n))

-- label, pool price and remainder
abbrev pub head_text : ℕ → ℕ → ℤ → List ℕ
head_text label price left = codes "hour=" ++ (decimal label ++ (codes "\nprice=" ++ (decimal price ++ (codes "\nremainder=" ++ (signed_decimal left ++ codes "\n")))))

-- the first lines: the price nearest to the sum of the minutes' prices over 60, and what is left over
pub record HeadLines (m : Market) (lines : List ℕ) : Type 0 where
  pub price : ℕ
  pub left : ℤ
  pub nearest : Nearest (price_sum m.schedule) price left
  pub text : lines ≡ head_text m.label price left

-- the print: the first lines, and behind them who set a price
pub record Report (m : Market) (print : List ℕ) : Type 0 where
  pub head : List ℕ
  pub is_head : HeadLines m head
  pub text : print ≡ head ++ minutes_lines m.schedule 64
