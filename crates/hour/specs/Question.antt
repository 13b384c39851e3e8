-- What a priced hour answers when it is asked for its setters, its tally and an owner. Assumes nothing.
use Rattle.std.specs.Prelude.{◌≡◌, ℕ, ◌+◌, ◌≤◌, cond, ◌||◌, List, ◌++◌, length, drop, Some, None, Ok, Err, Option, Result, nat_lt}
use Rattle.prices.specs.declared.schedule.Schedule.{Schedule}
use Rattle.prices.specs.Setter.{setter_of, Sets, minutes_set}
use Rattle.hour.specs.declared.fault.Fault.{Fault}
use Rattle.hour.specs.declared.fault.Fault.TheVariants.{WrongMinute, ListTooShort}
use Rattle.hour.specs.declared.market.Market.{Market}
use Rattle.hour.specs.Reason.{outside}
use Rattle.hour.specs.Market.{missing}
use Rattle.hour.specs.Book.{owner_of}
use Rattle.hour.specs.Table.{table}

-- the setter of a minute from 0 to 59; a later minute is refused
pub record SetterAnswer (s : Schedule) (minute : ℕ) (r : Result (Option ℕ) Fault) : Type 0 where
  pub value : r ≡ cond (nat_lt 59 minute) (Err (WrongMinute minute)) (Ok (setter_of s minute))
  pub words : minute ≤ 59 → Sets s minute (setter_of s minute)

-- the 64 counts and the old contents behind them; a shorter list is refused and stays as it was
pub record TallyAnswer (s : Schedule) (before : List ℕ) (r : Result (Unit {0}) Fault) (after : List ℕ) : Type 0 where
  pub answer : r ≡ cond (nat_lt (length before) 64) (Err (ListTooShort 64)) (Ok tt)
  pub left : after ≡ cond (nat_lt (length before) 64) before (table (λ place. minutes_set s (place + 1)) 64 ++ drop 64 before)

-- the owner of an enrolled asset; none for a number that is no enrolled asset's
abbrev pub enrolled_owner : Market → (asset : ℕ) → Option ℕ
enrolled_owner m asset = cond (outside 1 64 asset || missing m asset) None (Some (owner_of m asset))
