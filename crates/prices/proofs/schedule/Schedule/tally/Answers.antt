use Rattle.std.proofs.Common.{◌+◌, cond, get_or, None, ap, ◌∙◌, rules}
use Rattle.prices.specs.Range.{count}
use Rattle.prices.specs.Setter.{is_number}
use Rattle.prices.proofs.Ranges.{total_same}
use Rattle.prices.proofs.Arrays.{made_gives}
use Rattle.prices.proofs.schedule.Schedule.tally.Goals as goal

pub returns : goal.returns
returns c = λ place lt.
    made_gives _ _ (λ k. count (λ minute. is_number (get_or c.setters-names.result minute None) (k + 1)) 60) (λ i y q k. search rules) _ _ c.from_fn.ensures.items place lt 0
    ∙ total_same _ _ 60 (λ k within. ap (λ name. cond (is_number name (place + 1)) 1 0) (c.setters-names.ensures k within))
