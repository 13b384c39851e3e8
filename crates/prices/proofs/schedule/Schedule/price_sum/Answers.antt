use Rattle.std.proofs.Common.{◌+◌, ◌*◌, ◌^◌, refl, arith, rules}
use Rattle.std.proofs.lemmas.Iterator.{YieldsList-from_range}
use Rattle.std.proofs.lemmas.Iterator.Adapters.{fits_from_length, at_most_from_yields_List}
use Rattle.prices.specs.Schedule.{system_price}
use Rattle.prices.proofs.Ranges.{sum_of_range, sum_stays_below}
use Rattle.prices.proofs.schedule.Schedule.price_sum.Goals as goal

pub sum-requires-clause-fits : goal.sum-requires-clause-fits
sum-requires-clause-fits c =
    fits_from_length _ _ 60 (2 ^ 64) (at_most_from_yields_List (YieldsList-from_range 0 60 60 c.map.ensures.source refl) (omega arith)) c.map.ensures.closure (omega arith) (λ x r q k. search rules)

pub returns-clause-value : goal.returns-clause-value
returns-clause-value c =
    sum_of_range (system_price c.args.self.now) _ 60 c.sum.result c.sum.ensures.ran (YieldsList-from_range 0 60 60 c.map.ensures.source refl) c.map.ensures.closure (λ x r q k. search rules)

pub returns-clause-bound : goal.returns-clause-bound
returns-clause-bound c =
    let below = sum_stays_below _ _ 60 (60 * 4294967295 + 1) c.sum.result (at_most_from_yields_List (YieldsList-from_range 0 60 60 c.map.ensures.source refl) (omega arith)) c.map.ensures.closure (omega arith) (λ x r q k. search rules) c.sum.ensures.runs in
    omega (arith, below)
