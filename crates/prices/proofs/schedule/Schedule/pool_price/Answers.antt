use Rattle.std.proofs.Common.{arith, rules}
use Rattle.std.proofs.lemmas.Int.{ints, to_z-of_z}
use Rattle.prices.specs.Schedule.{pool_price}
use Rattle.prices.proofs.schedule.Schedule.pool_price.Goals as goal

pub overflow_cast-result : goal.overflow_cast-result
overflow_cast-result c = record { fits = omega (arith, ints) }

pub returns : goal.returns
unfolding pool_price
returns c = search (rules, to_z-of_z)
