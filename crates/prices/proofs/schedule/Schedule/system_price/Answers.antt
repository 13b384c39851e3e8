use Rattle.std.proofs.Common.{◌≡◌, rules}
use Rattle.prices.specs.Schedule.{system_price}
use Rattle.prices.proofs.Pricing.{system_words}
use Rattle.prices.proofs.schedule.Schedule.system_price.Goals as goal

pub returns-then-is_marked : goal.returns-then-is_marked
unfolding system_price
returns-then-is_marked c =
    let value : 100000 ≡ system_price c.args.self.now c.args.minute = search rules in
    record { value = value; words = system_words _ _ _ value }

pub returns : goal.returns
unfolding system_price
returns c =
    let value : c.unwrap_or.result ≡ system_price c.args.self.now c.args.minute = search rules in
    record { value = value; words = system_words _ _ _ value }
