use Rattle.std.proofs.Common.{None, rules}
use Rattle.prices.specs.Setter.{setter_of}
use Rattle.prices.proofs.Arrays.{made_gives}
use Rattle.prices.proofs.schedule.Schedule.setters.Goals as goal

pub returns : goal.returns
returns c = λ minute lt. made_gives _ _ (setter_of c.args.self.now) (λ i y q k. search rules) _ _ c.from_fn.ensures.items minute lt None
