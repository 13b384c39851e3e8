use Rattle.std.proofs.Common.{◌≡◌, suc, false, None, ◌∙◌, arith, rules}
use native.Mathlib.Numerals.{suc-eq-add-one}
use Rattle.std.specs.Option.{option_map}
use Rattle.prices.specs.Schedule.{marked_in}
use Rattle.prices.specs.Setter.{setter_of, setter_is}
use Rattle.prices.proofs.Pricing.{setter_words, setter_found}
use Rattle.prices.proofs.schedule.Schedule.setter.Goals as goal

pub returns-then-is_marked : goal.returns-then-is_marked
returns-then-is_marked c =
    let value : None ≡ setter_of c.args.self.now c.args.minute = search (rules, setter_is) in
    record { value = value; words = setter_words _ _ _ value }

pub returns : goal.returns
returns c =
    let unmarked : marked_in c.args.self.now c.args.minute ≡ false = search rules in
    let moved : c.map.result ≡ option_map suc c.first_proposing.result = grind (arith, suc-eq-add-one) in
    let value : c.map.result ≡ setter_of c.args.self.now c.args.minute =
    moved ∙ setter_found c.args.self.now c.args.minute c.system_price.result c.first_proposing.result unmarked c.system_price.ensures.value c.first_proposing.ensures.value in
    record { value = value; words = setter_words _ _ _ value }
