use Rattle.std.proofs.Common.{◌≡◌, length, None, sym, ap, ◌∙◌, rules}
use borrow.Author.Tests.{tests}
use Rattle.std.proofs.lemmas.Iterator.{YieldsList-from_slice}
use Rattle.std.proofs.lemmas.Iterator.Consumers.{YieldsList-from_filter_map, max_from_yields_List}
use Rattle.std.proofs.lemmas.Iterator.Adapters.{option_map_id}
use Rattle.prices.specs.Range.{highest}
use Rattle.prices.specs.Schedule.{proposed_by, proposed}
use Rattle.prices.proofs.Ranges.{highest_of_list}
use Rattle.prices.proofs.schedule.Schedule.top_price.Goals as goal

pub returns : goal.returns
returns c =
    let assets = c.args.self.now.assets in
    let all : length assets ≡ 64 = search rules in
    sym (option_map_id c.max.result)
    ∙ max_from_yields_List c.filter_map.result c.max.result c.max.ensures.ran (YieldsList-from_filter_map _ (λ asset. proposed_by asset c.args.minute) (YieldsList-from_slice assets cc) c.filter_map.ensures.closure (λ x r q k. search (rules, tests)))
    ∙ sym (highest_of_list (λ asset. proposed_by asset c.args.minute) assets None)
    ∙ ap (highest (proposed c.args.self.now c.args.minute)) all
