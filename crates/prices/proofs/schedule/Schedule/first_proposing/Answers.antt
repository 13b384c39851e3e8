use Rattle.std.proofs.Common.{◌≡◌, length, None, sym, ap, ◌∙◌, rules}
use Rattle.std.proofs.lemmas.Iterator.{YieldsList-from_slice}
use Rattle.std.proofs.lemmas.Iterator.Search.{position_from_yields_List}
use borrow.Author.Tests.{tests}
use Rattle.prices.specs.Range.{first_place}
use Rattle.prices.specs.Schedule.{proposed_by, proposed}
use Rattle.prices.specs.Setter.{is_number}
use Rattle.prices.proofs.Ranges.{first_place_of_list}
use Rattle.prices.proofs.schedule.Schedule.first_proposing.Goals as goal

pub returns-clause-value : goal.returns-clause-value
returns-clause-value c =
    let assets = c.args.self.now.assets in
    let all : length assets ≡ 64 = search rules in
    position_from_yields_List (λ asset. is_number (proposed_by asset c.args.minute) c.args.price) _ _ _ c.position.ensures.ran (YieldsList-from_slice assets cc) (λ x b q k. search (rules, tests))
    ∙ sym (first_place_of_list (λ asset. is_number (proposed_by asset c.args.minute) c.args.price) assets None)
    ∙ ap (first_place (λ place. is_number (proposed c.args.self.now c.args.minute place) c.args.price)) all
