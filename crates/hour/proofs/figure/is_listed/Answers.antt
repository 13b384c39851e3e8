use Rattle.std.proofs.Common.{◌≡◌, ◌∙◌, refl, rules}
use borrow.Author.Tests.{tests}
use Rattle.std.specs.List.{range_with_len, list_any}
use Rattle.std.proofs.lemmas.Iterator.{YieldsList-from_range}
use Rattle.std.proofs.lemmas.Iterator.Search.{any_from_yields_List}
use Rattle.hour.specs.Figure.{owned, listed}
use Rattle.hour.proofs.Places.{any_below}
use Rattle.hour.proofs.figure.is_listed.Goals as goal

pub returns : goal.returns
unfolding listed
returns c =
    let p = owned c.args.market.now c.args.participant in
    let found : c.any.result ≡ list_any p (range_with_len 0 64) = any_from_yields_List p _ _ c.any.result c.any.ensures.ran (YieldsList-from_range 0 64 64 refl refl) (λ x b q k. search (rules, tests)) in
    found ∙ any_below p 64
