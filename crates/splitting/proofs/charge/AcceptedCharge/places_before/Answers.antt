use Rattle.std.proofs.Common.{ℕ, length, refl, ◌∙◌, arith, rules, tests}
use Rattle.std.specs.List.{range_with_len}
use Rattle.std.proofs.lemmas.Iterator.{YieldsList-from_range}
use Rattle.std.proofs.lemmas.Iterator.Consumers.{YieldsList-at, YieldsList-from_filter, count_from_yields_List}
use Rattle.std.proofs.lemmas.List.Sums.{length-filter}
use Rattle.splitting.specs.Largest.{larger}
use Rattle.splitting.proofs.Totals.{count_table}
use Rattle.splitting.proofs.charge.AcceptedCharge.places_before.Goals as goal

pub returns : goal.returns
returns c =
    let first = λ (o : ℕ). larger c.args.self.now.total c.args.self.now.weights.now o c.args.place in
    let n = length c.args.self.now.weights.now in
    count_from_yields_List _ _ c.count.ensures.ran
    (YieldsList-from_filter _ first (YieldsList-at c.filter.ensures.source (YieldsList-from_range 0 n n refl (omega arith))) c.filter.ensures.closure (λ x r q k. search (rules, tests)))
    ∙ length-filter first (range_with_len 0 n)
    ∙ count_table first n
