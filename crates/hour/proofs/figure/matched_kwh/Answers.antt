use Rattle.std.proofs.Common.{◌≡◌, ◌≤◌, length, ◌∙◌, arith, rules}
use Rattle.std.specs.List.{sum_by}
use Rattle.hour.specs.Figure.{matched_by}
use Rattle.hour.proofs.Limits.{matched_all, matched_limit}
use Rattle.hour.proofs.figure.matched_kwh.Goals as goal

pub sum-requires-clause-fits : goal.sum-requires-clause-fits
sum-requires-clause-fits c =
    let long : length c.args.instructions.now ≡ 64 = search rules in
    let all = matched_all c.args.instructions.now c.args.asset long in
    let small : sum_by (λ i. matched_by i c.args.asset) c.args.instructions.now ≤ 64000000 = omega (arith, all, matched_limit c.args.instructions.now c.args.asset c.requires) in
    search rules

pub returns : goal.returns
returns c =
    let long : length c.args.instructions.now ≡ 64 = search rules in
    let summed : c.sum.result ≡ sum_by (λ i. matched_by i c.args.asset) c.args.instructions.now = search rules in
    summed ∙ matched_all c.args.instructions.now c.args.asset long
