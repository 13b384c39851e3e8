use Rattle.std.proofs.Common.{◌≡◌, ◌≤◌, sum, arith, rules, tests}
use Rattle.std.proofs.lemmas.Iterator.{YieldsList-from_slice, YieldsList-from_map}
use Rattle.std.proofs.lemmas.Iterator.Adapters.{serves_from_places}
use Rattle.std.proofs.lemmas.Iterator.Consumers.{YieldsList-at, fits_from_yields_list}
use Rattle.std.proofs.lemmas.List.Sums.{get_or-le-sum_by}
use Rattle.splitting.specs.Proportion.{whole_cents}
use Rattle.splitting.proofs.Totals.{wholes, wholes_sum, wholes_le_total}
use Rattle.splitting.proofs.charge.AcceptedCharge.cents_left.Goals as goal

pub sum-given-requires-clause-can : goal.sum-given-requires-clause-can
sum-given-requires-clause-can c =
    let weights = c.args.self.now.weights.now in (
      tt,
      serves_from_places (YieldsList-at c.map.ensures.source (YieldsList-from_slice weights cc)) (λ x q k. search rules)
          (λ x k l e. let light : x.now ≤ 64000000 = omega (arith, e, get_or-le-sum_by (λ w. w) weights k x.now l, c.args.self.now.limits.light) in search rules),
    )

pub sum-given-requires-clause-fits : goal.sum-given-requires-clause-fits
sum-given-requires-clause-fits c =
    let total = c.args.self.now.total in
    let weights = c.args.self.now.weights.now in
    fits_from_yields_list c.map.result _
    (YieldsList-from_map _ (λ w. whole_cents total w (sum weights)) (YieldsList-at c.map.ensures.source (YieldsList-from_slice weights cc)) c.map.ensures.closure (λ x r q k. search (rules, tests)))
    (omega (arith, wholes_le_total total weights, c.args.self.now.limits.small))

pub overflow_sub-result : goal.overflow_sub-result
overflow_sub-result c =
    let given : c.sum-given.result ≡ sum (wholes c.args.self.now.total c.args.self.now.weights.now) = search rules in
    omega (arith, wholes_le_total c.args.self.now.total c.args.self.now.weights.now)

pub returns : goal.returns
returns c =
    let given : c.sum-given.result ≡ sum (wholes c.args.self.now.total c.args.self.now.weights.now) = search rules in
    omega (arith, wholes_sum c.args.self.now.total c.args.self.now.weights.now)
