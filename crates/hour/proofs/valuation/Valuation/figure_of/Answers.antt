use Rattle.std.proofs.Common.{◌≡◌, ℕ, cond, refl, arith, rules}
use Rattle.std.proofs.lemmas.Iterator.{YieldsList-from_range}
use Rattle.std.proofs.lemmas.Iterator.Adapters.{fits_from_length, at_most_from_yields_List}
use Rattle.hour.specs.Figure.{owned, figure_at, figure_of}
use Rattle.prices.proofs.Ranges.{sum_of_range}
use Rattle.hour.proofs.Limits.{owned_limit, figure_limit}
use Rattle.hour.proofs.valuation.Valuation.figure_of.Goals as goal

pub sum-requires-clause-fits : goal.sum-requires-clause-fits
sum-requires-clause-fits c =
    let v = c.args.self.now in
    let f = λ (place : ℕ). cond (owned v.book.now.market c.args.participant place) (figure_at c.args.figure v.price v.book.now place) 0 in
    fits_from_length _ _ 64 18446744073709551616 (at_most_from_yields_List (YieldsList-from_range 0 64 64 c.map.ensures.source refl) (omega arith)) c.map.ensures.closure (omega arith)
    (λ x r q k.
    let same : (q ≡ _) × (r ≡ f x) = search rules in
    (same.0, omega (arith, same.1, owned_limit v.price v.book.now v.ranged v.price_limit c.args.figure c.args.participant x)))

pub returns : goal.returns
unfolding figure_of
returns c =
    let v = c.args.self.now in
    let f = λ (place : ℕ). cond (owned v.book.now.market c.args.participant place) (figure_at c.args.figure v.price v.book.now place) 0 in
    let value : c.sum.result ≡ figure_of c.args.figure v.price v.book.now c.args.participant =
    sum_of_range f _ 64 c.sum.result c.sum.ensures.ran (YieldsList-from_range 0 64 64 c.map.ensures.source refl) c.map.ensures.closure (λ x r q k. search rules) in
    record { value = value; bound = omega (arith, value, figure_limit v.price v.book.now v.ranged v.price_limit c.args.figure c.args.participant) }
