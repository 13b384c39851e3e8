use Rattle.std.proofs.Common.{◌≡◌, ◌≤◌, ◌+◌, ◌*◌, ◌^◌, length, sym, ◌∙◌, ap, arith, rules}
use Rattle.std.specs.List.{sum_by}
use Rattle.std.proofs.lemmas.Iterator.{YieldsList-from_slice}
use Rattle.std.proofs.lemmas.Iterator.Adapters.{fits_from_length, at_most_from_yields_List}
use Rattle.prices.specs.declared.block.Block.{Block}
use Rattle.prices.specs.Block.{no_block, listed}
use Rattle.prices.proofs.Ranges.{total_of_list, sum_stays_below}
use Rattle.prices.proofs.block.BlockList.total_size.Goals as goal

pub sum-requires-clause-fits : goal.sum-requires-clause-fits
sum-requires-clause-fits c =
    let few : length c.as_slice.result.now ≤ 7 = search rules in
    fits_from_length _ _ 7 (2 ^ 64) (at_most_from_yields_List (YieldsList-from_slice c.as_slice.result.now cc) few) c.map.ensures.closure (omega arith) (λ x r q k. search rules)

pub returns-clause-value : goal.returns-clause-value
returns-clause-value c =
    let added : c.sum.result ≡ sum_by (λ (block : Block). block.size) c.as_slice.result.now = search rules in
    added ∙ ap (sum_by (λ (block : Block). block.size)) c.as_slice.ensures ∙ sym (total_of_list (λ (block : Block). block.size) (listed c.args.self.now) no_block)

pub returns-clause-bound : goal.returns-clause-bound
returns-clause-bound c =
    let few : length c.as_slice.result.now ≤ 7 = search rules in
    let below = sum_stays_below _ _ 7 (7 * 4294967295 + 1) c.sum.result (at_most_from_yields_List (YieldsList-from_slice c.as_slice.result.now cc) few) c.map.ensures.closure (omega arith) (λ x r q k. search rules) c.sum.ensures.runs in
    omega (arith, below)
