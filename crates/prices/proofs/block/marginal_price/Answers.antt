use Rattle.std.proofs.Common.{◌≡◌, rules}
use Rattle.prices.specs.Block.{marginal}
use Rattle.prices.proofs.Ranges.{total_more, total_none, highest_more, highest_none}
use Rattle.prices.proofs.Filling.{marginal_words}
use Rattle.prices.proofs.block.marginal_price.Goals as goal

pub loop-block-init : goal.loop-block-init
loop-block-init c = search (rules, total_none, highest_none)

pub loop-block-preserved : goal.loop-block-preserved
loop-block-preserved c = search (rules, total_more, highest_more)

pub returns : goal.returns
returns c =
    let value : c.loop-block.top ≡ marginal c.args.blocks.now c.args.level = search rules in
    record { value = value; words = marginal_words _ _ _ value }
