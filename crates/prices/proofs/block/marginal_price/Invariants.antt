use Rattle.std.proofs.Common.{◌≡◌, ◌-◌}
use Rattle.prices.specs.Range.{highest}
use Rattle.prices.specs.Block.{ahead, dispatched_price}
use Rattle.prices.proofs.block.marginal_price.Given as goal

abbrev pub invariant-loop-block : goal.invariant-loop-block
invariant-loop-block l =
    (l.left ≡ l.level - ahead l.blocks l.block-index)
    × (l.top ≡ highest (dispatched_price l.blocks l.level) l.block-index)
