use Rattle.std.proofs.Common.{ap, ◌∙◌}
use Rattle.prices.specs.Block.{block_list}
use Rattle.file.specs.declared.key.Key.TheVariants.{Offer}
use Rattle.file.proofs.BlockRows.{asset_breaks, blocks_break, offer_read}
use Rattle.file.proofs.Shapes.{passed_on}
use Rattle.file.proofs.position.Position.offer.Goals as goal

pub returns-in_err-asset : goal.returns-in_err-asset
returns-in_err-asset c = passed_on Offer _ _ _ _ c.from_residual.ensures.1 (asset_breaks _ _ _ c.in_err-asset.ensures)

pub returns-in_err-blocks : goal.returns-in_err-blocks
returns-in_err-blocks c =
    passed_on Offer _ _ _ _ c.from_residual-in_err-blocks.ensures.1
    (blocks_break _ _ _ c.in_ok-asset.asset c.in_ok-asset.ensures c.in_err-blocks.ensures)

pub returns : goal.returns
returns c =
    let list = c.as_list.ensures ∙ ap block_list c.as_slice.ensures.value in
    rw list (offer_read _ _ c.in_ok-asset.asset _ c.in_ok-blocks.next c.in_ok-asset.ensures c.in_ok-blocks.ensures)
