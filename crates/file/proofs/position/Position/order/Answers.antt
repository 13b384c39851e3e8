use Rattle.std.proofs.Common.{refl}
use Rattle.file.specs.declared.item.ItemWith.TheVariants as item
use Rattle.file.specs.declared.key.Key.TheVariants.{Order}
use Rattle.file.proofs.NumberRows.{numbers_read, row_of_numbers}
use Rattle.file.proofs.Shapes.{passed_on, three_values}
use Rattle.file.proofs.position.Position.order.Goals as goal

pub returns-in_err-asset : goal.returns-in_err-asset
returns-in_err-asset c = passed_on Order _ _ _ _ c.from_residual.ensures.1 (row_of_numbers 3 _ _ _ c.in_err-asset.ensures)

pub returns : goal.returns
returns c =
    let read = c.in_ok-asset.ensures in
    numbers_read (item.Order _ _ _) 3 _ _ _ _ c.in_ok-asset.next read (three_values _ read.many) (λ w. (w.0, w.1.0, w.1.1.0)) refl
