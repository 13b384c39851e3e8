use Rattle.std.proofs.Common.{refl}
use Rattle.file.specs.declared.item.ItemWith.TheVariants as item
use Rattle.file.specs.declared.key.Key.TheVariants.{Meter}
use Rattle.file.proofs.NumberRows.{numbers_read, row_of_numbers}
use Rattle.file.proofs.Shapes.{passed_on, two_values}
use Rattle.file.proofs.position.Position.meter.Goals as goal

pub returns-in_err-asset : goal.returns-in_err-asset
returns-in_err-asset c = passed_on Meter _ _ _ _ c.from_residual.ensures.1 (row_of_numbers 2 _ _ _ c.in_err-asset.ensures)

pub returns : goal.returns
returns c =
    let read = c.in_ok-asset.ensures in
    numbers_read (item.Meter _ _) 2 _ _ _ _ c.in_ok-asset.next read (two_values _ read.many) (λ w. (w.0, w.1.0)) refl
