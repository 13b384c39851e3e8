use Rattle.std.proofs.Common.{refl}
use Rattle.file.specs.declared.item.ItemWith.TheVariants as item
use Rattle.file.specs.declared.key.Key.TheVariants.{Shed}
use Rattle.file.proofs.NumberRows.{numbers_read, row_of_numbers}
use Rattle.file.proofs.Shapes.{passed_on, two_values}
use Rattle.file.proofs.position.Position.shed.Goals as goal

pub returns-in_err-first : goal.returns-in_err-first
returns-in_err-first c = passed_on Shed _ _ _ _ c.from_residual.ensures.1 (row_of_numbers 2 _ _ _ c.in_err-first.ensures)

pub returns : goal.returns
returns c =
    let read = c.in_ok-first.ensures in
    numbers_read (item.Shed _ _) 2 _ _ _ _ c.in_ok-first.next read (two_values _ read.many) (λ w. (w.0, w.1.0)) refl
