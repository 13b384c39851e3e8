use Rattle.std.proofs.Common.{refl}
use Rattle.file.specs.declared.item.ItemWith.TheVariants as item
use Rattle.file.specs.declared.key.Key.TheVariants.{Instruct}
use Rattle.file.proofs.NumberRows.{numbers_read, row_of_numbers}
use Rattle.file.proofs.Shapes.{passed_on, four_values}
use Rattle.file.proofs.position.Position.instruct.Goals as goal

pub returns-in_err-number : goal.returns-in_err-number
returns-in_err-number c = passed_on Instruct _ _ _ _ c.from_residual.ensures.1 (row_of_numbers 4 _ _ _ c.in_err-number.ensures)

pub returns : goal.returns
returns c =
    let read = c.in_ok-number.ensures in
    numbers_read (item.Instruct _ _ _ _) 4 _ _ _ _ c.in_ok-number.next read (four_values _ read.many) (λ w. (w.0, w.1.0, w.1.1.0, w.1.1.1.0)) refl
