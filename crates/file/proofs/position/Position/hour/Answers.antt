use Rattle.std.proofs.Common.{refl}
use Rattle.file.specs.declared.item.ItemWith.TheVariants as item
use Rattle.file.specs.declared.key.Key.TheVariants.{Hour}
use Rattle.file.proofs.NumberRows.{numbers_read, row_of_numbers}
use Rattle.file.proofs.Shapes.{passed_on, one_value}
use Rattle.file.proofs.position.Position.hour.Goals as goal

pub returns-in_err-label : goal.returns-in_err-label
returns-in_err-label c = passed_on Hour _ _ _ _ c.from_residual.ensures.1 (row_of_numbers 1 _ _ _ c.in_err-label.ensures)

pub returns : goal.returns
returns c =
    let read = c.in_ok-label.ensures in
    numbers_read (item.Hour _) 1 _ _ _ _ c.in_ok-label.next read (one_value _ read.many) (λ w. w.0) refl
