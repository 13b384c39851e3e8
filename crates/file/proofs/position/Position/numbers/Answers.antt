use Rattle.std.proofs.lemmas.List.{length-replicate}
use Rattle.file.specs.Numbers.{NumberRow, ReadNumbers}
use Rattle.file.specs.Place.{BreaksAt}
use Rattle.file.proofs.NumberRows.{none_taken, one_more_taken, all_taken, taken_breaks}
use Rattle.file.proofs.Places.{err_passed}
use Rattle.file.proofs.position.Position.numbers.Goals as goal

pub loop-i-init : goal.loop-i-init
loop-i-init g c = none_taken g.row.N _ c.args.self (length-replicate g.row.N 0)

pub loop-i-preserved : goal.loop-i-preserved
loop-i-preserved g c =
    one_more_taken g.row.N _ _ c.loop-i.i _ c.loop-i.next c.in_ok-field.field c.loop-i-test.true c.loop-i.invariant (rw (← c.row_end.ensures) c.in_ok-field.ensures)

pub returns-in_err-field : goal.returns-in_err-field
returns-in_err-field g c =
    err_passed (λ read. ReadNumbers g.row.N c.args.self.file.now c.args.self.at read.0 read.1) (λ broken. BreaksAt (NumberRow g.row.N) c.args.self.file.now c.args.self.at broken.place) _ _ c.from_residual.ensures.1
    (taken_breaks g.row.N _ _ c.loop-i.i _ c.loop-i.next _ _ c.loop-i-test.true c.loop-i.invariant c.row_end.ensures c.in_err-field.ensures)

pub returns : goal.returns
returns g c = all_taken g.row.N _ _ c.loop-i.i _ c.loop-i.next c.loop-i-test.false c.loop-i.invariant
