use Rattle.file.proofs.NumberRows.{Taken}
use Rattle.file.proofs.position.Position.numbers.Given as goal

abbrev pub invariant-loop-i : goal.invariant-loop-i
invariant-loop-i g l = Taken g.row.N l.self.file.now l.self.at l.i l.value-items l.next
