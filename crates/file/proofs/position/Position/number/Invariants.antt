use Rattle.file.proofs.Numbers.{DigitsBefore}
use Rattle.file.proofs.position.Position.number.Given as goal

abbrev pub invariant-loop-digits : goal.invariant-loop-digits
invariant-loop-digits l = DigitsBefore l.self.file.now l.self.at l.value l.digits l.next
