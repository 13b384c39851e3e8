use Rattle.std.proofs.Common.{◌-◌, length}
use Rattle.hourfile.specs.Cursor.{Entering}
use Rattle.hourfile.proofs.hour_file.HourFile.enter_lines.Given as goal

abbrev pub invariant-loop-read : goal.invariant-loop-read
invariant-loop-read l = Entering l.self.bytes.now l.hour.book l.cursor

abbrev pub decreases-loop-read : goal.decreases-loop-read
decreases-loop-read l = length l.self.bytes.now - l.cursor.start
