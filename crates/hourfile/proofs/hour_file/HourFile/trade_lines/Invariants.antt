use Rattle.std.proofs.Common.{◌-◌, length}
use Rattle.hourfile.specs.Cursor.{Trading}
use Rattle.hourfile.proofs.hour_file.HourFile.trade_lines.Given as goal

abbrev pub invariant-loop-read : goal.invariant-loop-read
invariant-loop-read l = Trading l.self.bytes.now l.hour.market l.cursor

abbrev pub decreases-loop-read : goal.decreases-loop-read
decreases-loop-read l = length l.self.bytes.now - l.cursor.start
