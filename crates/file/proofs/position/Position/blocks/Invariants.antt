use Rattle.std.proofs.Common.{◌-◌, length}
use Rattle.file.proofs.BlockRows.{Reading}
use Rattle.file.proofs.position.Position.blocks.Given as goal

abbrev pub invariant-loop-read : goal.invariant-loop-read
invariant-loop-read l = Reading l.self.file.now l.self.at l.next l.blocks.items

abbrev pub decreases-loop-read : goal.decreases-loop-read
decreases-loop-read l = 6 - length l.blocks.items
