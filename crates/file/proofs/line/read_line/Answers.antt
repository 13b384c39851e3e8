use Rattle.file.proofs.Exact.{exactly}
use Rattle.file.proofs.line.read_line.Goals as goal

pub returns : goal.returns
returns c = record { reads = c.scan_line.ensures; exactly = exactly c.args.file.now c.args.start c.args.last c.scan_line.result c.scan_line.ensures }
