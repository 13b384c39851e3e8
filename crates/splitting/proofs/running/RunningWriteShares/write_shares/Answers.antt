use Rattle.std.proofs.Common.{length, arith}
use Rattle.std.proofs.lemmas.List.FromFn.{fill_by_all}
use Rattle.splitting.specs.Running.{running}
use Rattle.splitting.specs.Gains.{gain}
use Rattle.splitting.proofs.running.RunningWriteShares.write_shares.Goals as goal

pub returns : goal.returns
unfolding running
returns c =
    let total = c.args.charge.now.total in
    let weights = c.args.charge.now.weights.now in
    fill_by_all (gain total weights) c.loop-place.shares (length weights) 0 (omega arith) (λ k within. c.loop-place.invariant.1 k (omega arith))
