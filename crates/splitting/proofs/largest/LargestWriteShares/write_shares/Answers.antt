use Rattle.std.proofs.Common.{length, arith}
use Rattle.std.proofs.lemmas.List.FromFn.{fill_by_all}
use Rattle.splitting.specs.Largest.{larger, handed_out}
use Rattle.splitting.specs.Remainders.{handed}
use Rattle.splitting.proofs.largest.LargestWriteShares.write_shares.Goals as goal

pub returns : goal.returns
unfolding handed_out
returns c =
    let total = c.args.charge.now.total in
    let weights = c.args.charge.now.weights.now in
    fill_by_all (handed (larger total weights) total weights) c.loop-place.shares (length weights) 0 (omega arith)
    (λ k within. c.loop-place.invariant k (omega arith))
