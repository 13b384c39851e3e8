use Rattle.std.proofs.Common.{◌≡◌, ℕ, ◌<◌, get_or}
use Rattle.splitting.specs.Largest.{larger}
use Rattle.splitting.specs.Remainders.{handed}
use Rattle.splitting.proofs.largest.LargestWriteShares.write_shares.Given as goal

abbrev pub invariant-loop-place : goal.invariant-loop-place
invariant-loop-place l =
    (k : ℕ) → k < l.place → get_or l.shares k 0 ≡ handed (larger l.charge.total l.charge.weights.now) l.charge.total l.charge.weights.now k
