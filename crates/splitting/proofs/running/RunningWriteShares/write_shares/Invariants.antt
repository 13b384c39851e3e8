use Rattle.std.proofs.Common.{◌≡◌, ℕ, ◌<◌, get_or, take, sum}
use Rattle.splitting.specs.Gains.{gain}
use Rattle.splitting.proofs.running.RunningWriteShares.write_shares.Given as goal

abbrev pub invariant-loop-place : goal.invariant-loop-place
invariant-loop-place l =
    (l.front ≡ sum (take l.place l.charge.weights.now))
    × ((k : ℕ) → k < l.place → get_or l.shares k 0 ≡ gain l.charge.total l.charge.weights.now k)
