use Rattle.std.proofs.Common.{◌≡◌, min, take, sum}
use Rattle.splitting.proofs.weights.weigh.Given as goal

abbrev pub invariant-loop-weight : goal.invariant-loop-weight
invariant-loop-weight l = l.sum ≡ min (sum (take l.weight-index l.weights)) 64000001
