use Rattle.std.proofs.Common.{ℕ, ◌+◌, replicate}
use Rattle.std.proofs.lemmas.List.{length-replicate}
use Rattle.prices.specs.Setter.{minutes_set}
use Rattle.hourbill.proofs.Counts.{tallied}
use Rattle.hourbill.proofs.report.setters.Goals as goal

pub returns : goal.returns
returns c place within =
    tallied (λ k. minutes_set c.args.hour.now.book.market.schedule (k + 1)) (replicate 64 0) c.tally.new.counts (length-replicate {A = ℕ} 64 0) c.tally.ensures.left place within
