use Rattle.splitting.specs.Fairness.{fair_at}
use Rattle.splitting.proofs.rule.split_by.Goals as goal

pub returns : goal.returns
returns g c =
    let done = c.split.ensures.splits in
    record {
      splits = done;
      fair = fair_at (g.R.Apportion.meaning c.args.rule.now) (g.met.R.Apportion.lawful c.args.rule.now)
          c.args.total c.args.weights.now c.args.shares.now c.split.result c.split.new.shares done;
    }
