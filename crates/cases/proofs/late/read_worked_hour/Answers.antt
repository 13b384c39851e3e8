use Rattle.std.proofs.Common.{List, [], ◌∷◌, refl}
use Rattle.ledger.specs.Call.{Lived, meter, propose, confirm}
use Rattle.cases.proofs.late.read_worked_hour.Goals as goal

pub returns : goal.returns
returns c =
    let traded = c.in_ok-trading.ensures in
    let lived : List Lived =
    (confirm 1 3, c.confirm.result)
    ∷ (propose 1 1 3 40000, c.propose.result)
    ∷ (meter 4 50000, c.meter-4.result)
    ∷ (meter 3 110000, c.meter-3.result)
    ∷ (meter 2 65000, c.meter-2.result)
    ∷ (meter 1 100000, c.meter.result)
    ∷ [] in
    record {
      traded = traded.lived;
      lived = lived;
      came = record {
        market = c.in_ok-trading.trading.market;
        trading = traded.came;
        since =
            (c.propose.new.self.book, (c.meter-4.new.self.book, (c.meter-3.new.self.book, (c.meter-2.new.self.book, (c.meter.new.self.book, (c.close-hour.result.book, c.close-hour.ensures.state, c.meter.ensures), c.meter-2.ensures), c.meter-3.ensures), c.meter-4.ensures), c.propose.ensures), c.confirm.ensures);
      };
      same_trades = traded.same;
      same_calls = refl;
    }
