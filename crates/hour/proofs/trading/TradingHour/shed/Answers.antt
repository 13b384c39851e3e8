use Rattle.hour.proofs.TradeSteps.{shed_kept, shed_words}
use Rattle.hour.proofs.trading.TradingHour.shed.Goals as goal

pub invariant_of-self : goal.invariant_of-self
invariant_of-self c =
    let h = c.args.self.now in
    record { kept = shed_kept h.market c.args.first c.args.end c.shed.result _ h.kept c.shed.ensures.answer c.shed.ensures.state }

pub returns : goal.returns
returns c =
    let h = c.args.self.now in
    shed_words h.market c.args.first c.args.end c.shed.result _ h.kept c.shed.ensures.answer c.shed.ensures.state
