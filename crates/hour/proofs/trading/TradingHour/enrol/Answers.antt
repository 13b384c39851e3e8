use Rattle.hour.proofs.TradeSteps.{enrol_kept, enrol_words}
use Rattle.hour.proofs.trading.TradingHour.enrol.Goals as goal

pub invariant_of-self : goal.invariant_of-self
invariant_of-self c =
    let h = c.args.self.now in
    record { kept = enrol_kept h.market c.args.asset c.args.letter c.args.owner c.enrol.result _ h.kept c.enrol.ensures.answer c.enrol.ensures.state }

pub returns : goal.returns
returns c =
    let h = c.args.self.now in
    enrol_words h.market c.args.asset c.args.letter c.args.owner c.enrol.result _ h.kept c.enrol.ensures.answer c.enrol.ensures.state
