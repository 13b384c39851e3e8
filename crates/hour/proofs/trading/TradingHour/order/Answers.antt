use Rattle.hour.proofs.TradeSteps.{order_kept, order_words}
use Rattle.hour.proofs.trading.TradingHour.order.Goals as goal

pub invariant_of-self : goal.invariant_of-self
invariant_of-self c =
    let h = c.args.self.now in
    record { kept = order_kept h.market c.args.asset c.args.minute c.args.level c.order.result _ h.kept c.order.ensures.answer c.order.ensures.state }

pub returns : goal.returns
returns c =
    let h = c.args.self.now in
    order_words h.market c.args.asset c.args.minute c.args.level c.order.result _ h.kept c.order.ensures.answer c.order.ensures.state
