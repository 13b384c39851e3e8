use Rattle.hour.proofs.TradeSteps.{offer_kept, offer_words}
use Rattle.hour.proofs.trading.TradingHour.offer.Goals as goal

pub invariant_of-self : goal.invariant_of-self
invariant_of-self c =
    let h = c.args.self.now in
    record { kept = offer_kept h.market c.args.asset c.args.blocks.now c.offer.result _ h.kept c.offer.ensures.answer c.offer.ensures.state }

pub returns : goal.returns
returns c =
    let h = c.args.self.now in
    offer_words h.market c.args.asset c.args.blocks.now c.offer.result _ h.kept c.offer.ensures.answer c.offer.ensures.state
