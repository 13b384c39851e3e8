use Rattle.hour.proofs.PricedSteps.{withdraw_kept, withdraw_words}
use Rattle.hour.proofs.priced.PricedHour.withdraw.Goals as goal

pub invariant_of-self : goal.invariant_of-self
invariant_of-self c =
    let h = c.args.self.now in
    record { kept = withdraw_kept h.book c.args.number c.args.participant c.withdraw.result _ c.withdraw.ensures.answer c.withdraw.ensures.state h.kept }

pub returns : goal.returns
returns c =
    let h = c.args.self.now in
    withdraw_words h.book c.args.number c.args.participant c.withdraw.result _ c.withdraw.ensures.answer c.withdraw.ensures.state h.kept.0
