use Rattle.hour.proofs.PricedSteps.{confirm_kept, confirm_words}
use Rattle.hour.proofs.priced.PricedHour.confirm.Goals as goal

pub invariant_of-self : goal.invariant_of-self
invariant_of-self c =
    let h = c.args.self.now in
    record { kept = confirm_kept h.book c.args.number c.args.participant c.confirm.result _ c.confirm.ensures.answer c.confirm.ensures.state h.kept }

pub returns : goal.returns
returns c =
    let h = c.args.self.now in
    confirm_words h.book c.args.number c.args.participant c.confirm.result _ c.confirm.ensures.answer c.confirm.ensures.state h.kept.0 h.kept.1.2
