use Rattle.hour.proofs.PricedSteps.{propose_kept, propose_words}
use Rattle.hour.proofs.priced.PricedHour.propose.Goals as goal

pub invariant_of-self : goal.invariant_of-self
invariant_of-self c =
    let h = c.args.self.now in
    record { kept = propose_kept h.book c.args.number c.args.source c.args.sink c.args.kwh c.propose.result _ c.propose.ensures.answer c.propose.ensures.state h.kept }

pub returns : goal.returns
returns c =
    let h = c.args.self.now in
    propose_words h.book c.args.number c.args.source c.args.sink c.args.kwh c.propose.result _ c.propose.ensures.answer c.propose.ensures.state h.kept.0
