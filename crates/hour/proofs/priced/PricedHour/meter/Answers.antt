use Rattle.hour.proofs.PricedSteps.{meter_kept, meter_words}
use Rattle.hour.proofs.priced.PricedHour.meter.Goals as goal

pub invariant_of-self : goal.invariant_of-self
invariant_of-self c =
    let h = c.args.self.now in
    record { kept = meter_kept h.book c.args.asset c.args.kwh c.meter.result _ c.meter.ensures.answer c.meter.ensures.state h.kept }

pub returns : goal.returns
returns c =
    let h = c.args.self.now in
    meter_words h.book c.args.asset c.args.kwh c.meter.result _ c.meter.ensures.answer c.meter.ensures.state h.kept.0
