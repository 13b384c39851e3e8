use Rattle.hour.proofs.RunSteps.{draw_kept, draw_words}
use Rattle.hour.proofs.priced.PricedHour.draw.Goals as goal

pub draw-requires : goal.draw-requires
draw-requires g c =
    let h = c.args.self.now in
    record { ranged = h.kept.1; posted = h.kept.2 }

pub invariant_of-self : goal.invariant_of-self
invariant_of-self g c =
    let h = c.args.self.now in
    record { kept = draw_kept (g.R.Apportion.meaning c.args.rule.now) h.book c.draw.result _ c.draw.ensures.drawing.state h.kept c.draw.ensures.within }

pub returns : goal.returns
returns g c = record {
  drawing = c.draw.ensures.drawing;
  words = draw_words (g.R.Apportion.meaning c.args.rule.now) c.args.self.now.book c.args.lines.now c.draw.result c.draw.new.self c.draw.new.lines c.draw.ensures.drawing;
}
