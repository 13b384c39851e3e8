use Rattle.hour.proofs.RunSteps.{void_kept, void_words}
use Rattle.hour.proofs.priced.PricedHour.void.Goals as goal

pub invariant_of-self : goal.invariant_of-self
invariant_of-self c =
    let h = c.args.self.now in
    record { kept = void_kept h.book c.args.slip _ h.kept c.void.ensures.state }

pub returns : goal.returns
returns c = record {
  voiding = c.void.ensures;
  words = void_words c.args.self.now.book c.args.slip c.void.result c.void.new.self c.void.ensures;
}
