use Rattle.hour.proofs.RunSteps.{post_kept, post_words}
use Rattle.hour.proofs.priced.PricedHour.post.Goals as goal

pub invariant_of-self : goal.invariant_of-self
invariant_of-self c =
    let h = c.args.self.now in
    record { kept = post_kept h.book c.args.slip _ h.kept c.post.ensures.state }

pub returns : goal.returns
returns c = record {
  posting = c.post.ensures;
  words = post_words c.args.self.now.book c.args.slip c.post.result c.post.new.self c.post.ensures;
}
