use Rattle.hour.proofs.Slips.{fresh_fits, not_returned}
use Rattle.cases.proofs.run.draw_and_post.Goals as goal

pub unreachable-requires : goal.unreachable-requires
unreachable-requires g c =
    let fits = fresh_fits _ _ _ _ _ _ c.in_ok-slip.ensures.drawing in
    not_returned c.draw.new.self.book c.in_ok-slip.slip _ fits c.in-Err.ensures.posting.answer
