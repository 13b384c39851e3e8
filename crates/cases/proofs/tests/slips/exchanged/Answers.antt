use Rattle.std.proofs.Common.{◌≡◌, true, sym, subst}
use Rattle.hour.specs.Run.{slip_fits}
use Rattle.hour.proofs.Slips.{fresh_fits, not_returned, same_slip, refused_same, alike, taken}
use Rattle.cases.proofs.tests.slips.exchanged.Goals as goal

pub unreachable-requires : goal.unreachable-requires
unreachable-requires c =
    not_returned c.draw.new.self.book c.in_ok-slip.slip _ (fresh_fits _ _ _ _ _ _ c.in_ok-slip.ensures.drawing) c.in-Err-void.ensures.voiding.answer

pub unreachable-requires-in-Err-void-2 : goal.unreachable-requires-in-Err-void-2
unreachable-requires-in-Err-void-2 c =
    let fits = fresh_fits _ _ _ _ _ _ c.in_ok-slip.ensures.drawing in
    let also = fresh_fits _ _ _ _ _ _ c.in-Ok.ensures.drawing in
    let took = taken c.draw-2.new.self.book c.in_ok-slip.slip _ c.in-Ok-post.ensures.posting.answer in
    not_returned c.draw.new.self.book c.in-Ok.other _ (alike c.draw.new.self.book c.draw-2.new.self.book c.in_ok-slip.slip c.in-Ok.other took also fits) c.in-Err-void-2.ensures.voiding.answer

pub void_both-requires : goal.void_both-requires
void_both-requires c =
    let fits = fresh_fits _ _ _ _ _ _ c.in_ok-slip.ensures.drawing in
    let also = fresh_fits _ _ _ _ _ _ c.in-Ok.ensures.drawing in
    let same = same_slip c.draw-2.new.self.book c.in_ok-slip.slip _ c.in-Err-post.ensures.posting.answer in
    let still = refused_same c.draw-2.new.self.book _ _ c.in_ok-slip.slip _ c.in-Err-post.ensures.posting.answer c.in-Err-post.ensures.posting.state in
    record {
      first = subst (λ s. slip_fits c.draw.new.self.book s ≡ true) (sym same) fits;
      second = subst (λ b. slip_fits b c.in-Ok.other ≡ true) (sym still) also;
    }
