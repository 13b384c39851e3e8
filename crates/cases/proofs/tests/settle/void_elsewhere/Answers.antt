use Rattle.std.proofs.Common.{◌≡◌, true, sym, subst}
use Rattle.hour.specs.Run.{slip_fits}
use Rattle.hour.proofs.Slips.{fresh_fits, not_returned, same_slip}
use Rattle.cases.proofs.tests.settle.void_elsewhere.Goals as goal

pub unreachable-requires : goal.unreachable-requires
unreachable-requires g c =
    let same = same_slip c.args.other.now.book c.in_ok-slip.slip _ c.in-Err.ensures.posting.answer in
    let fits = fresh_fits _ _ _ _ _ _ c.in_ok-slip.ensures.drawing in
    not_returned c.draw.new.self.book c.in-Err.field-0.slip _ (subst (λ s. slip_fits c.draw.new.self.book s ≡ true) (sym same) fits) c.in-Err-void.ensures.voiding.answer
