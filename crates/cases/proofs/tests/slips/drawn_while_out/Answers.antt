use Rattle.std.proofs.Common.{◌≡◌, true, sym, subst}
use Rattle.hour.specs.Run.{slip_fits}
use Rattle.hour.proofs.Slips.{fresh_fits, not_returned}
use Rattle.cases.proofs.tests.slips.drawn_while_out.Goals as goal

pub unreachable-requires-in-Err-void : goal.unreachable-requires-in-Err-void
unreachable-requires-in-Err-void c =
    let fits = fresh_fits _ _ _ _ _ _ c.in_ok-slip.ensures.drawing in
    let still = subst (λ b. slip_fits b c.in_ok-slip.slip ≡ true) (sym c.in-Err.ensures.drawing.state) fits in
    not_returned c.draw-2.new.self.book c.in_ok-slip.slip _ still c.in-Err-void.ensures.voiding.answer
