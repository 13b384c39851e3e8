use Rattle.hour.proofs.Slips.{fresh_fits, fits_kept, not_returned}
use Rattle.cases.proofs.tests.slips.entered_while_out.Goals as goal

pub unreachable-requires : goal.unreachable-requires
unreachable-requires c =
    let fits = fresh_fits _ _ _ _ _ _ c.in_ok-slip.ensures.drawing in
    let still = fits_kept c.draw.new.self.book c.made-answer.new.hour.book c.in_ok-slip.slip c.made-answer.ensures.label c.made-answer.ensures.out fits in
    not_returned c.made-answer.new.hour.book c.in_ok-slip.slip _ still c.in-Err.ensures.voiding.answer
