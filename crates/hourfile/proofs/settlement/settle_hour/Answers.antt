use Rattle.std.proofs.Common.{◌≡◌, ◌-◌, None, refl, ◌∙◌, subst, arith}
use Rattle.hourfile.specs.Print.{lines_of}
use Rattle.hourfile.specs.Outcome.{Settled, Unsettled}
use Rattle.hourfile.proofs.Outcomes.{undrawn, settled}
use Rattle.hourfile.proofs.Passing.{handed_on}
use Rattle.hourfile.proofs.settlement.settle_hour.Goals as goal

pub returns-in_err-settle_run : goal.returns-in_err-settle_run
returns-in_err-settle_run c =
    handed_on _ _ _ _ c.from_residual-in_err-settle_run.ensures.1
    (subst (λ file. Unsettled file (record { line = None; fault = c.in_err-settle_run.field-0.0 })) c.in_ok-file.ensures
    (undrawn c.in_ok-file.file.bytes.now c.in_ok-hour.hour.book c.in_ok-hour.rule c.in_ok-hour.ensures _ refl c.in_err-settle_run.field-0.0 c.settle_run.new.hour.book c.settle_run.new.lines c.in_err-settle_run.ensures))

pub returns : goal.returns
returns c =
    let whole : c.line_count.result - 0 ≡ c.line_count.result = omega arith in
    subst (λ file. Settled file (lines_of c.statement_of.result)) c.in_ok-file.ensures
    (settled c.in_ok-file.file.bytes.now c.in_ok-hour.hour.book c.in_ok-hour.rule c.in_ok-hour.ensures _ refl c.settle_run.new.hour.book c.settle_run.new.lines c.in_ok-settle_run.ensures
    (c.line_count.result - 0) _ (whole ∙ c.line_count.ensures) c.statement_of.ensures)
