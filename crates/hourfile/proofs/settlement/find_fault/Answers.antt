use Rattle.std.proofs.Common.{List, ℕ, Ok, Err, Result, MatchResult, sym, subst}
use Rattle.std.specs.Result.{result_err}
use Rattle.hourfile.specs.Print.{lines_of}
use Rattle.hourfile.specs.Outcome.{Settled, Unsettled, FaultOrNone, FaultAnswer}
use Rattle.hourfile.specs.declared.fault.LineFault.{LineFault}
use Rattle.hourfile.specs.declared.print.Print.{Print}
use Rattle.hourfile.proofs.Unique.{fault_answered}
use Rattle.hourfile.proofs.settlement.find_fault.Goals as goal

-- the fault of a file that was settled or refused
fault_of : (file : List ℕ) (said : Result Print LineFault) → MatchResult said (λ print. Settled file (lines_of print)) (λ at. Unsettled file at) → FaultOrNone file (result_err said)
fault_of file (Ok print) came = (lines_of print, came)
fault_of file (Err at) came = came

pub returns : goal.returns
returns c =
    subst (FaultAnswer c.args.file.now) (sym c.err.ensures.value)
    (fault_answered c.args.file.now (result_err c.settle_hour.result) (fault_of c.args.file.now c.settle_hour.result c.settle_hour.ensures))
