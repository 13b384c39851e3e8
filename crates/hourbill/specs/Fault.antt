-- What a refused call says of its line. Assumes nothing.
use Rattle.std.specs.Prelude.{ℕ, cond, ◌==◌}
use Rattle.hourbill.specs.declared.error.Fault.{Fault}
use Rattle.hourbill.specs.declared.error.Fault.TheVariants.{EnrolledAlready, NotEnrolled, UnsoundBlocks, MinuteTooEarly, LevelTooHigh}

-- the fault by the row of the table of refusals; any other row is the fault of the line itself
abbrev pub fault_at : Fault → ℕ → Fault
fault_at line row =
    cond (row == 4) EnrolledAlready (cond (row == 5) NotEnrolled (cond (row == 7) UnsoundBlocks (cond (row == 8) MinuteTooEarly (cond (row == 9) LevelTooHigh line))))
