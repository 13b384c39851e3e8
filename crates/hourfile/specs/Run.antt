-- The run that settles a file: drawn and posted, or its draw refused. Assumes nothing.
use Rattle.std.specs.Prelude.{◌≡◌, ℕ, List, Ok, Err, Result}
use Rattle.hour.specs.declared.fault.Fault as hour
use Rattle.hour.specs.declared.line.Line.{Line}
use Rattle.hour.specs.declared.slip.Slip.{Slip}
use Rattle.hour.specs.declared.book.Book.{Book}
use Rattle.hour.specs.Run.{Drawing, Posting}
use Rattle.hourfile.specs.declared.fault.Fault.{Fault}
use Rattle.hourfile.specs.declared.fault.Fault.TheVariants.{Hour}

-- a run was drawn and posted
pub record DrawnAndPosted (shares : ℕ → List ℕ → List ℕ) (before : Book) (list : List Line) (after : Book) (left : List Line) : Type 0 where
  pub slip : Slip
  pub between : Book
  pub drawing : Drawing shares before list (Ok slip) between left
  pub posting : Posting between slip (Ok tt) after

-- a draw was refused, and its fault passed on whole
pub record DrawRefused (shares : ℕ → List ℕ → List ℕ) (before : Book) (list : List Line) (fault : Fault) (after : Book) (left : List Line) : Type 0 where
  pub inner : hour.Fault
  pub carried : fault ≡ Hour inner
  pub drawing : Drawing shares before list (Err inner) after left

abbrev pub FirstRun : (ℕ → List ℕ → List ℕ) → Book → List Line → Result (Unit {0}) Fault → Book → List Line → Type 0
FirstRun shares before list (Ok u) after left = DrawnAndPosted shares before list after left
FirstRun shares before list (Err fault) after left = DrawRefused shares before list fault after left
