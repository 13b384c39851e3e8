-- A run that is drawn and then ended. Assumes nothing.
use Rattle.std.specs.Prelude.{ℕ, List, Ok}
use Rattle.hour.specs.declared.line.Line.{Line}
use Rattle.hour.specs.declared.slip.Slip.{Slip}
use Rattle.hour.specs.declared.book.Book.{Book}
use Rattle.hour.specs.Run.{Drawing, Posting, Voiding}

-- a run that is drawn and posted
pub record PostedRun (shares : ℕ → List ℕ → List ℕ) (before : Book) (list : List Line) (after : Book) (left : List Line) : Type 0 where
  pub slip : Slip
  pub drawn : Book
  pub drawing : Drawing shares before list (Ok slip) drawn left
  pub posting : Posting drawn slip (Ok tt) after

-- a run that is drawn and voided
pub record VoidedRun (shares : ℕ → List ℕ → List ℕ) (before : Book) (list : List Line) (after : Book) (left : List Line) : Type 0 where
  pub slip : Slip
  pub drawn : Book
  pub drawing : Drawing shares before list (Ok slip) drawn left
  pub voiding : Voiding drawn slip (Ok tt) after
