-- The calls on a priced hour with their arguments, their answers, and what a client lives through. Assumes nothing.
use Rattle.std.specs.Prelude.{◌≡◌, ℕ, List, [], ◌∷◌, Result}
use Rattle.splitting.specs.Rule.{Lawful}
use Rattle.hour.specs.declared.fault.Fault.{Fault}
use Rattle.hour.specs.declared.line.Line.{Line}
use Rattle.hour.specs.declared.slip.Slip.{Slip}
use Rattle.hour.specs.declared.slip.Returned.{Returned}
use Rattle.hour.specs.declared.market.Market.{Market}
use Rattle.hour.specs.declared.book.Book.{Book}
use Rattle.hour.specs.Book.{new_book}
use Rattle.hour.specs.Priced.{Metering, Proposal, Confirmation, Withdrawal}
use Rattle.hour.specs.Run.{Drawing, Posting, Voiding}

-- a call; a draw brings the meaning of its rule, which is any that keeps the law of rules, and the caller's list
pub data Call : Type 0 where
  meter : (asset kwh : ℕ) → Call
  propose : (number source sink kwh : ℕ) → Call
  confirm : (number participant : ℕ) → Call
  withdraw : (number participant : ℕ) → Call
  draw : (shares : ℕ → List ℕ → List ℕ) (law : Lawful shares) (list : List Line) → Call
  post : Slip → Call
  void : Slip → Call

-- what a call answers, and for a draw also what it leaves in the caller's list
abbrev pub Answer : Call → Type 0
Answer (meter asset kwh) = Result (Unit {0}) Fault
Answer (propose number source sink kwh) = Result (Unit {0}) Fault
Answer (confirm number participant) = Result (Unit {0}) Fault
Answer (withdraw number participant) = Result (Unit {0}) Fault
Answer (draw shares law list) = Result Slip Fault × List Line
Answer (post slip) = Result (Unit {0}) Returned
Answer (void slip) = Result (Unit {0}) Returned

-- a call that was made, with its answer
abbrev pub Lived : Type 0
Lived = (call : Call) × Answer call

-- what the call's own contract says of the tables before it and after it
abbrev pub Made : (call : Call) → Answer call → Book → Book → Type 0
Made (meter asset kwh) r before after = Metering before asset kwh r after
Made (propose number source sink kwh) r before after = Proposal before number source sink kwh r after
Made (confirm number participant) r before after = Confirmation before number participant r after
Made (withdraw number participant) r before after = Withdrawal before number participant r after
Made (draw shares law list) answer before after = Drawing shares before list answer.0 after answer.1
Made (post slip) r before after = Posting before slip r after
Made (void slip) r before after = Voiding before slip r after

-- the tables that a client has come to by these calls after closing a market, the latest first
abbrev pub Leads : Market → List Lived → Book → Type 0
Leads m [] b = b ≡ new_book m
Leads m (event ∷ earlier) b = (before : Book) × Leads m earlier before × Made event.0 event.1 before b

-- the calls of a history
abbrev pub calls_of : List Lived → List Call
calls_of [] = []
calls_of (event ∷ earlier) = event.0 ∷ calls_of earlier
