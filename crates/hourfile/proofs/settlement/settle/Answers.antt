use Rattle.std.proofs.Common.{◌≡◌, ℕ, ◌<◌, List, [], ◌∷◌, length, Ok, Err, Result, MatchResult, ap, sym, subst, rules}
use Rattle.hourfile.specs.Print.{lines_of}
use Rattle.file.specs.Statement.{Prints}
use Rattle.file.specs.declared.statement.PrintLine.{PrintLine}
use Rattle.file.specs.declared.statement.TextTooShort.{TextTooShort as ShortText}
use Rattle.hourfile.specs.Outcome.{Settled, Unsettled, Outcome, fault_line, Settles, print, Fills}
use Rattle.hourfile.specs.declared.fault.Fault.{Fault}
use Rattle.hourfile.specs.declared.fault.Fault.TheVariants.{TextTooShort}
use Rattle.hourfile.specs.declared.fault.LineFault.{LineFault}
use Rattle.hourfile.specs.declared.print.Print.{Print}
use Rattle.hourfile.proofs.Unique.{outcome_unique}
use Rattle.hourfile.proofs.settlement.settle.Goals as goal

-- the lines that are written are the print of what the file comes to
record Decided (file : List ℕ) (lines : List PrintLine) : Type 0 where
  pub outcome : Result (List PrintLine) LineFault
  pub right : Outcome file outcome
  pub same : lines ≡ print outcome

settles : (file old new : List ℕ) (lines : List PrintLine) (r : Result ℕ Fault) → Decided file lines → Fills lines old r new → Settles file old r new
settles file old new lines r d fills =
    record {
      outcome = d.outcome;
      right = d.right;
      only = λ other came. outcome_unique file other d.outcome came d.right;
      fills = subst (λ lines. Fills lines old r new) d.same fills;
    }

-- a text that is too short for the print is told by the fault
fills_short : (lines : List PrintLine) (old new : List ℕ) (short : ShortText) → Prints lines old new (Err short) → Fills lines old (Err (TextTooShort short.needed)) new
fills_short lines old new short p = (ap TextTooShort p.0, subst (λ n. length old < n) p.0 p.1, p.2)

-- the print of a statement, or of a fault alone
decided : (file : List ℕ) (said : Result Print LineFault) (print : Print) → MatchResult said (λ statement. Settled file (lines_of statement)) (λ at. Unsettled file at) →
    MatchResult said (λ statement. print ≡ statement) (λ at. lines_of print ≡ fault_line at ∷ []) → Decided file (lines_of print)
decided file (Ok statement) print came is = record { outcome = Ok (lines_of statement); right = came; same = ap lines_of is }
decided file (Err at) print came is = record { outcome = Err at; right = came; same = is }

pub returns : goal.returns
returns c =
    let d = decided c.args.file.now c.settle_hour.result c.unwrap_or_else-print.result c.settle_hour.ensures c.unwrap_or_else-print.ensures in
    settles c.args.file.now c.args.text.now c.write.new.text (lines_of c.unwrap_or_else-print.result) (Ok c.in_ok-write.field-0) d c.in_ok-write.ensures

pub returns-in_err-write : goal.returns-in_err-write
returns-in_err-write c =
    let d = decided c.args.file.now c.settle_hour.result c.unwrap_or_else-print.result c.settle_hour.ensures c.unwrap_or_else-print.ensures in
    let short = c.in_err-write.field-0.0 in
    let told : c.from_residual.result ≡ Err (TextTooShort short.needed) = search rules in
    subst (λ r. Settles c.args.file.now c.args.text.now r c.write.new.text) (sym told)
    (settles c.args.file.now c.args.text.now c.write.new.text (lines_of c.unwrap_or_else-print.result) (Err (TextTooShort short.needed)) d (fills_short _ _ _ short c.in_err-write.ensures))
