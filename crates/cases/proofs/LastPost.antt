-- A draw and its post that were accepted: that draw is the one posted last. Assumes nothing.
use Rattle.std.proofs.Common.{◌≡◌, ℕ, ◌+◌, Bool, true, false, cond, List, [], ◌∷◌, length, is_ok, Ok, Err, Result, refl, ap, ◌∙◌, subst, arith}
use Rattle.std.proofs.lemmas.Bool.{eq-eqb}
use Rattle.splitting.specs.Rule.{Lawful}
use Rattle.hour.specs.declared.fault.Fault.{Fault}
use Rattle.hour.specs.declared.line.Line.{Line}
use Rattle.hour.specs.declared.slip.Slip.{Slip}
use Rattle.hour.specs.declared.slip.Returned.{Returned}
use Rattle.hour.specs.declared.book.Book.{Book}
use Rattle.hour.specs.Reason.{Reason, first_fitting}
use Rattle.hour.specs.Run.{Drawing, Posting, Voiding, draw_reasons, drawn, settled, slip_of, slip_fits, out_amounts}
use Rattle.ledger.specs.Trade.{Trade, LivedTrade, accepted, market_of}
use Rattle.ledger.specs.Call.{Call, Lived, draw, post, calls_of}
use Rattle.ledger.specs.Ledger.{Draw, Ledger, book_of, with_draw, with_posted, entered, ledger_of}
use Rattle.ledger.specs.Law.{CameBy, ledger_by}
use Rattle.ledger.proofs.Agreement.{book_agrees, market_agrees}
use Rattle.cases.specs.Client.{CameTo}
use Rattle.hour.proofs.Slips.{given}

-- an accepted call met no reason
met_none : {A : Type 0} (reasons : List Reason) (x y : A) → Ok y ≡ first_fitting reasons (Ok x) → accepted reasons ≡ true
met_none [] x y e = refl
met_none (reason ∷ rest) x y e = at reason.fits e (met_none rest x y)
  where
    at : (b : Bool) → Ok y ≡ cond b (Err reason.fault) (first_fitting rest (Ok x)) → (Ok y ≡ first_fitting rest (Ok x) → accepted rest ≡ true) → accepted (record { fits = b; fault = reason.fault } ∷ rest) ≡ true
    at true said more = let z : ◌≡◌ {A = ℕ} 0 1 = cc in absurd (omega arith)
    at false said more = more said

-- the draw that a ledger enters
abbrev pub draw_from : Ledger → (shares : ℕ → List ℕ → List ℕ) → Lawful shares → Draw
draw_from l shares law = record { number = l.draws + 1; shares = shares; law = law; tables = book_of l }

-- in the ledger the draw becomes the one posted last
last_in : (l : Ledger) (shares : ℕ → List ℕ → List ℕ) (law : Lawful shares) (list : List Line) (slip : Slip) →
    Ok slip ≡ first_fitting (draw_reasons shares (book_of l) (length list)) (Ok (slip_of l.market.label (l.draws + 1))) →
    (entered (entered l (draw shares law list)) (post slip)).posted ≡ draw_from l shares law ∷ l.posted
last_in l shares law list slip said =
    ap (λ t. (entered (cond t (with_draw l shares law) l) (post slip)).posted) (met_none (draw_reasons shares (book_of l) (length list)) _ slip said)
    ∙ ap (λ s. (entered (with_draw l shares law) (post s)).posted) (given (draw_reasons shares (book_of l) (length list)) _ slip said)
    ∙ ap (λ t. (cond t (with_posted (with_draw l shares law) (draw_from l shares law ∷ l.posted)) (with_draw l shares law)).posted) own
  where
    own : slip_fits (book_of (with_draw l shares law)) (slip_of l.market.label (l.draws + 1)) ≡ true
    own = rw (eq-eqb l.market.label _ refl, eq-eqb (l.draws + 1) _ refl) refl

-- the tables that a client has come to are those of the ledger
pub came_agrees : (label : ℕ) (traded : List LivedTrade) (lived : List Lived) (b : Book) → CameBy label traded lived b → b ≡ book_of (ledger_by label traded lived)
came_agrees label traded lived b came =
    book_agrees came.market lived b came.since
    ∙ ap (λ m. book_of (ledger_of m (calls_of lived))) (market_agrees label traded came.market came.trading)

-- tables that a client has come to by these calls are those of the calls' ledger
pub came_to : (label : ℕ) (trades : List Trade) (calls : List Call) (b : Book) → CameTo label trades calls b → b ≡ book_of (ledger_of (market_of label trades) calls)
came_to label trades calls b came =
    came_agrees label came.traded came.lived b came.came
    ∙ ap (λ t. book_of (ledger_of (market_of label t) (calls_of came.lived))) came.same_trades
    ∙ ap (λ h. book_of (ledger_of (market_of label trades) h)) came.same_calls

-- of a client's history: a draw and its post make that draw the one posted last
pub posted_last : (label : ℕ) (traded : List LivedTrade) (lived : List Lived) (before : Book) → CameBy label traded lived before →
    (shares : ℕ → List ℕ → List ℕ) (law : Lawful shares) (list : List Line) (slip : Slip) (after : Book) (left : List Line) → Drawing shares before list (Ok slip) after left →
    (drew : Result Slip Fault) (r : Result (Unit {0}) Returned) →
    (ledger_by label traded ((post slip, r) ∷ (draw shares law list, (drew, left)) ∷ lived)).posted ≡ draw_from (ledger_by label traded lived) shares law ∷ (ledger_by label traded lived).posted
posted_last label traded lived before came shares law list slip after left done drew r =
    last_in (ledger_by label traded lived) shares law list slip
    (subst (λ b. Ok slip ≡ first_fitting (draw_reasons shares b (length list)) (Ok (slip_of b.market.label (b.draws + 1)))) (came_agrees label traded lived before came) done.answer)

-- a draw, a post and a void leave the market alone
pub draw_keeps : (shares : ℕ → List ℕ → List ℕ) (before : Book) (list : List Line) (r : Result Slip Fault) (after : Book) (left : List Line) → Drawing shares before list r after left → after.market ≡ before.market
draw_keeps shares before list r after left done = ap (λ b. b.market) done.state ∙ at (is_ok r)
  where
    at : (t : Bool) → (cond t (drawn shares before) before).market ≡ before.market
    at true = refl
    at false = refl

pub post_keeps : (before : Book) (slip : Slip) (r : Result (Unit {0}) Returned) (after : Book) → Posting before slip r after → after.market ≡ before.market
post_keeps before slip r after done = ap (λ b. b.market) done.state ∙ at (slip_fits before slip)
  where
    at : (t : Bool) → (cond t (settled before (out_amounts before.out)) before).market ≡ before.market
    at true = refl
    at false = refl

pub void_keeps : (before : Book) (slip : Slip) (r : Result (Unit {0}) Returned) (after : Book) → Voiding before slip r after → after.market ≡ before.market
void_keeps before slip r after done = ap (λ b. b.market) done.state ∙ at (slip_fits before slip)
  where
    at : (t : Bool) → (cond t (settled before before.posted) before).market ≡ before.market
    at true = refl
    at false = refl
