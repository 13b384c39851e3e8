-- An hour's tables are those that the ledger gives, after every list of calls. Assumes nothing.
use Rattle.std.proofs.Common.{◌≡◌, ℕ, ◌+◌, Bool, true, false, cond, not, ◌&&◌, List, [], ◌∷◌, ◌++◌, length, is_ok, Some, None, Ok, Err, Option, Result, sym, refl, ap, ◌∙◌, subst}
use Rattle.std.specs.Option.{option_to_list}
use Rattle.hour.specs.declared.fault.Fault.{Fault}
use Rattle.hour.specs.declared.instruction.Instruction.{Instruction}
use Rattle.hour.specs.declared.slip.Slip.{Slip}
use Rattle.hour.specs.declared.market.Market.{Market}
use Rattle.hour.specs.declared.book.Book.{Book}
use Rattle.hour.specs.Reason.{Reason, first_fitting}
use Rattle.hour.specs.Market.{outcome, enrol_reasons, offer_reasons, order_reasons, shed_reasons}
use Rattle.hour.specs.Book.{meter_reasons, metered, propose_reasons, proposed, confirm_reasons, confirmed, withdraw_reasons, withdrawn}
use Rattle.hour.specs.Run.{draw_reasons, slip_of, slip_fits, out_amounts, settled}
use Rattle.ledger.specs.Trade.{Trade, enrol, offer, order, shedding, accepted, traded, market_of, LivedTrade, TradeMade, Traded, trades_of}
use Rattle.ledger.specs.Call.{Call, meter, propose, confirm, withdraw, draw, post, void, Answer, Lived, Made, Leads, calls_of}
use Rattle.ledger.specs.Ledger.{Draw, Ledger, book_of, with_tables, with_draw, with_posted, entered, ledger_of}

-- a call is answered by Ok exactly if no reason fits
ok_accepted : {A : Type 0} (reasons : List Reason) (x : A) → is_ok (first_fitting reasons (Ok x)) ≡ accepted reasons
ok_accepted [] x = refl
ok_accepted (reason ∷ rest) x = at reason.fits (ok_accepted rest x)
  where
    at : (t : Bool) → is_ok (first_fitting rest (Ok x)) ≡ accepted rest → is_ok (cond t (Err reason.fault) (first_fitting rest (Ok x))) ≡ (not t && accepted rest)
    at true e = refl
    at false e = e

-- what a contract says of the tables after a call, by whether a reason fits
by_reasons : {A B : Type 0} (reasons : List Reason) (x : B) (r : Result B Fault) (changed before after : A) → r ≡ first_fitting reasons (Ok x) → after ≡ outcome r changed before → after ≡ cond (accepted reasons) changed before
by_reasons reasons x r changed before after said state =
    state ∙ ap (λ t. cond t changed before) (ap is_ok said ∙ ok_accepted reasons x)

-- a trading call does to the market what the rules say
trade_step : (trade : Trade) (r : Result (Unit {0}) Fault) (before after : Market) → TradeMade trade r before after → after ≡ traded before trade
trade_step (enrol asset letter owner) r before after made = by_reasons (enrol_reasons before asset letter owner) tt r _ before after made.answer made.state
trade_step (offer asset blocks) r before after made = by_reasons (offer_reasons before asset blocks) tt r _ before after made.answer made.state
trade_step (order asset minute level) r before after made = by_reasons (order_reasons before asset minute level) tt r _ before after made.answer made.state
trade_step (shedding first end) r before after made = by_reasons (shed_reasons first end) tt r _ before after made.answer made.state

-- the market that a client has come to is that of the calls
pub market_agrees : (label : ℕ) (lived : List LivedTrade) (m : Market) → Traded label lived m → m ≡ market_of label (trades_of lived)
market_agrees label [] m came = came
market_agrees label (event ∷ earlier) m came =
    trade_step event.0 event.1 came.0 m came.2 ∙ ap (λ x. traded x event.0) (market_agrees label earlier came.0 came.1)

-- the tables of a ledger that is one of two
either_book : (t : Bool) (l k : Ledger) (b c : Book) → book_of l ≡ b → book_of k ≡ c → cond t b c ≡ book_of (cond t l k)
either_book true l k b c p q = sym p
either_book false l k b c p q = sym q

-- a ledger by its parts
abbrev pub made_of : Market → List Instruction → ℕ → Option Draw → List Draw → Ledger
made_of m i n out ds = record { market = m; instructions = i; draws = n; out = out; posted = ds }

-- a post by a slip that fits, by what is out
posted_book : (m : Market) (i : List Instruction) (n : ℕ) (out : Option Draw) (ds : List Draw) (slip : Slip) →
    cond (slip_fits (book_of (made_of m i n out ds)) slip) (settled (book_of (made_of m i n out ds)) (out_amounts (book_of (made_of m i n out ds)).out)) (book_of (made_of m i n out ds))
    ≡ book_of (cond (slip_fits (book_of (made_of m i n out ds)) slip) (with_posted (made_of m i n out ds) (option_to_list out ++ ds)) (made_of m i n out ds))
posted_book m i n None ds slip = refl
posted_book m i n (Some d) ds slip =
    either_book (slip_fits (book_of (made_of m i n (Some d) ds)) slip) (with_posted (made_of m i n (Some d) ds) (d ∷ ds)) (made_of m i n (Some d) ds) _ _ refl refl

-- each call does to the tables of a ledger what it does in the ledger
pub call_step : (l : Ledger) (call : Call) (a : Answer call) (after : Book) → Made call a (book_of l) after → after ≡ book_of (entered l call)
call_step l (meter asset kwh) r after made =
    by_reasons (meter_reasons (book_of l) asset kwh) tt r _ (book_of l) after made.answer made.state
    ∙ either_book (accepted (meter_reasons (book_of l) asset kwh)) (with_tables l (metered (book_of l) asset kwh)) l _ _ refl refl
call_step l (propose number source sink kwh) r after made =
    by_reasons (propose_reasons (book_of l) number source sink kwh) tt r _ (book_of l) after made.answer made.state
    ∙ either_book (accepted (propose_reasons (book_of l) number source sink kwh)) (with_tables l (proposed (book_of l) number source sink kwh)) l _ _ refl refl
call_step l (confirm number participant) r after made =
    by_reasons (confirm_reasons (book_of l) number participant) tt r _ (book_of l) after made.answer made.state
    ∙ either_book (accepted (confirm_reasons (book_of l) number participant)) (with_tables l (confirmed (book_of l) number)) l _ _ refl refl
call_step l (withdraw number participant) r after made =
    by_reasons (withdraw_reasons (book_of l) number participant) tt r _ (book_of l) after made.answer made.state
    ∙ either_book (accepted (withdraw_reasons (book_of l) number participant)) (with_tables l (withdrawn (book_of l) number)) l _ _ refl refl
call_step l (draw shares law list) a after made =
    by_reasons (draw_reasons shares (book_of l) (length list)) (slip_of l.market.label (l.draws + 1)) a.0 _ (book_of l) after made.answer made.state
    ∙ either_book (accepted (draw_reasons shares (book_of l) (length list))) (with_draw l shares law) l _ _ refl refl
call_step l (post slip) r after made = made.state ∙ posted_book l.market l.instructions l.draws l.out l.posted slip
call_step l (void slip) r after made =
    made.state ∙ either_book (slip_fits (book_of l) slip) (with_posted l l.posted) l _ _ refl refl

-- the tables that a client has come to are those of the ledger
pub book_agrees : (m : Market) (lived : List Lived) (b : Book) → Leads m lived b → b ≡ book_of (ledger_of m (calls_of lived))
book_agrees m [] b came = came
book_agrees m (event ∷ earlier) b came =
    call_step (ledger_of m (calls_of earlier)) event.0 event.1 b
    (subst (λ x. Made event.0 event.1 x b) (book_agrees m earlier came.0 came.1) came.2)
