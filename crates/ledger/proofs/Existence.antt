-- Every list of calls has a history. Assumes nothing.
use Rattle.std.proofs.Common.{◌≡◌, ℕ, ◌+◌, Bool, true, cond, List, [], ◌∷◌, ◌++◌, length, drop, Ok, Result, refl, ap, ◌∙◌, subst}
use Rattle.std.proofs.lemmas.List.{length-set}
use Rattle.std.proofs.lemmas.Bool.{cond_both}
use Rattle.hour.specs.declared.fault.Fault.{Fault}
use Rattle.hour.specs.declared.line.Line.{Line}
use Rattle.hour.specs.declared.slip.Slip.{Slip}
use Rattle.hour.specs.declared.market.Market.{Market}
use Rattle.hour.specs.declared.book.Book.{Book}
use Rattle.hour.specs.Reason.{answer, first_fitting}
use Rattle.hour.specs.Market.{OpenTables, outcome, empty_market, enrol_reasons, enrolled, offer_reasons, offered_blocks, order_reasons, ordered, shed_reasons, shed}
use Rattle.hour.specs.Book.{FullBook, instruction_at, joins, meter_reasons, metered, propose_reasons, proposed, confirm_reasons, confirmed, withdraw_reasons, withdrawn}
use Rattle.hour.specs.Listing.{listing}
use Rattle.hour.specs.Line.{new_amounts}
use Rattle.hour.specs.Run.{drawn_lines, draw_reasons, slip_of, drawn, slip_fits, slip_answer, out_amounts, settled}
use Rattle.hour.proofs.TradeSteps.{empty_kept, enrol_kept, enrol_words, offer_kept, offer_words, order_kept, order_words, shed_kept, shed_words}
use Rattle.hour.proofs.PricedSteps.{meter_words, propose_words, confirm_words, withdraw_words}
use Rattle.hour.proofs.Tables.{length_table}
use Rattle.ledger.specs.Trade.{Trade, enrol, offer, order, shedding, LivedTrade, TradeMade, Traded, trades_of}
use Rattle.ledger.specs.Call.{Call, meter, propose, confirm, withdraw, draw, post, void, Answer, Lived, Made, Leads, calls_of}
use Rattle.ledger.specs.Ledger.{Draw, Ledger, amounts_posted, book_of, entered, ledger_of}
use Rattle.ledger.specs.Law.{History}
use Rattle.ledger.proofs.Agreement.{call_step}
use Rattle.ledger.proofs.Soundness.{SoundMarket, market_sound, book_sound}

-- a trading call on sound tables: its answer, and the tables after it
record NextTrade (trade : Trade) (before : Market) : Type 0 where
  r : Result (Unit {0}) Fault
  after : Market
  made : TradeMade trade r before after
  kept : OpenTables after

next_trade : (trade : Trade) (before : Market) → OpenTables before → NextTrade trade before
next_trade (enrol asset letter owner) m kept =
    let r = answer (enrol_reasons m asset letter owner) in
    let after = outcome r (enrolled m asset letter owner) m in
    record { r = r; after = after; made = enrol_words m asset letter owner r after kept refl refl; kept = enrol_kept m asset letter owner r after kept refl refl }
next_trade (offer asset blocks) m kept =
    let r = answer (offer_reasons m asset blocks) in
    let after = outcome r (offered_blocks m asset blocks) m in
    record { r = r; after = after; made = offer_words m asset blocks r after kept refl refl; kept = offer_kept m asset blocks r after kept refl refl }
next_trade (order asset minute level) m kept =
    let r = answer (order_reasons m asset minute level) in
    let after = outcome r (ordered m asset minute level) m in
    record { r = r; after = after; made = order_words m asset minute level r after kept refl refl; kept = order_kept m asset minute level r after kept refl refl }
next_trade (shedding first end) m kept =
    let r = answer (shed_reasons first end) in
    let after = outcome r (shed m first end) m in
    record { r = r; after = after; made = shed_words m first end r after kept refl refl; kept = shed_kept m first end r after kept refl refl }

-- a history of trading calls
record TradeHistory (label : ℕ) (trades : List Trade) : Type 0 where
  traded : List LivedTrade
  same : trades_of traded ≡ trades
  market : Market
  trading : Traded label traded market
  kept : OpenTables market

trade_history : (label : ℕ) (trades : List Trade) → TradeHistory label trades
trade_history label [] = record { traded = []; same = refl; market = empty_market label; trading = refl; kept = empty_kept label }
trade_history label (trade ∷ before) =
    let h = trade_history label before in
    let n = next_trade trade h.market h.kept in
    record {
      traded = (trade, n.r) ∷ h.traded;
      same = ap (λ ts. trade ∷ ts) h.same;
      market = n.after;
      trading = (h.market, h.trading, n.made);
      kept = n.kept;
    }

-- the tables of a ledger have their full size
abbrev FullLedger : Ledger → Type 0
FullLedger l = (length l.market.schedule.assets ≡ 64) × (length l.market.schedule.marked ≡ 60) × (length l.market.records ≡ 64) × (length l.instructions ≡ 64)

posted_full : (ds : List Draw) → length (amounts_posted ds) ≡ 32
unfolding new_amounts
posted_full [] = refl
posted_full (d ∷ before) = length_table _ 32

book_full : (l : Ledger) → FullLedger l → FullBook (book_of l)
book_full l full = (full.0, full.1, full.2, full.3, posted_full l.posted)

either_full : (t : Bool) (l k : Ledger) → FullLedger l → FullLedger k → FullLedger (cond t l k)
either_full t l k p q = cond_both t l k FullLedger (λ _. p) (λ _. q)

entered_full : (l : Ledger) (call : Call) → FullLedger l → FullLedger (entered l call)
entered_full l (meter asset kwh) f = either_full _ _ l (f.0, f.1, length-set _ _ _ ∙ f.2, f.3) f
entered_full l (propose number source sink kwh) f = either_full _ _ l (f.0, f.1, f.2, length-set _ _ _ ∙ f.3) f
entered_full l (confirm number participant) f = either_full _ _ l (f.0, f.1, f.2, length-set _ _ _ ∙ f.3) f
entered_full l (withdraw number participant) f = either_full _ _ l (f.0, f.1, f.2, length-set _ _ _ ∙ f.3) f
entered_full l (draw shares law list) f = either_full _ _ l f f
entered_full l (post slip) f = either_full _ _ l f f
entered_full l (void slip) f = either_full _ _ l f f

-- a call on the tables of a ledger: its answer, and the tables after it
record NextCall (l : Ledger) (call : Call) : Type 0 where
  a : Answer call
  after : Book
  made : Made call a (book_of l) after

module _ (l : Ledger) (full : FullBook (book_of l)) (joined : (k : ℕ) → joins l.market.schedule.assets (instruction_at (book_of l) k) ≡ true) where
  abbrev b : Book
  b = book_of l

  next_call : (call : Call) → NextCall l call
  next_call (meter asset kwh) =
      let r = answer (meter_reasons b asset kwh) in
      let after = outcome r (metered b asset kwh) b in
      record { a = r; after = after; made = meter_words b asset kwh r after refl refl full }
  next_call (propose number source sink kwh) =
      let r = answer (propose_reasons b number source sink kwh) in
      let after = outcome r (proposed b number source sink kwh) b in
      record { a = r; after = after; made = propose_words b number source sink kwh r after refl refl full }
  next_call (confirm number participant) =
      let r = answer (confirm_reasons b number participant) in
      let after = outcome r (confirmed b number) b in
      record { a = r; after = after; made = confirm_words b number participant r after refl refl full joined }
  next_call (withdraw number participant) =
      let r = answer (withdraw_reasons b number participant) in
      let after = outcome r (withdrawn b number) b in
      record { a = r; after = after; made = withdraw_words b number participant r after refl refl full }
  next_call (draw shares law list) =
      let r : Result Slip Fault = first_fitting (draw_reasons shares b (length list)) (Ok (slip_of b.market.label (b.draws + 1))) in
      let left : List Line = outcome r (drawn_lines shares b ++ drop (length (listing b.market)) list) list in
      record { a = (r, left); after = outcome r (drawn shares b) b; made = record { answer = refl; state = refl; writes = refl } }
  next_call (post slip) =
      record { a = slip_answer b slip; after = cond (slip_fits b slip) (settled b (out_amounts b.out)) b; made = record { answer = refl; state = refl } }
  next_call (void slip) =
      record { a = slip_answer b slip; after = cond (slip_fits b slip) (settled b b.posted) b; made = record { answer = refl; state = refl } }

-- a history of calls on a priced hour
record CallHistory (m : Market) (calls : List Call) : Type 0 where
  lived : List Lived
  same : calls_of lived ≡ calls
  leads : Leads m lived (book_of (ledger_of m calls))

module _ (m : Market) (closed : SoundMarket m) (tables : FullLedger (ledger_of m [])) where
  ledger_full : (calls : List Call) → FullLedger (ledger_of m calls)
  ledger_full [] = tables
  ledger_full (call ∷ before) = entered_full (ledger_of m before) call (ledger_full before)

  call_history : (calls : List Call) → CallHistory m calls
  call_history [] = record { lived = []; same = refl; leads = refl }
  call_history (call ∷ before) =
      let h = call_history before in
      let l = ledger_of m before in
      let sound = book_sound m closed h.lived (book_of l) h.leads in
      let n = next_call l (book_full l (ledger_full before)) sound.joined call in
      record {
        lived = (call, n.a) ∷ h.lived;
        same = ap (λ cs. call ∷ cs) h.same;
        leads = (book_of l, h.leads, subst (λ x. Made call n.a (book_of l) x) (call_step l call n.a n.after n.made) n.made);
      }

-- every list of trading calls and of calls on the closed hour has a history
pub every_list : (label : ℕ) (trades : List Trade) (calls : List Call) → History label trades calls
every_list label trades calls =
    let t = trade_history label trades in
    let m = t.market in
    let h = call_history m (market_sound label t.traded m t.trading) (t.kept.0.0, t.kept.0.1, t.kept.0.2, refl) calls in
    record {
      traded = t.traded;
      lived = h.lived;
      book = book_of (ledger_of m calls);
      came = record { market = m; trading = t.trading; since = h.leads };
      same_trades = t.same;
      same_calls = h.same;
    }
