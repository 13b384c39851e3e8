-- The run of a file that was read whole: its statement, or why its draw is refused. Assumes nothing.
use Rattle.std.proofs.Common.{◌≡◌, ℕ, Bool, true, false, cond, List, [], ◌∷◌, ◌++◌, map, length, take, drop, is_ok, None, Ok, Err, sym, refl, ap, ◌∙◌, subst, inr, arith}
use Rattle.std.proofs.lemmas.List.{length-map, take_at}
use Rattle.std.proofs.lemmas.Bool.{cond-true}
use Rattle.splitting.specs.Rule.{Lawful}
use Rattle.splitting.specs.Gains.{running_lawful}
use Rattle.splitting.specs.Remainders.{largest_lawful}
use Rattle.hour.specs.declared.fault.Fault as hour
use Rattle.hour.specs.declared.line.Line.{Line}
use Rattle.hour.specs.declared.book.Book.{Book}
use Rattle.hour.specs.Reason.{Reason, first_fitting, answer}
use Rattle.hour.specs.Line.{lines_of, line_of}
use Rattle.hour.specs.Listing.{listing}
use Rattle.hour.specs.Run.{price_of, drawn_amounts, drawn_lines, draw_reasons, drawn, slip_fits}
use Rattle.hour.proofs.Outcomes.{NoneFits, none_fits}
use Rattle.hour.proofs.RunSteps.{draw_words, post_words}
use Rattle.hour.proofs.Slips.{fresh_fits}
use Rattle.ledger.specs.Trade.{accepted, trades_of, market_of}
use Rattle.ledger.specs.Call.{Lived, draw, post, calls_of}
use Rattle.ledger.specs.Ledger.{Ledger, book_of, with_draw, entered, ledger_of}
use Rattle.ledger.specs.Imbalance.{price_times_imbalance, all_nets}
use Rattle.ledger.specs.Law.{CameBy, nets_due}
use Rattle.ledger.proofs.Agreement.{market_agrees, book_agrees}
use Rattle.ledger.proofs.PostedLines.{posted_nets}
use Rattle.file.specs.Item.{Item}
use Rattle.file.specs.declared.item.ItemWith.TheVariants as line
use Rattle.file.specs.declared.item.RuleName.{RuleName}
use Rattle.file.specs.declared.item.RuleName.TheVariants.{Largest, Running}
use Rattle.file.specs.declared.statement.PrintLine.{PrintLine}
use Rattle.file.specs.declared.statement.PrintLine.TheVariants as shown
use Rattle.hourfile.specs.Cursor.{ReadWhole}
use Rattle.hourfile.specs.Lines.{label_in, market_in, book_in}
use Rattle.hourfile.specs.Outcome.{shares_by, amounts_line, Settled, Unsettled}
use Rattle.hourfile.specs.Run.{DrawnAndPosted, DrawRefused}
use Rattle.hourfile.specs.declared.fault.Fault.{Fault}
use Rattle.hourfile.proofs.Entries.{book_is}
use Rattle.hourfile.proofs.Instructions.{none_refuse}
use Rattle.hourfile.proofs.Passing.{accepts}

-- the rules of a file keep the law of rules
lawful_by : (rule : RuleName) → Lawful (shares_by rule)
lawful_by Largest = largest_lawful
lawful_by Running = running_lawful

-- a refusal is the same whatever stands at the end of the reasons
refused_alike : {A : Type 0} (reasons : List Reason) (x : A) (fault : hour.Fault) → Err fault ≡ first_fitting reasons (Ok x) → answer reasons ≡ Err fault
refused_alike [] x fault said = let z : ◌≡◌ {A = ℕ} 0 1 = cc in absurd (omega arith)
refused_alike (reason ∷ rest) x fault said = at reason.fits said (refused_alike rest x fault)
  where
    at : (b : Bool) → Err fault ≡ cond b (Err reason.fault) (first_fitting rest (Ok x)) → (Err fault ≡ first_fitting rest (Ok x) → answer rest ≡ Err fault) → cond b (Err reason.fault) (answer rest) ≡ Err fault
    at true h more = let same : reason.fault ≡ fault = cc in ap Err same
    at false h more = more h

-- the line of the rule changes no table
pub ruled_book : (rule : RuleName) (items : List Item) → book_in (line.Rule rule ∷ items) ≡ book_in items
unfolding book_in market_in
ruled_book rule items = refl

lines_long : (shares : ℕ → List ℕ → List ℕ) (b : Book) → length (drawn_lines shares b) ≡ length (listing b.market)
unfolding lines_of
lines_long shares b = length-map (listing b.market) (line_of (drawn_amounts shares b) b.posted)

module _ (file : List ℕ) (b : Book) (rule : RuleName) (w : ReadWhole file b rule) (list : List Line) (room : length list ≡ 32) where
  same_book : book_in (line.Rule rule ∷ w.items) ≡ b
  same_book = ruled_book rule w.items ∙ book_is w.items b w.came

  -- a refused draw
  pub undrawn : (fault : Fault) (after : Book) (left : List Line) → DrawRefused (shares_by rule) b list fault after left → Unsettled file (record { line = None; fault = fault })
  undrawn fault after left d = inr (inr (record {
    rule = rule;
    items = w.items;
    complete = w.complete;
    fault = d.inner;
    refuses =
        ap (λ x. answer (draw_reasons (shares_by rule) x 32)) same_book
        ∙ ap (λ n. answer (draw_reasons (shares_by rule) b n)) (sym room)
        ∙ refused_alike (draw_reasons (shares_by rule) b (length list)) _ d.inner d.drawing.answer;
    told = ap (λ f. record { line = None; fault = f }) d.carried;
  }))

  module _ (after : Book) (left : List Line) (d : DrawnAndPosted (shares_by rule) b list after left) where
    same_market : after.market ≡ b.market
    same_market = (post_words _ d.slip _ _ d.posting).others.market ∙ (draw_words (shares_by rule) b list _ _ left d.drawing).others.market

    no_reason : NoneFits (draw_reasons (shares_by rule) b (length list))
    no_reason = none_fits (draw_reasons (shares_by rule) b (length list)) _ (ap is_ok (sym d.drawing.answer))

    lived : List Lived
    lived = (post d.slip, Ok tt) ∷ (draw (shares_by rule) (lawful_by rule) list, (Ok d.slip, left)) ∷ w.came.lived

    came : CameBy (label_in w.items) w.came.traded lived after
    unfolding lived
    came = record {
      market = w.came.market;
      trading = w.came.trading;
      since = (d.between, (b, w.came.since, d.drawing), d.posting);
    }

    -- the ledger before the draw
    before : Ledger
    before = ledger_of (market_of (label_in w.items) (trades_of w.came.traded)) (calls_of w.came.lived)

    before_is : b ≡ book_of before
    unfolding before
    before_is =
        book_agrees w.came.market w.came.lived b w.came.since
        ∙ ap (λ m. book_of (ledger_of m (calls_of w.came.lived))) (market_agrees (label_in w.items) w.came.traded w.came.market w.came.trading)

    drawn_entry : entered before (draw (shares_by rule) (lawful_by rule) list) ≡ with_draw before (shares_by rule) (lawful_by rule)
    drawn_entry = cond-true _ _ _ (subst (λ x. accepted (draw_reasons (shares_by rule) x (length list)) ≡ true) before_is (accepts (draw_reasons (shares_by rule) b (length list)) no_reason))

    fits : slip_fits (book_of (with_draw before (shares_by rule) (lawful_by rule))) d.slip ≡ true
    fits =
        subst (λ x. slip_fits (drawn (shares_by rule) x) d.slip ≡ true) before_is
        (subst (λ x. slip_fits x d.slip ≡ true) d.drawing.state (fresh_fits _ _ _ _ _ _ d.drawing))

    due : nets_due (entered (entered before (draw (shares_by rule) (lawful_by rule) list)) (post d.slip)).posted ≡ price_times_imbalance (price_of (book_of before)) (book_of before).market
    due =
        ap (λ (l : Ledger). nets_due (entered l (post d.slip)).posted) drawn_entry
        ∙ ap (λ (l : Ledger). nets_due l.posted) (cond-true _ _ _ fits)

    sum_is : all_nets after.posted ≡ price_times_imbalance (price_of b) b.market
    unfolding before lived
    sum_is =
        (posted_nets (label_in w.items) w.came.traded lived after came).posted_nets_equal_price_times_imbalance
        ∙ due
        ∙ ap (λ x. price_times_imbalance (price_of x) x.market) (sym before_is)

    lines_are : (count : ℕ) → count ≡ length (listing after.market) → take count left ≡ drawn_lines (shares_by rule) b
    lines_are count is =
        ap (take count) d.drawing.writes
        ∙ take_at (drawn_lines (shares_by rule) b) (drop (length (listing b.market)) list) count (lines_long (shares_by rule) b ∙ sym (is ∙ ap (λ m. length (listing m)) same_market))

    -- a run that was drawn and posted
    pub settled : (count : ℕ) (lines : List PrintLine) → count ≡ length (listing after.market) →
        lines ≡ shown.Hour after.market.label ∷ shown.Price (price_of after) ∷ map amounts_line (take count left) ++ shown.Sum (all_nets after.posted) ∷ [] → Settled file lines
    settled count lines is said = record {
      rule = rule;
      items = w.items;
      complete = w.complete;
      draws =
          ap (λ x. answer (draw_reasons (shares_by rule) x 32)) same_book
          ∙ ap (λ n. answer (draw_reasons (shares_by rule) b n)) (sym room)
          ∙ none_refuse (draw_reasons (shares_by rule) b (length list)) no_reason;
      states =
          said
          ∙ ap (λ l. shown.Hour l ∷ shown.Price (price_of after) ∷ map amounts_line (take count left) ++ shown.Sum (all_nets after.posted) ∷ []) (ap (λ m. m.label) same_market ∙ w.came.labelled)
          ∙ ap (λ m. shown.Hour (label_in w.items) ∷ shown.Price (price_of (record { market = m; instructions = after.instructions; posted = after.posted; draws = after.draws; out = after.out })) ∷ map amounts_line (take count left) ++ shown.Sum (all_nets after.posted) ∷ []) same_market
          ∙ ap (λ ls. shown.Hour (label_in w.items) ∷ shown.Price (price_of b) ∷ map amounts_line ls ++ shown.Sum (all_nets after.posted) ∷ []) (lines_are count is)
          ∙ ap (λ z. shown.Hour (label_in w.items) ∷ shown.Price (price_of b) ∷ map amounts_line (drawn_lines (shares_by rule) b) ++ shown.Sum z ∷ []) sum_is
          ∙ ap (λ x. shown.Hour (label_in w.items) ∷ shown.Price (price_of x) ∷ map amounts_line (drawn_lines (shares_by rule) x) ++ shown.Sum (price_times_imbalance (price_of x) x.market) ∷ []) (sym same_book);
    }
