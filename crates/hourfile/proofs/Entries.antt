-- A line of the priced hour behind others: its call is accepted and the hour goes on, or it is the first fault. Assumes nothing.
use Rattle.std.proofs.Common.{◌≡◌, ℕ, ◌-◌, ◌<◌, ◌≤◌, true, ◌&&◌, ltb, leb, List, [], ◌∷◌, length, is_some, Some, None, Ok, Err, Option, Result, sym, refl, ap, ◌∙◌, subst, inl, inr, arith}
use Rattle.std.proofs.lemmas.Bool.{and_parts, cases_eq, leb-true}
use Rattle.hour.specs.declared.fault.Fault as hour
use Rattle.hour.specs.declared.book.Book.{Book}
use Rattle.hour.specs.Reason.{answer}
use Rattle.hour.specs.Market.{asset_at, record_at}
use Rattle.hour.specs.Book.{owner_of, meter_reasons, propose_reasons}
use Rattle.hour.specs.Priced.{OnlyReading, Metering, Proposal}
use Rattle.ledger.specs.Call.{meter, propose, confirm, calls_of}
use Rattle.ledger.specs.Ledger.{book_of, ledger_of}
use Rattle.ledger.proofs.Agreement.{book_agrees}
use Rattle.file.specs.Item.{Item, key_of}
use Rattle.file.specs.Key.{order_of, follows}
use Rattle.file.specs.Line.{ReadLine}
use Rattle.file.specs.declared.body.Read.{Read}
use Rattle.file.specs.declared.item.ItemWith.TheVariants.{Hour, Asset, Offer, Order, Shed, Meter, Instruct, Rule}
use Rattle.file.specs.declared.item.RuleName.{RuleName}
use Rattle.file.specs.declared.key.Key.{Key}
use Rattle.hourfile.specs.Call.{Owners, EntryLine, passed_on, Joined, Entered}
use Rattle.hourfile.specs.Cursor.{BrokenHere, beyond, Through, CameTo, EntryNext, Entering, Ruled}
use Rattle.hourfile.specs.Lines.{last_key, calls_in, market_in, book_in, reasons}
use Rattle.hourfile.specs.Outcome.{FirstFault}
use Rattle.hourfile.specs.declared.cursor.Cursor.{Cursor}
use Rattle.hourfile.specs.declared.fault.Fault.{Fault}
use Rattle.hourfile.specs.declared.fault.Fault.TheVariants as of_file
use Rattle.hourfile.specs.declared.fault.LineFault.{LineFault}
use Rattle.hourfile.proofs.Passing.{stopped, broken_line, not_rule, further, accepted_if, passes, moves}
use Rattle.hourfile.proofs.Trades.{market_is}

-- the tables of the lines are those that a client has come to by their calls
pub book_is : (items : List Item) (b : Book) → CameTo items b → book_in items ≡ b
unfolding book_in
book_is items b came =
    ap (λ m. book_of (ledger_of m (calls_in items))) (market_is items came.traded came.market came.trading came.same_trades)
    ∙ ap (λ cs. book_of (ledger_of came.market cs)) (sym came.same_calls)
    ∙ sym (book_agrees came.market came.lived b came.since)

-- a reading changes no owner
owner_kept : (before after : Book) (place : ℕ) → OnlyReading before after place → (k : ℕ) → (record_at after.market k).owner ≡ (record_at before.market k).owner
owner_kept before after place only k =
    elim (cases_eq k place) [
      | inl e ↦ subst (λ j. (record_at after.market j).owner ≡ (record_at before.market j).owner) (sym e) only.owner
      | inr ne ↦ ap (λ x. x.owner) (only.records k ne)
    ]

parties_kept : (before after : Book) (place : ℕ) → OnlyReading before after place → Owners before.market → Owners after.market
parties_kept before after place only old k some =
    subst (λ o. (1 ≤ o) × (o ≤ 32)) (sym (owner_kept before after place only k))
    (old k (subst (λ s. is_some (asset_at (record { label = 0; schedule = s; records = [] }) k) ≡ true) only.schedule some))

-- a line behind one of the priced hour is no trading line
late : (last : Key) → 5 ≤ order_of last → (item : Item) → follows (Some last) (key_of item) ≡ true → EntryLine item
late last after item allowed =
    at item (leb-true (order_of last) (order_of (key_of item)) (and_parts (ltb 0 (order_of (key_of item))) (leb (order_of last) (order_of (key_of item))) (and_parts (ltb (order_of last) 7) (ltb 0 (order_of (key_of item)) && leb (order_of last) (order_of (key_of item))) allowed).1).1)
  where
    at : (i : Item) → order_of last ≤ order_of (key_of i) → EntryLine i
    at (Hour label) le = absurd (omega arith)
    at (Asset asset letter owner) le = absurd (omega arith)
    at (Offer asset blocks) le = absurd (omega arith)
    at (Order asset minute level) le = absurd (omega arith)
    at (Shed first end) le = absurd (omega arith)
    at (Meter asset kwh) le = tt
    at (Instruct number source sink kwh) le = tt
    at (Rule name) le = tt

-- what follows a line of the priced hour: the next one, or nothing behind the rule
abbrev pub EntryStep : List ℕ → Book → Cursor → Cursor → Option RuleName → Type 0
EntryStep file after cursor next None = (cursor.start < next.start) × Entering file after next
EntryStep file after cursor next (Some rule) = Ruled file after next rule

module _ (file : List ℕ) (few : length file ≤ 32768) (b after : Book) (cursor : Cursor) (t : Entering file b cursor) where
  pub broken_on : (at : LineFault) → BrokenHere file cursor at → FirstFault file at
  broken_on = broken_line file few t.items t.through.passed cursor t.through.behind (not_rule t.key (last_key t.items) 7 (omega arith) t.through.latest t.unruled)

  module _ (read : Read) (r : ReadLine file cursor.start cursor.last read) where
    refused_by : (fault : hour.Fault) → Err fault ≡ answer (reasons t.items read.item) → FirstFault file (record { line = Some cursor.line; fault = of_file.Hour fault })
    refused_by fault said = stopped file few t.items t.through.passed cursor t.through.behind (of_file.Hour fault) (record {
      read = read;
      stands = subst (λ l. ReadLine file cursor.start l read) t.through.behind.last r;
      refuses = sym said;
    })

    through_by : (u : Unit {0}) → Ok u ≡ answer (reasons t.items read.item) → Through file (beyond cursor read) (read.item ∷ t.items) (key_of read.item)
    through_by u said = record {
      passed = (t.through.passed, passes file t.items cursor t.through.behind read r (accepted_if (reasons t.items read.item) u said));
      behind = further file t.items cursor t.through.behind read r;
      latest = refl;
    }

    entries_by : 5 ≤ order_of (key_of read.item) → EntryNext file (beyond cursor read)
    entries_by le other o = late (key_of read.item) le other.item o.allowed

  -- a reading behind others
  metered : (asset kwh : ℕ) (u : Unit {0}) → Metering b asset kwh (Ok u) after → CameTo (Meter asset kwh ∷ t.items) after
  metered asset kwh u made = record {
    market = t.came.market;
    traded = t.came.traded;
    trading = t.came.trading;
    same_trades = t.came.same_trades;
    lived = (meter asset kwh, Ok u) ∷ t.came.lived;
    since = (b, t.came.since, made);
    same_calls = ap (λ cs. meter asset kwh ∷ cs) t.came.same_calls;
    labelled = made.others.label ∙ t.came.labelled;
    owners = λ k. owner_kept b after (asset - 1) made.others k ∙ t.came.owners k;
    parties = parties_kept b after (asset - 1) made.others t.came.parties;
  }

  sink_owner : (sink : ℕ) → owner_of b.market sink ≡ owner_of (market_in t.items) sink
  sink_owner sink = t.came.owners (sink - 1) ∙ ap (λ m. owner_of m sink) (sym (market_is t.items t.came.traded t.came.market t.came.trading t.came.same_trades))

  -- an instruction behind others
  joined : (number source sink kwh : ℕ) → Joined b number source sink kwh after → CameTo (Instruct number source sink kwh ∷ t.items) after
  joined number source sink kwh j =
      let same : after.market ≡ b.market = j.confirmation.others.market ∙ j.proposal.others.market in
      record {
        market = t.came.market;
        traded = t.came.traded;
        trading = t.came.trading;
        same_trades = t.came.same_trades;
        lived = (confirm number (owner_of b.market sink), Ok tt) ∷ (propose number source sink kwh, Ok tt) ∷ t.came.lived;
        since = (j.between, (b, t.came.since, j.proposal), j.confirmation);
        same_calls =
            ap (λ o. confirm number o ∷ propose number source sink kwh ∷ calls_of t.came.lived) (sink_owner sink)
            ∙ ap (λ cs. confirm number (owner_of (market_in t.items) sink) ∷ propose number source sink kwh ∷ cs) t.came.same_calls;
        labelled = ap (λ m. m.label) same ∙ t.came.labelled;
        owners = λ k. ap (λ m. (record_at m k).owner) same ∙ t.came.owners k;
        parties = subst Owners (sym same) t.came.parties;
      }

  meter_said : (asset kwh : ℕ) (said : Result (Unit {0}) hour.Fault) → Metering b asset kwh said after → said ≡ answer (meter_reasons (book_in t.items) asset kwh)
  meter_said asset kwh said made = subst (λ x. said ≡ answer (meter_reasons x asset kwh)) (sym (book_is t.items b t.came)) made.answer

  propose_said : (number source sink kwh : ℕ) (said : Result (Unit {0}) hour.Fault) (next : Book) → Proposal b number source sink kwh said next → said ≡ answer (propose_reasons (book_in t.items) number source sink kwh)
  propose_said number source sink kwh said next made = subst (λ x. said ≡ answer (propose_reasons x number source sink kwh)) (sym (book_is t.items b t.came)) made.answer

  entering : (item : Item) (next : ℕ) (r : ReadLine file cursor.start cursor.last (record { item = item; next = next })) (u : Unit {0}) →
      Ok u ≡ answer (reasons t.items item) → 5 ≤ order_of (key_of item) → ltb (order_of (key_of item)) 7 ≡ true → CameTo (item ∷ t.items) after →
      EntryStep file after cursor (beyond cursor (record { item = item; next = next })) None
  entering item next r u said low high came =
      let read : Read = record { item = item; next = next } in (
        moves file cursor.start cursor.last read r,
        record {
          items = item ∷ t.items;
          key = key_of item;
          through = through_by read r u said;
          unruled = high;
          entries = entries_by read r low;
          came = came;
        },
      )

  -- the call of an entry line was accepted, or the line names the rule
  pub entered_on : (rule : Option RuleName) (item : Item) (next : ℕ) → ReadLine file cursor.start cursor.last (record { item = item; next = next }) → Entered item b (Ok rule) after →
      EntryStep file after cursor (beyond cursor (record { item = item; next = next })) rule
  entered_on rule (Hour label) next r done = absurd done
  entered_on rule (Asset asset letter owner) next r done = absurd done
  entered_on rule (Offer asset blocks) next r done = absurd done
  entered_on rule (Order asset minute level) next r done = absurd done
  entered_on rule (Shed first end) next r done = absurd done
  entered_on rule (Meter asset kwh) next r done = at done.said done.made done.carried
    where
      at : (said : Result (Unit {0}) hour.Fault) → Metering b asset kwh said after → Ok rule ≡ passed_on None said → EntryStep file after cursor (beyond cursor (record { item = Meter asset kwh; next = next })) rule
      at (Ok u) made e =
          let none : rule ≡ None = cc in
          subst (EntryStep file after cursor (beyond cursor (record { item = Meter asset kwh; next = next }))) (sym none)
          (entering (Meter asset kwh) next r u (meter_said asset kwh (Ok u) made) (omega arith) refl (metered asset kwh u made))
      at (Err fault) made e = let z : ◌≡◌ {A = ℕ} 0 1 = cc in absurd (omega arith)
  entered_on rule (Instruct number source sink kwh) next r done =
      subst (EntryStep file after cursor (beyond cursor (record { item = Instruct number source sink kwh; next = next }))) (sym done.0)
      (entering (Instruct number source sink kwh) next r tt (propose_said number source sink kwh (Ok tt) done.1.between done.1.proposal) (omega arith) refl (joined number source sink kwh done.1))
  entered_on rule (Rule name) next r done =
      let some : rule ≡ Some name = (let e = done.0 in cc) in
      subst (EntryStep file after cursor (beyond cursor (record { item = Rule name; next = next }))) (sym some)
      (let th = through_by (record { item = Rule name; next = next }) r tt refl in
      record {
        items = t.items;
        passed = th.passed;
        behind = th.behind;
        came = subst (CameTo t.items) (sym done.1) t.came;
      })

  pub refused_on : (fault : Fault) (item : Item) (next : ℕ) → ReadLine file cursor.start cursor.last (record { item = item; next = next }) → Entered item b (Err fault) after →
      FirstFault file (record { line = Some cursor.line; fault = fault })
  refused_on fault (Hour label) next r done = absurd done
  refused_on fault (Asset asset letter owner) next r done = absurd done
  refused_on fault (Offer asset blocks) next r done = absurd done
  refused_on fault (Order asset minute level) next r done = absurd done
  refused_on fault (Shed first end) next r done = absurd done
  refused_on fault (Meter asset kwh) next r done = at done.said done.made done.carried
    where
      at : (said : Result (Unit {0}) hour.Fault) → Metering b asset kwh said after → Err fault ≡ passed_on {A = Option RuleName} None said → FirstFault file (record { line = Some cursor.line; fault = fault })
      at (Ok u) made e = let z : ◌≡◌ {A = ℕ} 0 1 = cc in absurd (omega arith)
      at (Err inner) made e =
          let same : fault ≡ of_file.Hour inner = cc in
          subst (λ f. FirstFault file (record { line = Some cursor.line; fault = f })) (sym same) (refused_by (record { item = Meter asset kwh; next = next }) r inner (meter_said asset kwh (Err inner) made))
  refused_on fault (Instruct number source sink kwh) next r done =
      subst (λ f. FirstFault file (record { line = Some cursor.line; fault = f })) (sym done.1)
      (refused_by (record { item = Instruct number source sink kwh; next = next }) r done.0 (propose_said number source sink kwh (Err done.0) after done.2))
  refused_on fault (Rule name) next r done = let e = done.0 in let z : ◌≡◌ {A = ℕ} 0 1 = cc in absurd (omega arith)
