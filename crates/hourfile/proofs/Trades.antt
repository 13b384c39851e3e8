-- A trading line behind others: its call is accepted and the hour goes on, or it is the first fault. Assumes nothing.
use Rattle.std.proofs.Common.{◌≡◌, ℕ, ◌≤◌, true, false, ◌&&◌, ltb, leb, List, ◌∷◌, length, Some, None, Ok, Err, Result, sym, refl, ap, ◌∙◌, subst, arith}
use Rattle.std.proofs.lemmas.Bool.{and_parts, both_ways}
use Rattle.hour.specs.declared.fault.Fault as hour
use Rattle.hour.specs.declared.market.Market.{Market}
use Rattle.hour.specs.Reason.{answer}
use Rattle.hour.specs.Market.{enrol_reasons, offer_reasons, order_reasons}
use Rattle.ledger.specs.Trade.{Trade, enrol, offer, order, shedding, LivedTrade, TradeMade, Traded, trades_of, market_of}
use Rattle.ledger.proofs.Agreement.{market_agrees}
use Rattle.prices.specs.Block.{listed}
use Rattle.prices.specs.declared.block.BlockList.{BlockList}
use Rattle.file.specs.Item.{Item, key_of}
use Rattle.file.specs.Key.{order_of, follows}
use Rattle.file.specs.Line.{ReadLine}
use Rattle.file.specs.declared.body.Read.{Read}
use Rattle.file.specs.declared.item.ItemWith.TheVariants.{Hour, Asset, Offer, Order, Shed, Meter, Instruct, Rule}
use Rattle.file.specs.declared.key.Key.TheVariants as line-key
use Rattle.hourfile.specs.Call as call
use Rattle.hourfile.specs.Call.{EntryLine}
use Rattle.hourfile.specs.Cursor.{BrokenHere, beyond, Trading, EntryNext}
use Rattle.hourfile.specs.Lines.{last_key, label_in, trades_in, calls_in, market_in, reasons}
use Rattle.hourfile.specs.Outcome.{FirstFault}
use Rattle.hourfile.specs.declared.cursor.Cursor.{Cursor}
use Rattle.hourfile.specs.declared.fault.Fault.TheVariants as of_file
use Rattle.hourfile.specs.declared.fault.LineFault.{LineFault}
use Rattle.hourfile.proofs.Passing.{stopped, broken_line, not_rule, read_once, further, allowed_here, accepted_if, passes}

-- the market of the lines is the one that a client has come to by their calls
pub market_is : (items : List Item) (traded : List LivedTrade) (m : Market) → Traded (label_in items) traded m → trades_of traded ≡ trades_in items → market_in items ≡ m
unfolding market_in
market_is items traded m came same = sym (market_agrees (label_in items) traded m came ∙ ap (market_of (label_in items)) same)

-- an item is a trading line with this call
record TradeItem (item : Item) (trade : Trade) : Type 0 where
  pub trades : (before : List Item) → trades_in (item ∷ before) ≡ trade ∷ trades_in before
  pub label : (before : List Item) → label_in (item ∷ before) ≡ label_in before
  pub calls : (before : List Item) → calls_in (item ∷ before) ≡ calls_in before
  pub early : ltb (order_of (key_of item)) 5 ≡ true
  pub keeps : (m after : Market) (said : Result (Unit {0}) hour.Fault) → TradeMade trade said m after → after.label ≡ m.label
  pub says : (before : List Item) (m after : Market) (said : Result (Unit {0}) hour.Fault) → market_in before ≡ m → TradeMade trade said m after → said ≡ answer (reasons before item)

asset_item : (asset letter owner : ℕ) → TradeItem (Asset asset letter owner) (enrol asset letter owner)
asset_item asset letter owner = record {
  trades = λ before. refl;
  label = λ before. refl;
  calls = λ before. refl;
  early = refl;
  keeps = λ m after said made. made.others.label;
  says = λ before m after said e made. subst (λ x. said ≡ answer (enrol_reasons x asset letter owner)) (sym e) made.answer;
}

offer_item : (asset : ℕ) (blocks : BlockList) → TradeItem (Offer asset blocks) (offer asset (listed blocks))
offer_item asset blocks = record {
  trades = λ before. refl;
  label = λ before. refl;
  calls = λ before. refl;
  early = refl;
  keeps = λ m after said made. made.others.label;
  says = λ before m after said e made. subst (λ x. said ≡ answer (offer_reasons x asset (listed blocks))) (sym e) made.answer;
}

order_item : (asset minute level : ℕ) → TradeItem (Order asset minute level) (order asset minute level)
order_item asset minute level = record {
  trades = λ before. refl;
  label = λ before. refl;
  calls = λ before. refl;
  early = refl;
  keeps = λ m after said made. made.others.label;
  says = λ before m after said e made. subst (λ x. said ≡ answer (order_reasons x asset minute level)) (sym e) made.answer;
}

shed_item : (first end : ℕ) → TradeItem (Shed first end) (shedding first end)
shed_item first end = record {
  trades = λ before. refl;
  label = λ before. refl;
  calls = λ before. refl;
  early = refl;
  keeps = λ m after said made. made.label;
  says = λ before m after said e made. made.answer;
}

module _ (file : List ℕ) (few : length file ≤ 32768) (m after : Market) (cursor : Cursor) (t : Trading file m cursor) where
  pub broken_on : (at : LineFault) → BrokenHere file cursor at → FirstFault file at
  broken_on = broken_line file few t.items t.through.passed cursor t.through.behind (not_rule t.key (last_key t.items) 5 (omega arith) t.through.latest t.early)

  module _ (read : Read) (r : ReadLine file cursor.start cursor.last read) where
    refused_by : (fault : hour.Fault) (trade : Trade) → TradeItem read.item trade → TradeMade trade (Err fault) m after → FirstFault file (record { line = Some cursor.line; fault = of_file.Hour fault })
    refused_by fault trade is made = stopped file few t.items t.through.passed cursor t.through.behind (of_file.Hour fault) (record {
      read = read;
      stands = subst (λ l. ReadLine file cursor.start l read) t.through.behind.last r;
      refuses = sym (is.says t.items m after (Err fault) (market_is t.items t.traded m t.trading t.same_trades) made);
    })

    made_by : (trade : Trade) → TradeItem read.item trade → TradeMade trade (Ok tt) m after → Trading file after (beyond cursor read)
    made_by trade is made = record {
      items = read.item ∷ t.items;
      key = key_of read.item;
      through = record {
        passed = (t.through.passed, passes file t.items cursor t.through.behind read r (accepted_if (reasons t.items read.item) tt (is.says t.items m after (Ok tt) (market_is t.items t.traded m t.trading t.same_trades) made)));
        behind = further file t.items cursor t.through.behind read r;
        latest = refl;
      };
      early = is.early;
      uncalled = is.calls t.items ∙ t.uncalled;
      labelled = is.keeps m after (Ok tt) made ∙ t.labelled ∙ sym (is.label t.items);
      traded = (trade, Ok tt) ∷ t.traded;
      trading = subst (λ l. Traded l ((trade, Ok tt) ∷ t.traded) after) (sym (is.label t.items)) (m, t.trading, made);
      same_trades = ap (λ ts. trade ∷ ts) t.same_trades ∙ sym (is.trades t.items);
    }

  -- a second hour line is not allowed
  no_hour : follows (last_key t.items) line-key.Hour ≡ true → ⊥
  no_hour allowed =
      let here : follows (Some t.key) line-key.Hour ≡ true = subst (λ l. follows l line-key.Hour ≡ true) t.through.latest allowed in
      both_ways false refl (and_parts false (leb (order_of t.key) 0) (and_parts (ltb (order_of t.key) 7) (false && leb (order_of t.key) 0) here).1).0

  pub made_on : (item : Item) (next : ℕ) → ReadLine file cursor.start cursor.last (record { item = item; next = next }) → call.Traded item m (Some (Ok tt)) after → Trading file after (beyond cursor (record { item = item; next = next }))
  made_on (Hour label) next r done = absurd done
  made_on (Asset asset letter owner) next r done = made_by (record { item = Asset asset letter owner; next = next }) r _ (asset_item asset letter owner) done
  made_on (Offer asset blocks) next r done = made_by (record { item = Offer asset blocks; next = next }) r _ (offer_item asset blocks) done
  made_on (Order asset minute level) next r done = made_by (record { item = Order asset minute level; next = next }) r _ (order_item asset minute level) done
  made_on (Shed first end) next r done = made_by (record { item = Shed first end; next = next }) r _ (shed_item first end) done
  made_on (Meter asset kwh) next r done = absurd done
  made_on (Instruct number source sink kwh) next r done = absurd done
  made_on (Rule name) next r done = absurd done

  pub refused_on : (fault : hour.Fault) (item : Item) (next : ℕ) → ReadLine file cursor.start cursor.last (record { item = item; next = next }) → call.Traded item m (Some (Err fault)) after → FirstFault file (record { line = Some cursor.line; fault = of_file.Hour fault })
  refused_on fault (Hour label) next r done = absurd done
  refused_on fault (Asset asset letter owner) next r done = refused_by (record { item = Asset asset letter owner; next = next }) r fault _ (asset_item asset letter owner) done
  refused_on fault (Offer asset blocks) next r done = refused_by (record { item = Offer asset blocks; next = next }) r fault _ (offer_item asset blocks) done
  refused_on fault (Order asset minute level) next r done = refused_by (record { item = Order asset minute level; next = next }) r fault _ (order_item asset minute level) done
  refused_on fault (Shed first end) next r done = refused_by (record { item = Shed first end; next = next }) r fault _ (shed_item first end) done
  refused_on fault (Meter asset kwh) next r done = absurd done
  refused_on fault (Instruct number source sink kwh) next r done = absurd done
  refused_on fault (Rule name) next r done = absurd done

  -- a line without a trading call is an entry line
  entry_at : (item : Item) (next : ℕ) → ReadLine file cursor.start cursor.last (record { item = item; next = next }) → call.Traded item m None after → (after ≡ m) × EntryLine item
  entry_at (Hour label) next r done = absurd (no_hour (allowed_here file t.items cursor t.through.behind (record { item = Hour label; next = next }) r))
  entry_at (Asset asset letter owner) next r done = absurd done
  entry_at (Offer asset blocks) next r done = absurd done
  entry_at (Order asset minute level) next r done = absurd done
  entry_at (Shed first end) next r done = absurd done
  entry_at (Meter asset kwh) next r done = (done, tt)
  entry_at (Instruct number source sink kwh) next r done = (done, tt)
  entry_at (Rule name) next r done = (done, tt)

  pub entry_on : (read : Read) → ReadLine file cursor.start cursor.last read → call.Traded read.item m None after → (after ≡ m) × EntryNext file cursor
  entry_on read r done =
      let here = entry_at read.item read.next r done in
      (here.0, λ other o. subst EntryLine (read_once file cursor.start cursor.last read other r o) here.1)
