-- Where a file is read, and what is known of the lines before. Assumes nothing.
use Rattle.std.specs.Prelude.{◌≡◌, ℕ, ◌+◌, true, List, [], ◌∷◌, length, Some, nat_lt}
use Rattle.hour.specs.declared.market.Market.{Market}
use Rattle.hour.specs.declared.book.Book.{Book}
use Rattle.hour.specs.Market.{record_at}
use Rattle.ledger.specs.Trade.{LivedTrade, Traded, trades_of}
use Rattle.ledger.specs.Call.{Lived, Leads, calls_of}
use Rattle.file.specs.Item.{Item, key_of}
use Rattle.file.specs.Key.{order_of}
use Rattle.file.specs.Line.{ReadLine, BrokenLine}
use Rattle.file.specs.Place.{Stands}
use Rattle.file.specs.declared.body.Read.{Read}
use Rattle.file.specs.declared.item.ItemWith.TheVariants.{Hour, Rule}
use Rattle.file.specs.declared.item.RuleName.{RuleName}
use Rattle.file.specs.declared.key.Key.{Key}
use Rattle.file.specs.declared.key.Key.TheVariants as key
use Rattle.hourfile.specs.Call.{Owners, EntryLine}
use Rattle.hourfile.specs.Lines.{written, last_key, label_in, trades_in, calls_in, Passed}
use Rattle.hourfile.specs.Outcome.{Complete}
use Rattle.hourfile.specs.declared.cursor.Cursor.{Cursor}
use Rattle.hourfile.specs.declared.fault.Fault.TheVariants.{IllFormed}
use Rattle.hourfile.specs.declared.fault.LineFault.{LineFault}

-- the line that stands here is ill formed
pub record BrokenHere (file : List ℕ) (cursor : Cursor) (at : LineFault) : Type 0 where
  pub place : ℕ
  pub broken : BrokenLine file cursor.start cursor.last place
  pub told : at ≡ (record { line = Some cursor.line; fault = IllFormed place })

-- the cursor behind a line that was read here
abbrev pub beyond : Cursor → Read → Cursor
beyond cursor read = record { start = read.next; line = cursor.line + 1; last = Some (key_of read.item) }

-- the cursor stands behind these lines
pub record Behind (file : List ℕ) (items : List Item) (cursor : Cursor) : Type 0 where
  pub stands : Stands file 0 cursor.start (written items)
  pub counted : cursor.line ≡ length items + 1
  pub last : cursor.last ≡ last_key items

-- the lines before the cursor passed, and the latest has this key
pub record Through (file : List ℕ) (cursor : Cursor) (items : List Item) (key : Key) : Type 0 where
  pub passed : Passed items
  pub behind : Behind file items cursor
  pub latest : last_key items ≡ Some key

-- the hour line and trading lines passed, and a client of the hour has come to this market by their calls
pub record Trading (file : List ℕ) (m : Market) (cursor : Cursor) : Type 0 where
  pub items : List Item
  pub key : Key
  pub through : Through file cursor items key
  pub early : nat_lt (order_of key) 5 ≡ true
  pub uncalled : calls_in items ≡ []
  pub labelled : m.label ≡ label_in items
  pub traded : List LivedTrade
  pub trading : Traded (label_in items) traded m
  pub same_trades : trades_of traded ≡ trades_in items

-- the first line was read: it gives this label
abbrev pub Opened : List ℕ → ℕ → Cursor → Type 0
Opened file label cursor = Through file cursor (Hour label ∷ []) key.Hour

-- what is read here is no trading line
abbrev pub EntryNext : List ℕ → Cursor → Type 0
EntryNext file cursor = (read : Read) → ReadLine file cursor.start cursor.last read → EntryLine read.item

-- a client of a new hour has come to these tables by the calls of the lines
pub record CameTo (items : List Item) (b : Book) : Type 0 where
  pub market : Market
  pub traded : List LivedTrade
  pub trading : Traded (label_in items) traded market
  pub same_trades : trades_of traded ≡ trades_in items
  pub lived : List Lived
  pub since : Leads market lived b
  pub same_calls : calls_of lived ≡ calls_in items
  pub labelled : b.market.label ≡ label_in items
  pub owners : (k : ℕ) → (record_at b.market k).owner ≡ (record_at market k).owner
  pub parties : Owners b.market

-- the hour is closed, and a line of the priced hour stands here
pub record Entering (file : List ℕ) (b : Book) (cursor : Cursor) : Type 0 where
  pub items : List Item
  pub key : Key
  pub through : Through file cursor items key
  pub unruled : nat_lt (order_of key) 7 ≡ true
  pub entries : EntryNext file cursor
  pub came : CameTo items b

-- the line of the rule passed
pub record Ruled (file : List ℕ) (b : Book) (cursor : Cursor) (rule : RuleName) : Type 0 where
  pub items : List Item
  pub passed : Passed (Rule rule ∷ items)
  pub behind : Behind file (Rule rule ∷ items) cursor
  pub came : CameTo items b

-- the whole file was read, and a client has come to these tables by its calls
pub record ReadWhole (file : List ℕ) (b : Book) (rule : RuleName) : Type 0 where
  pub items : List Item
  pub complete : Complete file rule items
  pub came : CameTo items b
