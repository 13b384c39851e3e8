-- The lines of a file that went through, the latest first, and the hour that their calls build. Assumes nothing.
use Rattle.std.specs.Prelude.{◌≡◌, ℕ, true, List, [], ◌∷◌, ◌++◌, Some, None, Option}
use Rattle.hour.specs.declared.market.Market.{Market}
use Rattle.hour.specs.declared.book.Book.{Book}
use Rattle.hour.specs.Reason.{Reason}
use Rattle.hour.specs.Market.{enrol_reasons, offer_reasons, order_reasons, shed_reasons}
use Rattle.hour.specs.Book.{owner_of, meter_reasons, propose_reasons}
use Rattle.ledger.specs.Trade.{Trade, enrol, offer, order, shedding, accepted, market_of}
use Rattle.ledger.specs.Call.{Call, meter, propose, confirm}
use Rattle.ledger.specs.Ledger.{book_of, ledger_of}
use Rattle.prices.specs.Block.{listed}
use Rattle.file.specs.Item.{Item, Sound, key_of, writing}
use Rattle.file.specs.Key.{follows}
use Rattle.file.specs.declared.item.ItemWith.TheVariants.{Hour, Asset, Offer, Order, Shed, Meter, Instruct, Rule}
use Rattle.file.specs.declared.key.Key.{Key}

-- the writing of lines one after another
abbrev pub written : List Item → List ℕ
written [] = []
written (item ∷ before) = written before ++ writing item

-- the key of the latest line
abbrev pub last_key : List Item → Option Key
last_key [] = None
last_key (item ∷ before) = Some (key_of item)

-- the label that the hour line gives
abbrev pub label_in : List Item → ℕ
label_in [] = 0
label_in (Hour label ∷ before) = label
label_in (Asset asset letter owner ∷ before) = label_in before
label_in (Offer asset blocks ∷ before) = label_in before
label_in (Order asset minute level ∷ before) = label_in before
label_in (Shed first end ∷ before) = label_in before
label_in (Meter asset kwh ∷ before) = label_in before
label_in (Instruct number source sink kwh ∷ before) = label_in before
label_in (Rule name ∷ before) = label_in before

-- the trading calls of the lines
abbrev pub trades_in : List Item → List Trade
trades_in [] = []
trades_in (Hour label ∷ before) = trades_in before
trades_in (Asset asset letter owner ∷ before) = enrol asset letter owner ∷ trades_in before
trades_in (Offer asset blocks ∷ before) = offer asset (listed blocks) ∷ trades_in before
trades_in (Order asset minute level ∷ before) = order asset minute level ∷ trades_in before
trades_in (Shed first end ∷ before) = shedding first end ∷ trades_in before
trades_in (Meter asset kwh ∷ before) = trades_in before
trades_in (Instruct number source sink kwh ∷ before) = trades_in before
trades_in (Rule name ∷ before) = trades_in before

-- the market that the trading calls leave, by the rules
unfoldable pub market_in : List Item → Market
market_in items = market_of (label_in items) (trades_in items)

-- the calls of the lines on the priced hour: an instruction is proposed, and confirmed by the owner of its sink
abbrev pub calls_in : List Item → List Call
calls_in [] = []
calls_in (Hour label ∷ before) = calls_in before
calls_in (Asset asset letter owner ∷ before) = calls_in before
calls_in (Offer asset blocks ∷ before) = calls_in before
calls_in (Order asset minute level ∷ before) = calls_in before
calls_in (Shed first end ∷ before) = calls_in before
calls_in (Meter asset kwh ∷ before) = meter asset kwh ∷ calls_in before
calls_in (Instruct number source sink kwh ∷ before) = confirm number (owner_of (market_in before) sink) ∷ propose number source sink kwh ∷ calls_in before
calls_in (Rule name ∷ before) = calls_in before

-- the tables of the priced hour that the lines build, by the rules
unfoldable pub book_in : List Item → Book
book_in items = book_of (ledger_of (market_in items) (calls_in items))

-- the reasons for which the call of a line behind others is refused; the confirming of an instruction has none, since its proposal was accepted
abbrev pub reasons : List Item → Item → List Reason
reasons before (Hour label) = []
reasons before (Asset asset letter owner) = enrol_reasons (market_in before) asset letter owner
reasons before (Offer asset blocks) = offer_reasons (market_in before) asset (listed blocks)
reasons before (Order asset minute level) = order_reasons (market_in before) asset minute level
reasons before (Shed first end) = shed_reasons first end
reasons before (Meter asset kwh) = meter_reasons (book_in before) asset kwh
reasons before (Instruct number source sink kwh) = propose_reasons (book_in before) number source sink kwh
reasons before (Rule name) = []

-- a line behind others is well formed, has a key that may come next, and its call is accepted
pub record Passes (before : List Item) (item : Item) : Type 0 where
  pub sound : Sound item
  pub allowed : follows (last_key before) (key_of item) ≡ true
  pub accepts : accepted (reasons before item) ≡ true

-- every line passes behind those before it
abbrev pub Passed : List Item → Type 0
Passed [] = Unit {0}
Passed (item ∷ before) = Passed before × Passes before item
