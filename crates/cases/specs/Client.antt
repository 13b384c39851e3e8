-- What a client that settles an hour learns of the posted nets. Assumes nothing.
use Rattle.std.specs.Prelude.{◌≡◌, ℕ, List, ◌∷◌, ℤ, pos, neg_ℤ}
use Rattle.hour.specs.declared.market.Market.{Market}
use Rattle.hour.specs.declared.book.Book.{Book}
use Rattle.hour.specs.Run.{price_of}
use Rattle.ledger.specs.Imbalance.{price_times_imbalance}
use Rattle.ledger.specs.Trade.{Trade, LivedTrade, Traded, trades_of}
use Rattle.ledger.specs.Call.{Call, Lived, calls_of}
use Rattle.ledger.specs.Ledger.{Draw}
use Rattle.ledger.specs.Law.{CameBy, nets_due, ledger_by}
use Rattle.cases.specs.Worked.{worked_label}

-- a market that a client has come to by these calls on a new hour
pub record TradedTo (label : ℕ) (trades : List Trade) (m : Market) : Type 0 where
  pub lived : List LivedTrade
  pub came : Traded label lived m
  pub same : trades_of lived ≡ trades

-- tables that a client has come to by these calls on a new hour
pub record CameTo (label : ℕ) (trades : List Trade) (calls : List Call) (b : Book) : Type 0 where
  pub traded : List LivedTrade
  pub lived : List Lived
  pub came : CameBy label traded lived b
  pub same_trades : trades_of traded ≡ trades
  pub same_calls : calls_of lived ≡ calls

-- the nets are price times imbalance at the draw posted last, of the history that the client lived through
pub record Settled (label : ℕ) (nets : ℤ) : Type 0 where
  pub traded : List LivedTrade
  pub lived : List Lived
  pub book : Book
  pub came : CameBy label traded lived book
  pub due : nets ≡ nets_due (ledger_by label traded lived).posted

-- the nets are price times imbalance of the tables at the draw posted last, by the history that the client lived through
pub record SettledLast (label : ℕ) (nets : ℤ) : Type 0 where
  pub traded : List LivedTrade
  pub lived : List Lived
  pub book : Book
  pub came : CameBy label traded lived book
  pub last : Draw
  pub earlier : List Draw
  pub posted_last : (ledger_by label traded lived).posted ≡ last ∷ earlier
  pub due : nets ≡ price_times_imbalance (price_of last.tables) last.tables.market

-- the worked hour posted, a late reading, a run voided and one posted: 6,000 times 165,000 less 170,000
pub record SettledLate (nets : ℤ) : Type 0 where
  pub settled : SettledLast worked_label nets
  pub figure : nets ≡ neg_ℤ (pos 30000000)
