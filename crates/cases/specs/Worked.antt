-- The calls of the worked hour, its late reading, and of an hour with a bid. Assumes nothing.
use Rattle.std.specs.Prelude.{ℕ, List, [], ◌∷◌, replicate}
use Rattle.prices.specs.declared.block.Block.{Block}
use Rattle.splitting.specs.Largest.{largest}
use Rattle.splitting.specs.Rule.{Lawful}
use Rattle.hour.specs.declared.market.Market.{Market}
use Rattle.hour.specs.declared.book.Book.{Book}
use Rattle.hour.specs.Line.{no_line}
use Rattle.hour.specs.Run.{slip_of}
use Rattle.ledger.specs.Trade.{Trade, enrol, offer, order, market_of}
use Rattle.ledger.specs.Call.{Call, meter, propose, confirm, draw, post}
use Rattle.ledger.specs.Ledger.{book_of, ledger_of}

-- a block of a size in MW at a price in cents per MWh
abbrev pub block : ℕ → ℕ → Block
block size price = record { size = size; price = price }

-- the label of the worked hour
abbrev pub worked_label : ℕ
worked_label = 2024040107

-- its trading calls, the latest first: two generators (71 is G) and two loads (76 is L), each with its own owner
abbrev pub worked_trades : List Trade
worked_trades =
    order 2 30 80
    ∷ order 2 0 50
    ∷ order 1 0 100
    ∷ offer 2 (block 50 3000 ∷ block 50 9000 ∷ [])
    ∷ offer 1 (block 100 2000 ∷ [])
    ∷ enrol 4 76 4
    ∷ enrol 3 76 3
    ∷ enrol 2 71 2
    ∷ enrol 1 71 1
    ∷ []

-- the market that these calls leave
unfoldable pub worked_market : Market
worked_market = market_of worked_label worked_trades

-- its readings and its instruction, the latest call first
abbrev pub worked_calls : List Call
worked_calls = confirm 1 3 ∷ propose 1 1 3 40000 ∷ meter 4 50000 ∷ meter 3 110000 ∷ meter 2 65000 ∷ meter 1 100000 ∷ []

-- the tables that its first run is drawn from
unfoldable pub worked_book : Book
worked_book = book_of (ledger_of worked_market worked_calls)

-- the first run drawn by the largest remainders and posted, and then a late reading, the latest call first
abbrev pub late_calls : Lawful largest → List Call
late_calls law = meter 4 60000 ∷ post (slip_of worked_label 1) ∷ draw largest law (replicate 4 no_line) ∷ worked_calls

-- the tables that its second run is drawn from
unfoldable pub late_book : Lawful largest → Book
late_book law = book_of (ledger_of worked_market (late_calls law))

-- a load that bids 40 MW at 50,000 and 20 MW at 5,000 and takes 60 MW, from minute 30 on 50 MW
abbrev pub bid_trades : List Trade
bid_trades = order 1 30 50 ∷ order 1 0 60 ∷ offer 1 (block 40 50000 ∷ block 20 5000 ∷ []) ∷ enrol 1 76 1 ∷ []

-- the market that these calls leave
unfoldable pub bid_market : Market
bid_market = market_of worked_label bid_trades
