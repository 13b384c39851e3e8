-- Lists of trading calls: the market that they leave by the rules, and what a client lives through. Assumes nothing.
use Rattle.std.specs.Prelude.{◌≡◌, ℕ, Bool, true, cond, not, ◌&&◌, List, [], ◌∷◌, Result}
use Rattle.prices.specs.declared.block.Block.{Block}
use Rattle.hour.specs.declared.fault.Fault.{Fault}
use Rattle.hour.specs.declared.market.Market.{Market}
use Rattle.hour.specs.Reason.{Reason}
use Rattle.hour.specs.Market.{empty_market, enrol_reasons, enrolled, offer_reasons, offered_blocks, order_reasons, ordered, shed_reasons, shed}
use Rattle.hour.specs.Trading.{Enrolled, Offering, Instructed, Shed}

-- a trading call with its arguments
pub data Trade : Type 0 where
  enrol : (asset letter owner : ℕ) → Trade
  offer : (asset : ℕ) (blocks : List Block) → Trade
  order : (asset minute level : ℕ) → Trade
  shedding : (first end : ℕ) → Trade

-- a call is accepted if none of its reasons for refusal fits
abbrev pub accepted : List Reason → Bool
accepted [] = true
accepted (reason ∷ rest) = not reason.fits && accepted rest

-- what a trading call does by the rules: nothing if it is refused
abbrev pub traded : Market → Trade → Market
traded m (enrol asset letter owner) = cond (accepted (enrol_reasons m asset letter owner)) (enrolled m asset letter owner) m
traded m (offer asset blocks) = cond (accepted (offer_reasons m asset blocks)) (offered_blocks m asset blocks) m
traded m (order asset minute level) = cond (accepted (order_reasons m asset minute level)) (ordered m asset minute level) m
traded m (shedding first end) = cond (accepted (shed_reasons first end)) (shed m first end) m

-- the market after a list of trading calls on a new hour, the latest call first
abbrev pub market_of : ℕ → List Trade → Market
market_of label [] = empty_market label
market_of label (trade ∷ before) = traded (market_of label before) trade

-- a trading call and its answer
abbrev pub LivedTrade : Type 0
LivedTrade = Trade × Result (Unit {0}) Fault

-- what the call's own contract says of the market before it and after it
abbrev pub TradeMade : Trade → Result (Unit {0}) Fault → Market → Market → Type 0
TradeMade (enrol asset letter owner) r before after = Enrolled before asset letter owner r after
TradeMade (offer asset blocks) r before after = Offering before asset blocks r after
TradeMade (order asset minute level) r before after = Instructed before asset minute level r after
TradeMade (shedding first end) r before after = Shed before first end r after

-- the market that a client of a new hour has come to by these calls, the latest first
abbrev pub Traded : ℕ → List LivedTrade → Market → Type 0
Traded label [] m = m ≡ empty_market label
Traded label (event ∷ earlier) m = (before : Market) × Traded label earlier before × TradeMade event.0 event.1 before m

-- the calls of a history
abbrev pub trades_of : List LivedTrade → List Trade
trades_of [] = []
trades_of (event ∷ earlier) = event.0 ∷ trades_of earlier
