-- How the lines of an hour file are written, and the tables that their calls lead to. Assumes nothing.
use Rattle.std.specs.Prelude.{◌≡◌, ℕ, true, List, [], ◌++◌, Some, None, codes, Option, decimal}
use Rattle.std.specs.Char.{encode_utf8}
use Rattle.std.specs.List.{flat_map}
use Rattle.prices.specs.declared.block.Block.{Block}
use Rattle.hour.specs.declared.market.Market.{Market}
use Rattle.hour.specs.Market as hour
use Rattle.hour.specs.Market.{empty_market, enrolled, offered_blocks, ordered}
use Rattle.hourbill.specs.declared.key.Key.{Key}
use Rattle.hourbill.specs.declared.key.Key.TheVariants.{Hour, Asset, Offer, Order, Shed}
use Rattle.hourbill.specs.Key.{written, follows}

-- a block as a size, a colon and a price
abbrev pub block_text : Block → List ℕ
block_text block = decimal block.size ++ (codes ":" ++ decimal block.price)

-- blocks split by commas: with one more comma behind them, each block ends with a comma
abbrev pub AreWritten : List Block → List ℕ → Type 0
AreWritten blocks text = text ++ codes "," ≡ flat_map (λ block. block_text block ++ codes ",") blocks

-- the hour line: its label names the hour
pub record LabelLine (fields : List ℕ) (after : Market) : Type 0 where
  pub label : ℕ
  pub text : fields ≡ decimal label
  pub tables : after ≡ empty_market label

-- an asset line: the asset is enrolled
pub record AssetLine (fields : List ℕ) (before after : Market) : Type 0 where
  pub asset : ℕ
  pub letter : ℕ
  pub owner : ℕ
  pub text : fields ≡ decimal asset ++ (codes "," ++ (encode_utf8 letter ++ (codes "," ++ decimal owner)))
  pub tables : after ≡ enrolled before asset letter owner

-- an offer line: the asset has these blocks
pub record OfferLine (fields : List ℕ) (before after : Market) : Type 0 where
  pub asset : ℕ
  pub blocks : List Block
  pub list : List ℕ
  pub text : fields ≡ decimal asset ++ (codes "," ++ list)
  pub written_so : AreWritten blocks list
  pub tables : after ≡ offered_blocks before asset blocks

-- an order line: the level stands from the minute on
pub record OrderLine (fields : List ℕ) (before after : Market) : Type 0 where
  pub asset : ℕ
  pub minute : ℕ
  pub level : ℕ
  pub text : fields ≡ decimal asset ++ (codes "," ++ (decimal minute ++ (codes "," ++ decimal level)))
  pub tables : after ≡ ordered before asset minute level

-- a shed line: the minutes of the span are marked
pub record ShedLine (fields : List ℕ) (before after : Market) : Type 0 where
  pub first : ℕ
  pub end : ℕ
  pub text : fields ≡ decimal first ++ (codes "," ++ decimal end)
  pub tables : after ≡ hour.shed before first end

-- what a line of a key makes of the tables
abbrev pub Leads : Key → List ℕ → Market → Market → Type 0
Leads Hour fields before after = LabelLine fields after
Leads Asset fields before after = AssetLine fields before after
Leads Offer fields before after = OfferLine fields before after
Leads Order fields before after = OrderLine fields before after
Leads Shed fields before after = ShedLine fields before after

-- a line with the line feed that ends it
abbrev pub line_text : Key → List ℕ → List ℕ
line_text key fields = written key ++ (codes "=" ++ (fields ++ codes "\n"))

-- a text whose lines come in order, the key of its last line, and the tables that its lines lead to
pub data Reads : List ℕ → Option Key → Market → Type 0 where
  none : (m : Market) → Reads [] None m
  line : (text fields : List ℕ) (previous : Option Key) (key : Key) (before after : Market) → Reads text previous before → follows previous key ≡ true → Leads key fields before after → Reads (text ++ line_text key fields) (Some key) after

-- a line that stands after one of the previous key, and what it makes of the tables
pub record ReadLine (text : List ℕ) (previous : Option Key) (before : Market) (latest : Option Key) (after : Market) : Type 0 where
  pub key : Key
  pub fields : List ℕ
  pub written_so : text ≡ line_text key fields
  pub in_order : follows previous key ≡ true
  pub this : latest ≡ Some key
  pub leads : Leads key fields before after
