-- What a line of the file says, and its one writing. Assumes nothing.
use Rattle.std.specs.Prelude.{◌≡◌, ℕ, ◌≤◌, List, [], ◌∷◌, ◌++◌, map, codes, decimal}
use Rattle.prices.specs.Block.{block_list, listed}
use Rattle.prices.specs.declared.block.Block.{Block}
use Rattle.prices.specs.declared.block.BlockList.{BlockList}
use Rattle.file.specs.Field.{Capital}
use Rattle.file.specs.Key.{key_text}
use Rattle.file.specs.Number.{Word}
use Rattle.file.specs.Row.{row}
use Rattle.file.specs.declared.item.ItemWith.{ItemWith}
use Rattle.file.specs.declared.item.ItemWith.TheVariants.{Hour, Asset, Offer, Order, Shed, Meter, Instruct, Rule}
use Rattle.file.specs.declared.item.RuleName.{RuleName}
use Rattle.file.specs.declared.item.RuleName.TheVariants.{Largest, Running}
use Rattle.file.specs.declared.key.Key.{Key}
use Rattle.file.specs.declared.key.Key.TheVariants as key

-- what a line says, with the blocks of an offer in a list
abbrev pub Item : Type 0
Item = ItemWith BlockList

-- the key of an item's line, whatever the blocks of an offer are held in
abbrev pub key_of : {Blocks : Type 0} → ItemWith Blocks → Key
key_of (Hour label) = key.Hour
key_of (Asset asset letter owner) = key.Asset
key_of (Offer asset blocks) = key.Offer
key_of (Order asset minute level) = key.Order
key_of (Shed first end) = key.Shed
key_of (Meter asset kwh) = key.Meter
key_of (Instruct number source sink kwh) = key.Instruct
key_of (Rule name) = key.Rule

-- a block is written as its size, a colon and its price
abbrev pub block_text : Block → List ℕ
block_text block = decimal block.size ++ 58 ∷ decimal block.price

-- the name of a rule as it is written
abbrev pub rule_text : RuleName → List ℕ
rule_text Largest = codes "largest"
rule_text Running = codes "running"

-- the fields of a line, each as it is written
abbrev pub fields : Item → List (List ℕ)
fields (Hour label) = decimal label ∷ []
fields (Asset asset letter owner) = decimal asset ∷ (letter ∷ []) ∷ decimal owner ∷ []
fields (Offer asset blocks) = decimal asset ∷ map block_text (listed blocks)
fields (Order asset minute level) = decimal asset ∷ decimal minute ∷ decimal level ∷ []
fields (Shed first end) = decimal first ∷ decimal end ∷ []
fields (Meter asset kwh) = decimal asset ∷ decimal kwh ∷ []
fields (Instruct number source sink kwh) = decimal number ∷ decimal source ∷ decimal sink ∷ decimal kwh ∷ []
fields (Rule name) = rule_text name ∷ []

-- the one writing of a line
abbrev pub writing : Item → List ℕ
writing item = key_text (key_of item) ++ row (fields item)

-- the sizes and prices of blocks are numbers of the file
abbrev pub BlockWords : List Block → Type 0
BlockWords [] = Unit {0}
BlockWords (block ∷ blocks) = Word block.size × Word block.price × BlockWords blocks

-- an offer has 1 to 7 blocks, with empty places behind them
pub record SoundBlocks (blocks : BlockList) : Type 0 where
  pub some : 1 ≤ blocks.count
  pub few : blocks.count ≤ 7
  pub words : BlockWords (listed blocks)
  pub padded : blocks ≡ block_list (listed blocks)

-- the numbers and letters of a line are in the range of the form
abbrev pub Sound : Item → Type 0
Sound (Hour label) = Word label
Sound (Asset asset letter owner) = Word asset × Capital letter × Word owner
Sound (Offer asset blocks) = Word asset × SoundBlocks blocks
Sound (Order asset minute level) = Word asset × Word minute × Word level
Sound (Shed first end) = Word first × Word end
Sound (Meter asset kwh) = Word asset × Word kwh
Sound (Instruct number source sink kwh) = Word number × Word source × Word sink × Word kwh
Sound (Rule name) = Unit {0}
