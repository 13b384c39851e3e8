-- The blocks of an offer. Assumes nothing.
use Rattle.std.specs.Prelude.{◌≡◌, ℕ, ◌≤◌, true, cond, List, [], ◌∷◌, ◌++◌, map, length, ◌==◌, nat_lt}
use Rattle.prices.specs.declared.block.Block.{Block}
use Rattle.file.specs.Field.{allowed}
use Rattle.file.specs.Item.{block_text, BlockWords}
use Rattle.file.specs.Number.{Word}
use Rattle.file.specs.Place.{StandsBefore}
use Rattle.file.specs.Row.{row}
use Rattle.file.specs.declared.field.End.{End}
use Rattle.file.specs.declared.field.End.TheVariants.{CommaOrLine, Line}
use Rattle.file.specs.declared.field.Field.{Field}
use Rattle.file.specs.declared.position.Position.{Position}

-- a block and a byte that may end it
pub record BlockField (end : End) (text : List ℕ) : Type 0 where
  pub block : Block
  pub byte : ℕ
  pub size : Word block.size
  pub price : Word block.price
  pub ends : allowed end byte ≡ true
  pub same : text ≡ block_text block ++ byte ∷ []

-- a block was read with the byte that ends it
pub record ReadBlock (end : End) (file : List ℕ) (start : ℕ) (read : Field Block) : Type 0 where
  pub size : Word read.value.size
  pub price : Word read.value.price
  pub byte : ℕ
  pub ends : allowed end byte ≡ true
  pub line : read.ends_line ≡ (byte == 10)
  pub stands : StandsBefore file start read.next (block_text read.value ++ byte ∷ [])

-- the seventh block is the last
abbrev pub block_end : ℕ → End
block_end before = cond (nat_lt before 6) CommaOrLine Line

-- 1 to so many blocks and the line feed
pub record BlockRow (room : ℕ) (text : List ℕ) : Type 0 where
  pub blocks : List Block
  pub some : 1 ≤ length blocks
  pub few : length blocks ≤ room
  pub words : BlockWords blocks
  pub same : text ≡ row (map block_text blocks)

-- 1 to 7 blocks of an offer were read up to their line feed
pub record ReadBlocks (file : List ℕ) (start : ℕ) (blocks : List Block) (next : Position) : Type 0 where
  pub some : 1 ≤ length blocks
  pub few : length blocks ≤ 7
  pub words : BlockWords blocks
  pub stands : StandsBefore file start next (row (map block_text blocks))
