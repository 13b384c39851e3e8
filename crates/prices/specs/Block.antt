-- Block lists, how a level fills them, and the marginal price of a level. Assumes nothing.
use Rattle.std.specs.Prelude.{◌≡◌, ℕ, ◌-◌, ◌<◌, ◌≤◌, min, cond, List, map, length, take, Some, None, Option, nat_lt, slice_index_or}
use Rattle.std.specs.List.{range_with_len}
use Rattle.prices.specs.declared.block.Block.{Block}
use Rattle.prices.specs.declared.block.BlockList.{BlockList}
use Rattle.prices.specs.Range.{total, highest}

-- what stands past the end of a list: no power at no price
abbrev pub no_block : Block
no_block = record { size = 0; price = 0 }

-- size of the block at a place, in MW
abbrev pub size_at : List Block → ℕ → ℕ
size_at blocks k = (slice_index_or blocks k no_block).size

-- price of the block at a place, in cents per MWh
abbrev pub price_at : List Block → ℕ → ℕ
price_at blocks k = (slice_index_or blocks k no_block).price

-- power offered in the blocks before a place
abbrev pub ahead : List Block → ℕ → ℕ
ahead blocks k = total (size_at blocks) k

-- power that a level gives the block at a place: what the blocks before it leave, up to its size
abbrev pub power : List Block → ℕ → ℕ → ℕ
power blocks level k = min (size_at blocks k) (level - ahead blocks k)

-- a price that counts only if there is power
abbrev pub price_with_power : ℕ → ℕ → Option ℕ
price_with_power mw price = cond (nat_lt 0 mw) (Some price) None

-- price of the block at a place if the level gives it power
abbrev pub dispatched_price : List Block → ℕ → ℕ → Option ℕ
dispatched_price blocks level k = price_with_power (power blocks level k) (price_at blocks k)

-- price of the highest priced block with power
abbrev pub marginal : List Block → ℕ → Option ℕ
marginal blocks level = highest (dispatched_price blocks level) (length blocks)

-- a price is marginal if a block with power has it and no block with power is priced higher
pub record Reached (blocks : List Block) (level price : ℕ) : Type 0 where
  pub place : ℕ
  pub within : place < length blocks
  pub dispatched : 0 < power blocks level place
  pub priced : price ≡ price_at blocks place
  pub highest_priced : (k : ℕ) → k < length blocks → 0 < power blocks level k → price_at blocks k ≤ price

-- no block has power if there is no marginal price
abbrev pub Marginal : List Block → ℕ → Option ℕ → Type 0
Marginal blocks level None = (k : ℕ) → k < length blocks → power blocks level k ≡ 0
Marginal blocks level (Some price) = Reached blocks level price

-- the blocks that a block list holds, in order
abbrev pub listed : BlockList → List Block
listed list = take (min list.count 7) list.blocks

-- the block list that holds these blocks, at most 7, with empty places behind them
unfoldable pub block_list : List Block → BlockList
block_list blocks = record { blocks = map (λ k. slice_index_or blocks k no_block) (range_with_len 0 7); count = length blocks }
