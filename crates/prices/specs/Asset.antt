-- An asset's level, marginal price and proposed system price in a minute. Assumes nothing.
use Rattle.std.specs.Prelude.{ℕ, cond, List, [], Some, None, Option, nat_lt, slice_index}
use Rattle.prices.specs.declared.block.Block.{Block}
use Rattle.prices.specs.declared.block.BlockList.{BlockList}
use Rattle.prices.specs.declared.asset.Asset.{Asset}
use Rattle.prices.specs.Block.{listed, marginal}
use Rattle.prices.specs.Kind.{generator}

-- level in a minute, 0 past the end of the hour
abbrev pub level_in : Asset → ℕ → ℕ
level_in asset minute = cond (nat_lt minute 60) (slice_index asset.levels minute) 0

-- the blocks of an offer, if there is one
abbrev pub blocks_of : Option BlockList → List Block
blocks_of None = []
blocks_of (Some list) = listed list

-- the blocks that an asset offers or bids
abbrev pub offered : Asset → List Block
offered asset = blocks_of asset.offer

-- an asset's marginal price in a minute
unfoldable pub price_in : Asset → ℕ → Option ℕ
price_in asset minute = marginal (offered asset) (level_in asset minute)

-- the same if the asset is a generator
abbrev pub generator_price : Asset → ℕ → Option ℕ
generator_price asset minute = cond (generator asset.kind) (price_in asset minute) None
