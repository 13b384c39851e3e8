-- The rules that the blocks of an offer or a bid keep. Assumes nothing.
use Rattle.std.specs.Prelude.{ℕ, ◌<◌, ◌≤◌, Bool, true, ◌&&◌, List, length, nat_le, slice_index_or}
use Rattle.prices.specs.declared.block.Block.{Block}
use Rattle.prices.specs.declared.kind.Kind.{Kind}
use Rattle.prices.specs.Block.{no_block, size_at, price_at, ahead}
use Rattle.margins.specs.Order.{every, ordered_for, InKindsOrder}

-- a block of 1 to 1,000 MW at 0 to 99,999 cents
abbrev pub fair_block : Block → Bool
fair_block block = nat_le 1 block.size && nat_le block.size 1000 && nat_le block.price 99999

-- the same of the block at a place
abbrev pub fair_at : List Block → ℕ → Bool
fair_at blocks k = fair_block (slice_index_or blocks k no_block)

-- 1 to 7 fair blocks of at most 1,000 MW together, in the order of the side that the kind is on
unfoldable pub sound_blocks : Kind → List Block → Bool
sound_blocks kind blocks =
    nat_le 1 (length blocks) && nat_le (length blocks) 7 && every (fair_at blocks) (length blocks) && nat_le (ahead blocks (length blocks)) 1000 && ordered_for kind blocks

-- the rules in words
pub record SoundBlocks (kind : Kind) (blocks : List Block) : Type 0 where
  pub some : 1 ≤ length blocks
  pub few : length blocks ≤ 7
  pub sizes : (k : ℕ) → k < length blocks → (1 ≤ size_at blocks k) × (size_at blocks k ≤ 1000)
  pub prices : (k : ℕ) → k < length blocks → price_at blocks k ≤ 99999
  pub together : ahead blocks (length blocks) ≤ 1000
  pub order : InKindsOrder kind blocks true
