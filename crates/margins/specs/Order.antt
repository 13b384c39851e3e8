-- When a block list stands in the order of its side. Assumes nothing.
use Rattle.std.specs.Prelude.{◌≡◌, ℕ, zero, suc, ◌+◌, ◌-◌, ◌<◌, Bool, true, cond, ◌&&◌, List, length, Decides}
use Rattle.prices.specs.declared.block.Block.{Block}
use Rattle.prices.specs.declared.kind.Kind.{Kind}
use Rattle.prices.specs.Block.{price_at}
use Rattle.prices.specs.Kind.{source, sink}
use Rattle.margins.specs.Side.{lower_first, higher_first}

-- whether all the numbers below n pass the test
unfoldable pub every : (ℕ → Bool) → ℕ → Bool
every p zero = true
every p (suc n) = every p n && p n

-- whether the price at a place comes before the next one
abbrev pub next_in_order : (ℕ → ℕ → Bool) → List Block → ℕ → Bool
next_in_order precedes blocks k = precedes (price_at blocks k) (price_at blocks (k + 1))

-- whether each price comes before the next
unfoldable pub ordered : (ℕ → ℕ → Bool) → List Block → Bool
ordered precedes blocks = every (next_in_order precedes blocks) (length blocks - 1)

-- each price comes before every later one
abbrev pub InOrder : (ℕ → ℕ → Bool) → List Block → Type 0
InOrder precedes blocks = (j k : ℕ) → j < k → k < length blocks → precedes (price_at blocks j) (price_at blocks k) ≡ true

-- a source's list in the order of offers, a sink's in the order of bids
unfoldable pub ordered_for : Kind → List Block → Bool
ordered_for kind blocks = cond (source kind) (ordered lower_first blocks) (ordered higher_first blocks)

-- prices strictly rise along a list
abbrev pub Rising : List Block → Type 0
Rising blocks = (j k : ℕ) → j < k → k < length blocks → price_at blocks j < price_at blocks k

-- prices strictly fall along a list
abbrev pub Falling : List Block → Type 0
Falling blocks = (j k : ℕ) → j < k → k < length blocks → price_at blocks k < price_at blocks j

-- the answer says whether prices strictly rise along a source's list and strictly fall along a sink's
pub record InKindsOrder (kind : Kind) (blocks : List Block) (answer : Bool) : Type 0 where
  pub offers : source kind ≡ true → Decides answer (Rising blocks)
  pub bids : sink kind ≡ true → Decides answer (Falling blocks)
