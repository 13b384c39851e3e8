-- When a block list keeps the rules of an offer or a bid. Assumes nothing.
use Rattle.std.proofs.Common.{◌≡◌, ℕ, ◌≤◌, true, false, ◌&&◌, leb, List, length, sym, refl, subst, inl, inr, arith}
use Rattle.std.specs.List.{list_all}
use Rattle.std.proofs.lemmas.Bool.{and_parts, and_left, cases_lt, leb-true}
use Rattle.std.proofs.lemmas.List.{get_or_past}
use Rattle.prices.specs.declared.block.Block.{Block}
use Rattle.prices.specs.declared.kind.Kind.{Kind}
use Rattle.prices.specs.Block.{no_block, price_at, ahead}
use Rattle.margins.specs.Order.{every, ordered_for}
use Rattle.margins.proofs.Ordering.{every_at, every_list}
use Rattle.hour.specs.Blocks.{fair_block, fair_at, sound_blocks}

module _ (kind : Kind) (blocks : List Block) where
  -- the rules that are left once a list has 1 to 7 blocks
  pub sound_of_listed : (leb 1 (length blocks) && leb (length blocks) 7) ≡ true → sound_blocks kind blocks ≡ (list_all fair_block blocks && leb (ahead blocks (length blocks)) 1000 && ordered_for kind blocks)
  unfolding sound_blocks
  sound_of_listed few = rw (few, every_list fair_block blocks no_block) refl

  -- a list of no blocks, or of more than 7, breaks the rules
  pub unlisted : (leb 1 (length blocks) && leb (length blocks) 7) ≡ false → sound_blocks kind blocks ≡ false
  unfolding sound_blocks
  unlisted other = and_left _ _ (and_left _ _ (and_left _ _ other))

  -- what a sound list keeps
  sound_parts : sound_blocks kind blocks ≡ true → (length blocks ≤ 7) × (every (fair_at blocks) (length blocks) ≡ true)
  unfolding sound_blocks
  sound_parts e =
      let rest = and_parts _ _ (and_parts _ _ (and_parts _ _ e).0).0 in
      (leb-true _ 7 (and_parts _ _ rest.0).1, rest.1)

  pub sound_few : sound_blocks kind blocks ≡ true → length blocks ≤ 7
  sound_few e = (sound_parts e).0

  pub sound_prices : sound_blocks kind blocks ≡ true → (j : ℕ) → price_at blocks j ≤ 99999
  sound_prices e j =
      elim (cases_lt j (length blocks)) [
        | inl within ↦ leb-true _ 99999 (and_parts _ _ (every_at (fair_at blocks) (length blocks) (sound_parts e).1 j within)).1
        | inr past ↦ subst (λ (b : Block). b.price ≤ 99999) (sym (get_or_past blocks j no_block past)) (omega arith)
      ]
