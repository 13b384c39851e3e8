-- What holds of a level that fills a block list. Assumes nothing.
use Rattle.std.proofs.Common.{◌≡◌, ℕ, ◌+◌, ◌-◌, ◌<◌, ◌≤◌, min, ltb, List, ◌++◌, map, length, length-append, get_or, take, drop, replicate, Some, None, Option, sym, refl, ap, ◌∙◌, subst, inl, inr, arith}
use Rattle.std.specs.List.{range_with_len}
use Rattle.std.proofs.lemmas.Bool.{cases_lt, lt-ltb, cond-true, cond-false, le-ltb}
use Rattle.std.proofs.lemmas.List.{drop-replicate, length-replicate, get_or_append_left, get_or-append_right, get_or-drop, get_or-replicate, get_or_past}
use Rattle.std.proofs.lemmas.List.FromFn.{take-map-range_with_len, fill_by_all}
use Rattle.prices.specs.declared.block.Block.{Block}
use Rattle.prices.specs.Block.{power, price_at, price_with_power, dispatched_price, marginal, Marginal, no_block, block_list, listed}
use Rattle.prices.proofs.Ranges.{Greatest, highest_greatest}

-- a price counts exactly if there is power
priced_none : (mw price : ℕ) → price_with_power mw price ≡ None → mw ≡ 0
priced_none mw price e =
    elim (cases_lt 0 mw) [ inl lt ↦ let s = cond-true (ltb 0 mw) (Some price) None (lt-ltb 0 mw lt) in let z : ◌≡◌ {A = ℕ} 0 1 = cc in omega arith | inr le ↦ omega arith ]

pub priced_some : (mw price : ℕ) → 0 < mw → price_with_power mw price ≡ Some price
priced_some mw price lt = cond-true (ltb 0 mw) (Some price) None (lt-ltb 0 mw lt)

priced_is : (mw price p : ℕ) → price_with_power mw price ≡ Some p → (0 < mw) × (p ≡ price)
priced_is mw price p e =
    elim (cases_lt 0 mw) [
      | inl lt ↦ let s = priced_some mw price lt in (lt, cc)
      | inr le ↦ let s = cond-false (ltb 0 mw) (Some price) None (le-ltb 0 mw le) in let z : ◌≡◌ {A = ℕ} 0 1 = cc in absurd (omega arith)
    ]

words : (blocks : List Block) (level : ℕ) (r : Option ℕ) → Greatest (dispatched_price blocks level) (length blocks) r → Marginal blocks level r
words blocks level None g = λ k lt. priced_none (power blocks level k) (price_at blocks k) (g k lt)
words blocks level (Some p) g =
    let at = priced_is (power blocks level g.0.0) (price_at blocks g.0.0) p g.0.2 in
    record {
      place = g.0.0;
      within = g.0.1;
      dispatched = at.0;
      priced = at.1;
      highest_priced = λ k lt on. g.1 k lt (price_at blocks k) (priced_some (power blocks level k) (price_at blocks k) on);
    }

-- the marginal price in words
pub marginal_words : (blocks : List Block) (level : ℕ) (r : Option ℕ) → r ≡ marginal blocks level → Marginal blocks level r
marginal_words blocks level r e =
    subst (Marginal blocks level) (sym e) (words blocks level (marginal blocks level) (highest_greatest (dispatched_price blocks level) (length blocks)))

-- a block list holds the blocks that it is made of
pub listed_block_list : (blocks : List Block) → length blocks ≤ 7 → listed (block_list blocks) ≡ blocks
unfolding block_list
listed_block_list blocks short =
    let few : min (length blocks) 7 ≡ length blocks = omega arith in
    ap (λ n. take n (map (λ k. get_or blocks k no_block) (range_with_len 0 7))) few
    ∙ take-map-range_with_len (λ k. get_or blocks k no_block) 0 7 (length blocks) short
    ∙ sym (fill_by_all (λ k. get_or blocks k no_block) blocks (length blocks) no_block refl (λ k lt. refl))

-- the blocks of a list with empty places behind them, up to 7
pub padded : (blocks : List Block) → length blocks ≤ 7 → blocks ++ drop (length blocks) (replicate 7 no_block) ≡ map (λ k. get_or blocks k no_block) (range_with_len 0 7)
padded blocks few =
    let behind = drop-replicate (length blocks) 7 no_block in
    let long : length (blocks ++ drop (length blocks) (replicate 7 no_block)) ≡ 7 = rw behind (rw (length-append, length-replicate) (omega arith)) in
    fill_by_all (λ k. get_or blocks k no_block) (blocks ++ drop (length blocks) (replicate 7 no_block)) 7 no_block long (λ k lt.
    elim (cases_lt k (length blocks)) [
      | inl within ↦ get_or_append_left blocks _ no_block k within
      | inr past ↦
          get_or-append_right blocks _ (length blocks) k no_block refl past
          ∙ get_or-drop (length blocks) (replicate 7 no_block) (k - length blocks) no_block
          ∙ get_or-replicate 7 (length blocks + (k - length blocks)) no_block no_block (omega arith)
          ∙ sym (get_or_past blocks k no_block past)
    ])
