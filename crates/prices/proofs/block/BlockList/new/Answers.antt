use Rattle.std.proofs.Common.{◌≡◌, ◌≤◌, ◌&&◌, ◌++◌, leb, length, drop, replicate, Some, None, sym, ap, ◌∙◌, rules}
use Rattle.std.proofs.lemmas.Bool.{cond-true, and_from, le-leb}
use Rattle.prices.specs.Block.{no_block, block_list}
use Rattle.prices.proofs.Filling.{padded}
use Rattle.prices.proofs.block.BlockList.new.Goals as goal

pub returns-clause-value : goal.returns-clause-value
unfolding block_list
returns-clause-value c =
    let blocks = c.args.blocks.now in
    let low : 1 ≤ length blocks = search rules in
    let high : length blocks ≤ 7 = search rules in
    let blank : c.default-held.result ≡ no_block = search rules in
    let copied : c.copy_from_slice.new.self ≡ blocks = search rules in
    ap (λ held. Some (record { blocks = held; count = length blocks })) (ap (λ xs. xs ++ drop (length blocks) (replicate 7 c.default-held.result)) copied ∙ ap (λ b. blocks ++ drop (length blocks) (replicate 7 b)) blank ∙ padded blocks high)
    ∙ sym (cond-true (leb 1 (length blocks) && leb (length blocks) 7) (Some (block_list blocks)) None (and_from _ _ (le-leb 1 _ low) (le-leb _ 7 high)))
