use Rattle.std.proofs.Common.{◌≡◌, ◌∷◌, [], ◌++◌, MatchBool}
use Rattle.std.specs.List.{flat_map}
use Rattle.std.specs.Str.Iter.{split_text, split_has_more, split_pattern}
use Rattle.hourbill.specs.Line.{block_text}
use Rattle.hourbill.proofs.field.blocks.Given as goal

abbrev pub invariant-loop-part : goal.invariant-loop-part
invariant-loop-part l =
    let lead = flat_map (λ block. block_text block ++ (44 ∷ [])) l.list.items in
    (split_pattern l.part-iterator ≡ 44)
    × MatchBool (split_has_more l.part-iterator) (l.text ≡ lead ++ split_text l.part-iterator) (l.text ++ (44 ∷ []) ≡ lead)
