-- The first byte of a rule's name tells which it is. Assumes nothing.
use Rattle.std.specs.Prelude.{◌≡◌, ℕ, ◌<◌, List, length, slice_index}
use Rattle.file.specs.Item.{rule_text}
use Rattle.file.specs.declared.item.RuleName.{RuleName}

-- no other name begins with the byte at a place
abbrev pub OnlyName : List ℕ → ℕ → RuleName → Type 0
OnlyName file start name = (other : RuleName) → start < length file → slice_index file start ≡ slice_index (rule_text other) 0 → other ≡ name
