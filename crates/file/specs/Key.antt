-- The keys of a file, how they are written, and the order of their lines. Assumes nothing.
use Rattle.std.specs.Prelude.{◌≡◌, ℕ, ◌+◌, Bool, true, ◌&&◌, List, length, Some, None, codes, Option, ◌==◌, nat_le, nat_lt}
use Rattle.file.specs.Place.{Stands}
use Rattle.file.specs.declared.key.Key.{Key}
use Rattle.file.specs.declared.key.Key.TheVariants.{Hour, Asset, Offer, Order, Shed, Meter, Instruct, Rule}

-- a key with its equals sign
abbrev pub key_text : Key → List ℕ
key_text Hour = codes "hour="
key_text Asset = codes "asset="
key_text Offer = codes "offer="
key_text Order = codes "order="
key_text Shed = codes "shed="
key_text Meter = codes "meter="
key_text Instruct = codes "instruct="
key_text Rule = codes "rule="

-- the place of a key in the order of lines
abbrev pub order_of : Key → ℕ
order_of Hour = 0
order_of Asset = 1
order_of Offer = 2
order_of Order = 3
order_of Shed = 4
order_of Meter = 5
order_of Instruct = 6
order_of Rule = 7

-- the first line is an hour line; after any other line but that of the rule comes its key or a later one, and no second hour line
abbrev pub follows : Option Key → Key → Bool
follows None key = order_of key == 0
follows (Some last) key = nat_lt (order_of last) 7 && (nat_lt 0 (order_of key) && nat_le (order_of last) (order_of key))

-- an allowed key stands at a place
pub record FoundKey (file : List ℕ) (start : ℕ) (last : Option Key) (key : Key) : Type 0 where
  pub allowed : follows last key ≡ true
  pub stands : Stands file start (start + length (key_text key)) (key_text key)

-- no allowed key stands at a place
abbrev pub NoKey : List ℕ → ℕ → Option Key → Type 0
NoKey file start last = (key : Key) → FoundKey file start last key → ⊥
