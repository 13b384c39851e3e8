-- The keys of an hour file: how they are written and in which order their lines come. Assumes nothing.
use Rattle.std.specs.Prelude.{ℕ, Bool, ◌&&◌, List, Some, None, codes, Option, ◌==◌, nat_le, nat_lt}
use Rattle.hourbill.specs.declared.key.Key.{Key}
use Rattle.hourbill.specs.declared.key.Key.TheVariants.{Hour, Asset, Offer, Order, Shed}

-- the key as a line has it, before the equals sign
abbrev pub written : Key → List ℕ
written Hour = codes "hour"
written Asset = codes "asset"
written Offer = codes "offer"
written Order = codes "order"
written Shed = codes "shed"

-- place of the key's lines in the file, counted from 0
abbrev pub rank : Key → ℕ
rank Hour = 0
rank Asset = 1
rank Offer = 2
rank Order = 3
rank Shed = 4

-- the first line is the hour's, and later lines are of the same key as the one before or of a later one
abbrev pub follows : Option Key → Key → Bool
follows None key = rank key == 0
follows (Some previous) key = nat_lt 0 (rank key) && nat_le (rank previous) (rank key)
