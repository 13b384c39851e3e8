use Rattle.std.proofs.Common.{◌≡◌, ℕ, List, ◌++◌}
use Rattle.std.specs.Iterator.Adapters.{enumerate_source}
use Rattle.std.specs.Str.Iter.{split_inclusive_text}
use Rattle.hourbill.specs.Line.{Reads}
use Rattle.hourbill.proofs.reader.read_hour.Given as goal

abbrev pub invariant-loop-place : goal.invariant-loop-place
invariant-loop-place l =
    (read : List ℕ)
    × (l.text ≡ read ++ split_inclusive_text (enumerate_source l.place-iterator))
    × Reads read l.reader.previous l.reader.hour.market
