-- Levels and marks by minute, and how an order and a shed span change them. Assumes nothing.
use Rattle.std.specs.Prelude.{ℕ, Bool, false, cond, ◌&&◌, ◌||◌, List, nat_le, nat_lt, slice_index, slice_index_or}
use Rattle.hour.specs.Table.{table}

-- level of a minute once another level stands from a minute on
abbrev pub level_from : List ℕ → ℕ → ℕ → ℕ → ℕ
level_from levels minute level m = cond (nat_lt m minute) (slice_index levels m) level

-- the levels of the hour once another level stands from a minute on
abbrev pub levels_from : List ℕ → ℕ → ℕ → List ℕ
levels_from levels minute level = table (level_from levels minute level) 60

-- mark of a minute once the minutes from first to end - 1 are marked too
abbrev pub mark_between : List Bool → ℕ → ℕ → ℕ → Bool
mark_between marks first end m = slice_index_or marks m false || (nat_le first m && nat_lt m end)

-- the marks of the hour once those minutes are marked
abbrev pub marks_between : List Bool → ℕ → ℕ → List Bool
marks_between marks first end = table (mark_between marks first end) 60
