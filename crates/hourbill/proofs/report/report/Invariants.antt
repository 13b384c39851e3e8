use Rattle.std.proofs.Common.{◌≡◌, ℕ, List, ◌+◌, ◌<◌, ◌++◌, length, get_or, string_bytes}
use Rattle.prices.specs.Setter.{minutes_set}
use Rattle.hourbill.specs.Report.{HeadLines, minutes_lines}
use Rattle.hourbill.proofs.report.report.Given as goal

abbrev pub invariant-loop-place : goal.invariant-loop-place
invariant-loop-place l =
    let m = l.hour.book.market in
    ((k : ℕ) → k < 64 → get_or l.count-items k 0 ≡ minutes_set m.schedule (k + 1))
    × (length l.count-items ≡ 64)
    × ((head : List ℕ) × HeadLines m head × (string_bytes l.text ≡ head ++ minutes_lines m.schedule l.place))
