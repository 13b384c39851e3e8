-- A span of the minutes of an hour that is written over with one value. Assumes nothing.
use Rattle.std.proofs.Common.{◌≡◌, ℕ, ◌-◌, ◌<◌, ◌≤◌, Bool, true, false, List, length, replicate, ap, ◌∙◌, rules, arith}
use borrow.Rule.Slice.PartMut.{put_mid}
use Rattle.std.proofs.lemmas.List.{places}
use Rattle.std.proofs.lemmas.Bool.Decides.{nat_tests}
use Rattle.hour.specs.Minute.{levels_from, marks_between}
use Rattle.hour.proofs.Tables.{table_all}

pub levels_written : (levels span : List ℕ) (minute level : ℕ) → length levels ≡ 60 → minute ≤ 59 → span ≡ replicate (60 - minute) level → put_mid minute (60 - minute) levels span ≡ levels_from levels minute level
levels_written levels span minute level len small written =
    ap (put_mid minute (60 - minute) levels) written ∙ table_all _ _ 60 0 (search (rules, places)) (λ k lt. grind (arith, places, nat_tests))

pub marks_written : (marks span : List Bool) (first end : ℕ) → length marks ≡ 60 → first < end → end ≤ 60 → span ≡ replicate (end - first) true → put_mid first (end - first) marks span ≡ marks_between marks first end
marks_written marks span first end len rising small written =
    ap (put_mid first (end - first) marks) written ∙ table_all _ _ 60 false (search (rules, places)) (λ k lt. grind (arith, places, nat_tests))
