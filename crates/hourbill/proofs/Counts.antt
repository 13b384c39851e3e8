-- The counts of a tally, place by place. Assumes nothing.
use Rattle.std.proofs.Common.{◌≡◌, ℕ, ◌+◌, ◌<◌, List, ◌++◌, cond, drop, length, get_or, nat_lt, refl, sym, ap, ◌∙◌, arith, zero-add, add-one}
use Rattle.std.proofs.lemmas.List.{append_assoc}
use Rattle.std.proofs.Math.ListN.{get_or-append}
use Rattle.std.proofs.lemmas.List.FromFn.{length-map-range_with_len, get_or-map-range_with_len}
use Rattle.prices.specs.declared.schedule.Schedule.{Schedule}
use Rattle.prices.specs.Setter.{minutes_set}
use Rattle.hour.specs.Table.{table}
use Rattle.hourbill.specs.Report.{minutes_line, minutes_lines}

count_at : (f : ℕ → ℕ) (rest : List ℕ) (n k : ℕ) → k < n → get_or (table f n ++ rest) k 0 ≡ f k
unfolding table
count_at f rest n k within =
    let long : length (table f n) ≡ n = length-map-range_with_len f 0 n in
    let inside : k < length (table f n) = omega (arith, long) in
    get_or-append (table f n) rest 0 k inside ∙ get_or-map-range_with_len f 0 n k k 0 within (zero-add k)

pub tallied : (f : ℕ → ℕ) (before after : List ℕ) → length before ≡ 64 → after ≡ cond (nat_lt (length before) 64) before (table f 64 ++ drop 64 before) → (k : ℕ) → k < 64 → get_or after k 0 ≡ f k
tallied f before after room said k within =
    ap (λ t. get_or t k 0) (said ∙ ap (λ n. cond (nat_lt n 64) before (table f 64 ++ drop 64 before)) room)
    ∙ count_at f (drop 64 before) 64 k within

-- a print with the line of one asset more
pub line_more : (s : Schedule) (n count : ℕ) (head text added new : List ℕ) → count ≡ minutes_set s (n + 1) → text ≡ head ++ minutes_lines s n → added ≡ minutes_line (n + 1) count → new ≡ text ++ added →
    new ≡ head ++ minutes_lines s (n + 1)
line_more s n count head text added new counted so_far line whole =
    let more : minutes_lines s (n + 1) ≡ minutes_lines s n ++ minutes_line (n + 1) (minutes_set s (n + 1)) = rw add-one refl in
    whole
    ∙ ap (λ t. t ++ added) so_far
    ∙ ap (λ t. (head ++ minutes_lines s n) ++ t) (line ∙ ap (λ k. minutes_line (n + 1) k) counted)
    ∙ append_assoc head (minutes_lines s n) (minutes_line (n + 1) (minutes_set s (n + 1)))
    ∙ ap (λ t. head ++ t) (sym more)
