-- What makes shares fair, and that a lawful rule leaves fair shares. Assumes nothing.
use Rattle.std.specs.Prelude.{◌≡◌, ℕ, ◌<◌, List, ◌++◌, length, take, drop, Ok, Err, sum, Result, OnOk, slice_index}
use Rattle.std.proofs.Common.{⊎_elim, sym, ap, subst, ◌∙◌, arith}
use Rattle.std.proofs.lemmas.List.{get_or_past, take_at}
use Rattle.std.proofs.lemmas.List.Sums.{get_or-le-sum_by}
use Rattle.std.proofs.lemmas.Bool.{cases_lt}
use Rattle.splitting.specs.Rule.{Near, Fair, Lawful, Splits}
use Rattle.splitting.specs.Weights.{Accepted}
use Rattle.splitting.specs.declared.fault.Fault.{Fault}
use Rattle.splitting.specs.Reasons.{accepted_at, at_end}

all_nothing : (shares : List ℕ) → sum shares ≡ 0 → (place : ℕ) → slice_index shares place ≡ 0
all_nothing shares none place =
    ⊎_elim (λ h. omega (arith, get_or-le-sum_by (λ x. x) shares place 0 h)) (λ h. get_or_past shares place 0 h) (cases_lt place (length shares))

pub fair_from : (total : ℕ) (weights shares : List ℕ) → length shares ≡ length weights → sum shares ≡ total →
    (0 < sum weights → (place : ℕ) → place < length weights → Near total (slice_index weights place) (sum weights) (slice_index shares place)) →
    Fair total weights shares
fair_from total weights shares long adds close =
    record { one_each = long; adds_up = adds; near = close; nothing = λ none. all_nothing shares (omega arith) }

-- an accepted split by a lawful rule leaves fair shares
pub fair_at : (meaning : ℕ → List ℕ → List ℕ) → Lawful meaning → (total : ℕ) (weights before : List ℕ) (answer : Result (Unit {0}) Fault) (after : List ℕ) →
    Splits meaning total weights before answer after → OnOk answer (Fair total weights (take (length weights) after))
fair_at meaning law total weights before (Err _) after done = tt
fair_at meaning law total weights before (Ok y) after done =
    let ok : Accepted total weights = (accepted_at (length before) total weights tt y done.answers).0 in
    let fair : Fair total weights (meaning total weights) = law total weights ok in
    let written : after ≡ meaning total weights ++ drop (length weights) before =
    done.writes ∙ at_end (length before) total weights tt y (λ _. before) _ done.answers in
    let front : take (length weights) after ≡ meaning total weights =
    ap (take (length weights)) written ∙ take_at (meaning total weights) (drop (length weights) before) (length weights) fair.one_each in
    subst (Fair total weights) (sym front) fair
