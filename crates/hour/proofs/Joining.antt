-- Instructions that are not free join an enrolled source and an enrolled sink. Assumes nothing.
use Rattle.std.proofs.Common.{◌≡◌, ℕ, ◌-◌, ◌≤◌, true, false, leb, List, get_or, None, Option, unwrap_or, refl, arith}
use Rattle.std.proofs.lemmas.Bool.{not-false, and_parts, and_from, leb-true}
use Rattle.std.proofs.lemmas.Bool.Decides.{nat_tests}
use Rattle.prices.specs.declared.asset.Asset.{Asset}
use Rattle.hour.specs.declared.book.Book.{Book}
use Rattle.hour.specs.declared.instruction.Terms.{Terms}
use Rattle.hour.specs.declared.instruction.Instruction.{Instruction}
use Rattle.hour.specs.declared.instruction.Instruction.TheVariants.{Free, Proposed, Matched}
use Rattle.hour.specs.declared.instruction.Event.TheVariants.{Propose, Confirm, Withdraw}
use Rattle.hour.specs.Reason.{outside}
use Rattle.hour.specs.Instruction.{next_stage}
use Rattle.hour.specs.Book.{is_source, is_sink, joined_by, joins, terms, propose_reasons}
use Rattle.hour.proofs.Outcomes.{NoneFits}

-- what terms that join say
pub record JoinedParts (assets : List (Option Asset)) (t : Terms) : Type 0 where
  pub source : is_source (get_or assets (t.source - 1) None) ≡ true
  pub sink : is_sink (get_or assets (t.sink - 1) None) ≡ true
  pub from : 1 ≤ t.source
  pub to : 1 ≤ t.sink
  pub small : t.kwh ≤ 1000000

pub joined_parts : (assets : List (Option Asset)) (t : Terms) → joined_by assets t ≡ true → JoinedParts assets t
joined_parts assets t e =
    let p = and_parts _ _ e in
    let q = and_parts _ _ p.0 in
    let r = and_parts _ _ q.0 in
    let s = and_parts _ _ r.0 in
    record { source = s.0; sink = s.1; from = leb-true 1 _ r.1; to = leb-true 1 _ q.1; small = leb-true _ 1000000 p.1 }

least : (low high number : ℕ) → outside low high number ≡ false → leb low number ≡ true
least low high number inside = grind (arith, nat_tests)

most : (low high number : ℕ) → outside low high number ≡ false → leb number high ≡ true
most low high number inside = grind (arith, nat_tests)

-- an accepted proposal joins
pub proposed_joins : (b : Book) (number source sink kwh : ℕ) → NoneFits (propose_reasons b number source sink kwh) → joined_by b.market.schedule.assets (terms source sink kwh) ≡ true
proposed_joins b number source sink kwh none =
    and_from _ _
    (and_from _ _ (and_from _ _ (not-false _ none.1.1.1.1.1.1.1.0) (least 1 64 source none.1.1.0)) (least 1 64 sink none.1.1.1.0))
    (most 1 1000000 kwh none.1.1.1.1.1.1.0)

-- an instruction that is proposed with terms that join
pub proposed_if : (assets : List (Option Asset)) (i : Instruction) (t : Terms) → joined_by assets t ≡ true → joins assets (unwrap_or (next_stage i (Propose t)) Free) ≡ true
proposed_if assets Free t e = e
proposed_if assets (Proposed u) t e = refl
proposed_if assets (Matched u) t e = refl

-- a confirmed instruction joins what it joined
pub still_joined : (assets : List (Option Asset)) (i : Instruction) → joins assets i ≡ true → joins assets (unwrap_or (next_stage i Confirm) Free) ≡ true
still_joined assets Free e = refl
still_joined assets (Proposed t) e = e
still_joined assets (Matched t) e = refl

-- a withdrawn instruction is free
pub freed : (i : Instruction) → unwrap_or (next_stage i Withdraw) Free ≡ Free
freed Free = refl
freed (Proposed t) = refl
freed (Matched t) = refl
