use Rattle.std.proofs.Common.{◌≡◌, ℕ, zero, suc, ◌+◌, ◌-◌, ◌<◌, Bool, true, false, Some, None, Option, sym, refl, ap, ◌∙◌, arith, rules}
use borrow.Author.Tests.{tests}
use Rattle.std.specs.List.{range_with_len, find}
use Rattle.std.specs.Option.{option_map}
use Rattle.std.specs.Iterator.{AlwaysYields}
use Rattle.std.specs.Range.{range_inclusive_start, range_inclusive_end, range_inclusive_exhausted, range_inclusive_len, range_inclusive_left, range_inclusive_steps}
use Rattle.std.specs.declared.ops.RangeInclusive.{RangeInclusive}
use Rattle.std.proofs.lemmas.Iterator.{YieldsList}
use Rattle.std.proofs.lemmas.Iterator.Search.{find_from_yields_List}
use Rattle.prices.specs.Range.{first_place}
use Rattle.hour.specs.Run.{unread, first_unread}
use Rattle.hour.proofs.Places.{find_from}
use Rattle.hour.proofs.figure.unread_asset.Goals as goal

-- the steps of a range that ends with its last number, and how many numbers it has left
abbrev steps : RangeInclusive ℕ → Option ℕ → RangeInclusive ℕ → Type 0
steps = range_inclusive_steps (λ x y. y - x) (λ x y. y ≡ x + 1)

abbrev left : RangeInclusive ℕ → ℕ
left s = range_inclusive_left (λ x y. y - x) s

fresh : (s : RangeInclusive ℕ) → range_inclusive_exhausted s ≡ false → left s ≡ range_inclusive_end s + 1 - range_inclusive_start s
fresh s z = omega (arith, ap (range_inclusive_len (λ x y. y - x) (range_inclusive_start s) (range_inclusive_end s)) z)

spent : (s : RangeInclusive ℕ) → range_inclusive_exhausted s ≡ true → left s ≡ 0
spent s z = ap (range_inclusive_len (λ x y. y - x) (range_inclusive_start s) (range_inclusive_end s)) z

-- such a range gives the numbers that it has left
gives : (n a : ℕ) (s : RangeInclusive ℕ) → left s ≡ n → (0 < n → range_inclusive_start s ≡ a) → AlwaysYields steps (λ x. x) s (range_with_len a n)
gives zero a s e f = λ x j q. omega (arith, e, q.1.1)
gives (suc n) a s e f = (λ j q. omega (arith, e, q.1.0), λ x j q. (q.1.0 ∙ f (omega arith), gives n (a + 1) j (omega (arith, e, q.1.1)) (λ lt. later j (omega (arith, e, q.1.1)) lt q.1.2 (f (omega arith)))))
  where
    later : (j : RangeInclusive ℕ) → left j ≡ n → 0 < n → (range_inclusive_exhausted j ≡ false → range_inclusive_start j ≡ range_inclusive_start s + 1) → range_inclusive_start s ≡ a → range_inclusive_start j ≡ a + 1
    later j l lt next same = by (range_inclusive_exhausted j) refl
      where
        by : (b : Bool) → range_inclusive_exhausted j ≡ b → range_inclusive_start j ≡ a + 1
        by true z = absurd (omega (arith, spent j z, l, lt))
        by false z = next z ∙ ap (λ k. k + 1) same

next : (k : ℕ) → 1 + k ≡ suc k
next k = omega arith

before : (k : ℕ) → 1 + k - 1 ≡ k
before k = omega arith

as_it_is : (o : Option ℕ) → option_map (λ k. k) o ≡ o
as_it_is None = refl
as_it_is (Some k) = refl

pub returns : goal.returns
unfolding first_unread
returns c =
    let m = c.args.market.now in
    let p = λ (a : ℕ). unread m (a - 1) in
    let all : left c.new.result ≡ 64 = omega (arith, fresh c.new.result c.new.ensures.exhausted, c.new.ensures.start, c.new.ensures.end) in
    let yields : YieldsList steps (λ x. x) c.new.result (range_with_len 1 64) = record { runs = gives 64 1 c.new.result all (λ _. c.new.ensures.start) } in
    let found : option_map (λ k. k) c.find.result ≡ find p (range_with_len 1 64) = find_from_yields_List p _ _ c.find.result c.find.ensures.ran yields (λ x b q k. search (rules, tests)) in
    sym (as_it_is c.find.result) ∙ found ∙ find_from p 1 64 ∙ (λ i. option_map (λ k. next k i) (first_place (λ k. unread m (before k i)) 64))
