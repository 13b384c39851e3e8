-- A list whose neighbours are in order is in order throughout. Assumes nothing.
use Rattle.std.proofs.Common.{◌≡◌, ℕ, zero, suc, ◌+◌, ◌-◌, ◌<◌, ◌≤◌, Bool, true, false, ◌&&◌, List, length, get_or, take, Decides, sym, refl, ap, ◌∙◌, subst, inl, inr, add-one, arith}
use Rattle.std.proofs.lemmas.Bool.{cases_eq, cases_Bool, both_ways, and_parts, and_from, ltb-true, lt-ltb}
use native.Mathlib.Numerals.{suc-eq-add-one}
use Rattle.std.proofs.lemmas.List.{take_all}
use Rattle.std.proofs.lemmas.List.Folds.{list_all_more}
use Rattle.std.specs.List.{list_all, IsAllAdjacentAnswer}
use Rattle.prices.specs.declared.block.Block.{Block}
use Rattle.prices.specs.declared.kind.Kind.{Kind}
use Rattle.prices.specs.declared.kind.Kind.TheVariants.{Generator, Import, Load, Export}
use Rattle.prices.specs.Block.{no_block, price_at}
use Rattle.prices.specs.Kind.{source}
use Rattle.margins.specs.Side.{StrictOrder, lower_first, higher_first}
use Rattle.margins.specs.Order.{every, next_in_order, ordered, InOrder, Rising, Falling, InKindsOrder}

-- a test of all elements by their places is the test of all elements
every_front : {A : Type 0} (p : A → Bool) (xs : List A) (d : A) (n : ℕ) → n ≤ length xs → every (λ k. p (get_or xs k d)) n ≡ list_all p (take n xs)
unfolding every
every_front p xs d zero le = refl
every_front p xs d (suc n) le =
    ap (λ b. b && p (get_or xs n d)) (every_front p xs d n (omega arith))
    ∙ sym (list_all_more p xs n d (omega arith))
    ∙ ap (λ m. list_all p (take m xs)) (sym (suc-eq-add-one n))

pub every_list : {A : Type 0} (p : A → Bool) (xs : List A) (d : A) → every (λ k. p (get_or xs k d)) (length xs) ≡ list_all p xs
every_list p xs d = every_front p xs d (length xs) (omega arith) ∙ ap (list_all p) (take_all (length xs) xs (omega arith))

-- what passes below n passes at each number below n
pub every_at : (p : ℕ → Bool) (n : ℕ) → every p n ≡ true → (k : ℕ) → k < n → p k ≡ true
unfolding every
every_at p zero all k lt = absurd (omega arith)
every_at p (suc n) all k lt =
    let parts = and_parts (every p n) (p n) all in
    elim (cases_eq k n) [ inl e ↦ ap p e ∙ parts.1 | inr ne ↦ every_at p n parts.0 k (omega arith) ]

pub every_from : (p : ℕ → Bool) (n : ℕ) → ((k : ℕ) → k < n → p k ≡ true) → every p n ≡ true
unfolding every
every_from p zero all = refl
every_from p (suc n) all = and_from _ _ (every_from p n (λ k lt. all k (omega arith))) (all n (omega arith))

-- one that fails below n
pub every_not : (p : ℕ → Bool) (n k : ℕ) → k < n → p k ≡ false → every p n ≡ false
every_not p n k lt fails =
    elim (cases_Bool (every p n)) [ inl t ↦ absurd (both_ways (p k) fails (every_at p n t k lt)) | inr f ↦ f ]

-- what was answered about each two neighbours tells whether the prices are in order
pub order_answer : (precedes : ℕ → ℕ → Bool) (blocks : List Block) (r : Bool) → IsAllAdjacentAnswer (λ block next answer. answer ≡ precedes block.price next.price) blocks r → r ≡ ordered precedes blocks
unfolding ordered
order_answer precedes blocks true each =
    sym (every_from (next_in_order precedes blocks) (length blocks - 1) (λ k lt. sym (each k no_block (omega arith))))
order_answer precedes blocks false some =
    sym (every_not (next_in_order precedes blocks) (length blocks - 1) some.0 (omega (arith, some.1)) (sym (some.2 no_block)))

module _ (precedes : ℕ → ℕ → Bool) (strict : StrictOrder precedes) (blocks : List Block) where
  -- from each price to the next, to every later price
  spread : ((k : ℕ) → k < length blocks - 1 → next_in_order precedes blocks k ≡ true) → (j k : ℕ) → j < k → k < length blocks → precedes (price_at blocks j) (price_at blocks k) ≡ true
  spread each j zero lt within = absurd (omega arith)
  spread each j (suc k) lt within =
      let here : precedes (price_at blocks k) (price_at blocks (suc k)) ≡ true =
      subst (λ m. precedes (price_at blocks k) (price_at blocks m) ≡ true) (add-one k) (each k (omega arith)) in
      elim (cases_eq j k) [
        | inl e ↦ subst (λ m. precedes (price_at blocks m) (price_at blocks (suc k)) ≡ true) (sym e) here
        | inr ne ↦ strict.transitive _ _ _ (spread each j k (omega arith) (omega arith)) here
      ]

  pub order_words : (r : Bool) → r ≡ ordered precedes blocks → Decides r (InOrder precedes blocks)
  unfolding ordered
  order_words r e = (
    λ t. spread (every_at (next_in_order precedes blocks) (length blocks - 1) (sym e ∙ t)),
    λ all. e ∙ every_from (next_in_order precedes blocks) (length blocks - 1) (λ k lt. all k (k + 1) (omega arith) (omega arith)),
  )

-- tests of the numbers turned into facts
decides_rising : (blocks : List Block) (r : Bool) → Decides r (InOrder lower_first blocks) → Decides r (Rising blocks)
decides_rising blocks r d = (λ t j k lt within. ltb-true _ _ (d.0 t j k lt within), λ all. d.1 (λ j k lt within. lt-ltb _ _ (all j k lt within)))

decides_falling : (blocks : List Block) (r : Bool) → Decides r (InOrder higher_first blocks) → Decides r (Falling blocks)
decides_falling blocks r d = (λ t j k lt within. ltb-true _ _ (d.0 t j k lt within), λ all. d.1 (λ j k lt within. lt-ltb _ _ (all j k lt within)))

false_true : {A : Type 0} → ◌≡◌ {A = Bool} false true → A
false_true e = absurd (both_ways false refl e)

-- a source's list by the order of offers
pub offers_words : (kind : Kind) (blocks : List Block) (r : Bool) → source kind ≡ true → Decides r (InOrder lower_first blocks) → InKindsOrder kind blocks r
offers_words Generator blocks r s d = record { offers = λ _. decides_rising blocks r d; bids = λ e. false_true e }
offers_words Import blocks r s d = record { offers = λ _. decides_rising blocks r d; bids = λ e. false_true e }
offers_words Load blocks r s d = false_true s
offers_words Export blocks r s d = false_true s

-- a sink's list by the order of bids
pub bids_words : (kind : Kind) (blocks : List Block) (r : Bool) → source kind ≡ false → Decides r (InOrder higher_first blocks) → InKindsOrder kind blocks r
bids_words Generator blocks r s d = false_true (sym s)
bids_words Import blocks r s d = false_true (sym s)
bids_words Load blocks r s d = record { offers = λ e. false_true e; bids = λ _. decides_falling blocks r d }
bids_words Export blocks r s d = record { offers = λ e. false_true e; bids = λ _. decides_falling blocks r d }
