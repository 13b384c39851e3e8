-- What holds of sums, maxima and first places over the numbers below a bound. Assumes nothing.
use Rattle.std.proofs.Common.{◌≡◌, ℕ, zero, suc, ◌+◌, ◌-◌, ◌/◌, ◌<◌, ◌≤◌, max, Bool, true, false, cond, ltb, List, [], ◌∷◌, length, get_or, map, take, sum, Some, None, Option, sym, refl, ap, ◌∙◌, subst, inl, inr, suc-add, zero-add, sub-add_cancel, add-one, arith}
use native.Mathlib.Numerals.{suc-eq-add-one}
use denote.Param.Members.{Mut}
use Rattle.std.specs.Fn.{Called}
use Rattle.std.specs.Iterator.{Drains}
use Rattle.std.specs.Iterator.Adapters.{map_source, map_callee, map_steps}
use Rattle.std.specs.declared.iter.Map.{Map}
use Rattle.std.specs.declared.ops.Range.{Range}
use Rattle.std.proofs.iter.Yields.{nat_range_steps}
use Rattle.std.proofs.lemmas.Iterator.{YieldsList, YieldsList-from_map, items_from_drains}
use Rattle.std.proofs.lemmas.Iterator.Adapters.{YieldsAtMost, fits_from_length}
use Rattle.std.specs.Iterator.Runs.{WholeRun}
use Rattle.std.specs.List.{sum_by, position, position_or_len, fold, reduce, filter_map, cons_option, range_with_len}
use Rattle.std.proofs.lemmas.Bool.{cases_eq, cases_lt, cond-true, cond-false, lt-ltb, le-ltb}
use Rattle.std.proofs.lemmas.List.{map-id, take_all}
use Rattle.std.proofs.lemmas.List.Sums.{sum_by_more, position_or_len_is}
use Rattle.std.proofs.lemmas.List.FromFn.{sum_by-map-range_with_len_more}
use Rattle.prices.specs.Range.{total, higher, highest, earlier, first_place}

-- what holds below n and at n holds below the next number
pub below_next : (P : ℕ → Type 0) (n : ℕ) → ((k : ℕ) → k < n → P k) → P n → (k : ℕ) → k < suc n → P k
below_next P n below here k lt =
    elim (cases_eq k n) [ inl e ↦ subst P (sym e) here | inr ne ↦ below k (omega arith) ]

pub total_more : (f : ℕ → ℕ) (n : ℕ) → total f (n + 1) ≡ total f n + f n
unfolding total
total_more f n = rw add-one refl

pub total_none : (f : ℕ → ℕ) → total f 0 ≡ 0
unfolding total
total_none f = refl

pub highest_more : (f : ℕ → Option ℕ) (n : ℕ) → highest f (n + 1) ≡ higher (highest f n) (f n)
unfolding highest
highest_more f n = rw add-one refl

pub highest_none : (f : ℕ → Option ℕ) → highest f 0 ≡ None
unfolding highest
highest_none f = refl

pub first_place_more : (p : ℕ → Bool) (n : ℕ) → first_place p (n + 1) ≡ earlier (first_place p n) (cond (p n) (Some n) None)
unfolding first_place
first_place_more p n = rw add-one refl

pub first_place_none : (p : ℕ → Bool) → first_place p 0 ≡ None
unfolding first_place
first_place_none p = refl

-- the greatest of the figures that are there, or that none is there
abbrev pub Greatest : (ℕ → Option ℕ) → ℕ → Option ℕ → Type 0
Greatest f n None = (k : ℕ) → k < n → f k ≡ None
Greatest f n (Some p) = ((k : ℕ) × (k < n) × (f k ≡ Some p)) × ((k : ℕ) → k < n → (q : ℕ) → f k ≡ Some q → q ≤ p)

some_none : {q : ℕ} {A : Type 0} {x : Option ℕ} → x ≡ None → x ≡ Some q → A
some_none e s = let z : ◌≡◌ {A = ℕ} 0 1 = cc in absurd (omega arith)

greatest_next : (f : ℕ → Option ℕ) (n : ℕ) (h x : Option ℕ) → f n ≡ x → Greatest f n h → Greatest f (suc n) (higher h x)
greatest_next f n None None e g = below_next (λ k. f k ≡ None) n g e
greatest_next f n None (Some y) e g = (
  (n, omega arith, e),
  below_next (λ k. (q : ℕ) → f k ≡ Some q → q ≤ y) n (λ k lt q s. some_none (g k lt) s) (λ q s. let i : q ≡ y = cc in omega arith),
)
greatest_next f n (Some p) None e g = (
  (g.0.0, omega (arith, g.0.1), g.0.2),
  below_next (λ k. (q : ℕ) → f k ≡ Some q → q ≤ p) n g.1 (λ q s. some_none e s),
)
greatest_next f n (Some p) (Some y) e g =
    (elim (cases_lt p y) [ inl lt ↦ (n, omega arith, e ∙ ap Some (omega arith)) | inr ge ↦ (g.0.0, omega (arith, g.0.1), g.0.2 ∙ ap Some (omega arith)) ], below_next (λ k. (q : ℕ) → f k ≡ Some q → q ≤ max p y) n (λ k lt q s. omega (arith, g.1 k lt q s)) (λ q s. let i : q ≡ y = cc in omega arith))

pub highest_greatest : (f : ℕ → Option ℕ) (n : ℕ) → Greatest f n (highest f n)
unfolding highest
highest_greatest f zero = λ k lt. absurd (omega arith)
highest_greatest f (suc n) = greatest_next f n (highest f n) (f n) refl (highest_greatest f n)

-- the first place that passes, before which none does, or that none passes
abbrev pub Least : (ℕ → Bool) → ℕ → Option ℕ → Type 0
Least p n None = (k : ℕ) → k < n → p k ≡ false
Least p n (Some m) = (m < n) × (p m ≡ true) × ((k : ℕ) → k < m → p k ≡ false)

least_next : (p : ℕ → Bool) (n : ℕ) (h : Option ℕ) (b : Bool) → p n ≡ b → Least p n h → Least p (suc n) (earlier h (cond b (Some n) None))
least_next p n None true e l = (omega arith, e, l)
least_next p n None false e l = below_next (λ k. p k ≡ false) n l e
least_next p n (Some m) b e l = (omega (arith, l.0), l.1, l.2)

pub first_place_least : (p : ℕ → Bool) (n : ℕ) → Least p n (first_place p n)
unfolding first_place
first_place_least p zero = λ k lt. absurd (omega arith)
first_place_least p (suc n) = least_next p n (first_place p n) (p n) refl (first_place_least p n)

-- a place that is found stays found
pub first_place_stays : (p : ℕ → Bool) (n m k : ℕ) → first_place p n ≡ Some k → first_place p (m + n) ≡ Some k
unfolding first_place
first_place_stays p n zero k e = rw zero-add e
first_place_stays p n (suc m) k e = rw (suc-add, first_place_stays p n m k e)

-- the first place that passes among n is the first among all
pub first_place_found : (p : ℕ → Bool) (n k : ℕ) → k < n → first_place p k ≡ None → p k ≡ true → Some k ≡ first_place p n
first_place_found p n k lt none here =
    let at : first_place p (k + 1) ≡ Some k = first_place_more p k ∙ ap (λ x. earlier x (cond (p k) (Some k) None)) none ∙ cond-true (p k) (Some k) None here in
    sym (subst (λ m. first_place p m ≡ Some k) (sub-add_cancel lt') (first_place_stays p (k + 1) (n - (k + 1)) k at))
  where
    lt' : k + 1 ≤ n
    lt' = omega arith

pub first_place_not : (p : ℕ → Bool) (k : ℕ) → first_place p k ≡ None → p k ≡ false → first_place p (k + 1) ≡ None
first_place_not p k none here =
    first_place_more p k ∙ ap (λ x. earlier x (cond (p k) (Some k) None)) none ∙ cond-false (p k) (Some k) None here

-- equal figures have equal sums
pub total_same : (f g : ℕ → ℕ) (n : ℕ) → ((k : ℕ) → k < n → f k ≡ g k) → total f n ≡ total g n
unfolding total
total_same f g zero same = refl
total_same f g (suc n) same =
    let before = total_same f g n (λ k lt. same k (omega arith)) in
    let here = same n (omega arith) in
    cc

-- a sum over the places of a list is the sum over its elements
total_of_front : {A : Type 0} (f : A → ℕ) (xs : List A) (d : A) (n : ℕ) → n ≤ length xs → total (λ k. f (get_or xs k d)) n ≡ sum_by f (take n xs)
unfolding total
total_of_front f xs d zero le = refl
total_of_front f xs d (suc n) le =
    ap (λ t. t + f (get_or xs n d)) (total_of_front f xs d n (omega arith))
    ∙ sym (sum_by_more f xs n d (omega arith))
    ∙ ap (λ m. sum_by f (take m xs)) (sym (suc-eq-add-one n))

pub total_of_list : {A : Type 0} (f : A → ℕ) (xs : List A) (d : A) → total (λ k. f (get_or xs k d)) (length xs) ≡ sum_by f xs
total_of_list f xs d = total_of_front f xs d (length xs) (omega arith) ∙ ap (sum_by f) (take_all (length xs) xs (omega arith))

-- the first place of a list that passes is the position of its first element that does
position_of_least : {A : Type 0} (p : A → Bool) (xs : List A) (d : A) (r : Option ℕ) → Least (λ k. p (get_or xs k d)) (length xs) r → r ≡ position p xs
position_of_least p xs d None l =
    let past : position_or_len p xs ≡ length xs = position_or_len_is p xs (length xs) d (omega arith) l (λ lt. absurd (omega arith)) in
    sym (cond-false (ltb (position_or_len p xs) (length xs)) (Some (position_or_len p xs)) None (le-ltb _ _ (omega arith)))
position_of_least p xs d (Some m) l =
    let at : position_or_len p xs ≡ m = position_or_len_is p xs m d (omega (arith, l.0)) l.2 (λ _. l.1) in
    sym (ap (λ i. cond (ltb i (length xs)) (Some i) None) at ∙ cond-true (ltb m (length xs)) (Some m) None (lt-ltb m (length xs) l.0))

pub first_place_of_list : {A : Type 0} (p : A → Bool) (xs : List A) (d : A) → first_place (λ k. p (get_or xs k d)) (length xs) ≡ position p xs
first_place_of_list p xs d = position_of_least p xs d _ (first_place_least (λ k. p (get_or xs k d)) (length xs))

-- the highest figure over the places of a list is the greatest of those that its elements give
higher_none : (x : Option ℕ) → higher x None ≡ x
higher_none None = refl
higher_none (Some x) = refl

higher_assoc : (x y z : Option ℕ) → higher (higher x y) z ≡ higher x (higher y z)
higher_assoc None y z = refl
higher_assoc (Some x) None z = refl
higher_assoc (Some x) (Some y) None = refl
higher_assoc (Some x) (Some y) (Some z) = ap Some (omega arith)

highest_front : (f : ℕ → Option ℕ) (n : ℕ) → highest f (suc n) ≡ higher (f 0) (highest (λ k. f (suc k)) n)
unfolding highest
highest_front f zero = sym (higher_none (f 0))
highest_front f (suc n) = ap (λ h. higher h (f (suc n))) (highest_front f n) ∙ higher_assoc (f 0) (highest (λ k. f (suc k)) n) (f (suc n))

max_over : (x y : ℕ) (ys : List ℕ) → max x (fold max y ys) ≡ fold max (max x y) ys
max_over x y [] = refl
max_over x y (z ∷ zs) = max_over x (max y z) zs ∙ ap (λ m. fold max m zs) (omega arith)

higher_reduce : (x : Option ℕ) (ys : List ℕ) → higher x (reduce max ys) ≡ reduce max (cons_option x ys)
higher_reduce None ys = refl
higher_reduce (Some x) [] = refl
higher_reduce (Some x) (y ∷ ys) = ap Some (max_over x y ys)

pub highest_of_list : {A : Type 0} (f : A → Option ℕ) (xs : List A) (d : A) → highest (λ k. f (get_or xs k d)) (length xs) ≡ reduce max (filter_map f xs)
highest_of_list f [] d = highest_none (λ k. f d)
highest_of_list f (x ∷ xs) d =
    highest_front (λ k. f (get_or (x ∷ xs) k d)) (length xs)
    ∙ ap (higher (f x)) (highest_of_list f xs d)
    ∙ higher_reduce (f x) (filter_map f xs)

-- a sum over the numbers below a bound
pub sum_below : (f : ℕ → ℕ) (n : ℕ) → sum (map f (range_with_len 0 n)) ≡ total f n
unfolding total
sum_below f zero = refl
sum_below f (suc n) =
    ap (λ k. sum (map f (range_with_len 0 k))) (sym (add-one n)) ∙ sum_by-map-range_with_len_more (λ x. x) f 0 n n (omega arith) ∙ ap (λ s. s + f n) (sum_below f n)

-- what a sum over a mapped range of numbers gives
pub sum_of_range : {F : Type 0} {g : Mut F (ℕ × Unit {0}) ℕ} {s : Map (Range ℕ) F} (h : ℕ → ℕ) (f : F) (n r : ℕ) →
    (xs : List ℕ) × (Unit {0} → Drains (map_steps nat_range_steps g) s xs) × (r ≡ fold (λ a x. a + x) 0 xs) →
    YieldsList nat_range_steps (λ x. x) (map_source s) (range_with_len 0 n) → map_callee s ≡ f →
    ((x y : ℕ) (q : F) → Called g f (x, tt) y q → (q ≡ f) × (y ≡ h x)) → r ≡ total h n
sum_of_range {F} {g} {s} h f n r ran road callee calls =
    let drained = ran.1 tt in
    let items : map (λ x. x) ran.0 ≡ map h (range_with_len 0 n) =
    items_from_drains ran.0 (drained.1.0, drained.1.1, λ _. (drained.0, drained.1.2)) (YieldsList-from_map g h road callee calls) in
    ran.2 ∙ ap sum (sym (map-id ran.0) ∙ items) ∙ sum_below h n

-- a sum after a map stays below what its length and its greatest result allow
pub sum_stays_below : {S A F : Type 0} {steps : S → Option A → S → Type 0} {s : Map S F} (g : Mut F (A × Unit {0}) ℕ) (f : F) (n top r : ℕ) →
    YieldsAtMost steps (map_source s) n → map_callee s ≡ f → 0 < top → ((x : A) (y : ℕ) (q : F) → Called g f (x, tt) y q → (q ≡ f) × (y ≤ (top - 1) / n)) →
    (Unit {0} → WholeRun (map_steps steps g) s (λ p. r ≡ fold (λ a x. a + x) 0 p.items)) → r < top
sum_stays_below g f n top r few callee some calls runs =
    let run = runs tt in
    let below = fits_from_length g f n top few callee some calls run.0 run.0.seen run.1 in
    omega (arith, below, run.3)
