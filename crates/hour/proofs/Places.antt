-- Chains over the numbers below a bound and over lists, in the words of counts and first places. Assumes nothing.
use Rattle.std.proofs.Common.{◌≡◌, ℕ, zero, suc, ◌+◌, ◌<◌, ◌≤◌, Bool, true, false, cond, ◌||◌, ltb, List, [], ◌∷◌, length, get_or, Some, None, Option, sym, refl, ap, ◌∙◌, subst, inl, inr, arith}
use denote.Param.Members.{Mut}
use Rattle.std.specs.Fn.{Called}
use Rattle.std.specs.Array.{IsFromFnResultFrom, IsFromFnResult}
use Rattle.std.specs.List.{range_with_len, find, list_any}
use Rattle.std.specs.Option.{option_map}
use Rattle.std.proofs.lemmas.Bool.{lt-ltb, cases_eq}
use Rattle.prices.specs.Range.{total, count, earlier, first_place}

-- a sum by its first term
total_from : (f : ℕ → ℕ) (n : ℕ) → total f (suc n) ≡ f 0 + total (λ k. f (suc k)) n
unfolding total
total_from f zero = omega arith
total_from f (suc n) = let e = total_from f n in omega (arith, e)

-- whether a number in a range passes
any_from : (p : ℕ → Bool) (a n : ℕ) → list_any p (range_with_len a n) ≡ ltb 0 (count (λ k. p (a + k)) n)
unfolding total
any_from p a zero = refl
any_from p a (suc n) =
    ap (λ b. p a || b) (any_from p (a + 1) n) ∙ next (p a) (count (λ k. p (a + 1 + k)) n)
    ∙ ap (λ b. ltb 0 (cond b 1 0 + count (λ k. p (a + 1 + k)) n)) (ap p (omega arith))
    ∙ ap (λ (q : ℕ → Bool). ltb 0 (cond (p (a + 0)) 1 0 + count q n)) (λ i k. p (shift k i))
    ∙ ap (ltb 0) (sym (total_from (λ k. cond (p (a + k)) 1 0) n))
  where
    shift : (k : ℕ) → a + 1 + k ≡ a + suc k
    shift k = omega arith

    next : (b : Bool) (t : ℕ) → (b || ltb 0 t) ≡ ltb 0 (cond b 1 0 + t)
    next true t = sym (lt-ltb 0 (1 + t) (omega arith))
    next false t = ap (ltb 0) (omega arith)

-- whether a number below a bound passes
pub any_below : (p : ℕ → Bool) (n : ℕ) → list_any p (range_with_len 0 n) ≡ ltb 0 (count p n)
any_below p n = any_from p 0 n ∙ ap (λ (q : ℕ → Bool). ltb 0 (count q n)) (λ i k. p (same k i))
  where
    same : (k : ℕ) → 0 + k ≡ k
    same k = omega arith

-- a first place by the first number
first_from : (p : ℕ → Bool) (n : ℕ) → first_place p (suc n) ≡ cond (p 0) (Some 0) (option_map suc (first_place (λ k. p (suc k)) n))
unfolding first_place
first_from p zero = next (p 0)
  where
    next : (b : Bool) → earlier None (cond b (Some 0) None) ≡ cond b (Some 0) (option_map suc None)
    next true = refl
    next false = refl
first_from p (suc n) = ap (λ o. earlier o (cond (p (suc n)) (Some (suc n)) None)) (first_from p n) ∙ next (p 0) (first_place (λ k. p (suc k)) n) (p (suc n))
  where
    next : (b : Bool) (found : Option ℕ) (t : Bool) → earlier (cond b (Some 0) (option_map suc found)) (cond t (Some (suc n)) None) ≡ cond b (Some 0) (option_map suc (earlier found (cond t (Some n) None)))
    next true found t = refl
    next false (Some x) t = refl
    next false None true = refl
    next false None false = refl

-- the first element that passes, by its place
pub find_place : {A : Type 0} (p : A → Bool) (xs : List A) (d : A) → find p xs ≡ option_map (λ k. get_or xs k d) (first_place (λ k. p (get_or xs k d)) (length xs))
unfolding first_place
find_place p [] d = refl
find_place p (x ∷ xs) d =
    ap (λ o. cond (p x) (Some x) o) (find_place p xs d) ∙ next (p x) (first_place (λ k. p (get_or xs k d)) (length xs))
    ∙ ap (option_map (λ k. get_or (x ∷ xs) k d)) (sym (first_from (λ k. p (get_or (x ∷ xs) k d)) (length xs)))
  where
    next : (b : Bool) (found : Option ℕ) → cond b (Some x) (option_map (λ k. get_or xs k d) found) ≡ option_map (λ k. get_or (x ∷ xs) k d) (cond b (Some 0) (option_map suc found))
    next true found = refl
    next false (Some k) = refl
    next false None = refl

-- the first number in a range that passes
pub find_from : (p : ℕ → Bool) (a n : ℕ) → find p (range_with_len a n) ≡ option_map (λ k. a + k) (first_place (λ k. p (a + k)) n)
unfolding first_place
find_from p a zero = refl
find_from p a (suc n) =
    ap (λ o. cond (p a) (Some a) o) (find_from p (a + 1) n) ∙ next (p a) (first_place (λ k. p (a + 1 + k)) n)
    ∙ ap (λ b. option_map (λ k. a + k) (cond b (Some 0) (option_map suc (first_place (λ k. p (a + 1 + k)) n)))) (ap p (omega arith))
    ∙ ap (λ (q : ℕ → Bool). option_map (λ k. a + k) (cond (p (a + 0)) (Some 0) (option_map suc (first_place q n)))) (λ i k. p (shift k i))
    ∙ ap (option_map (λ k. a + k)) (sym (first_from (λ k. p (a + k)) n))
  where
    shift : (k : ℕ) → a + 1 + k ≡ a + suc k
    shift k = omega arith

    next : (b : Bool) (found : Option ℕ) → cond b (Some a) (option_map (λ k. a + 1 + k) found) ≡ option_map (λ k. a + k) (cond b (Some 0) (option_map suc found))
    next true found = ap Some (omega arith)
    next false (Some k) = ap Some (omega arith)
    next false None = refl

-- what `from_fn` gives at each place, where its calls leave the closure as it was
module _ {F B : Type 0} {g : Mut F (ℕ × Unit {0}) B} (f : F) (P : ℕ → B → Type 0) where
  made_from : ((x : ℕ) (y : B) (q : F) → Called g f (x, tt) y q → (q ≡ f) × P x y) → (ys : List B) (d : B) (i n : ℕ) (p : F) → p ≡ f → IsFromFnResultFrom g p ys i n → (k : ℕ) → i ≤ k → k < i + n → P k (get_or ys k d)
  made_from calls ys d i zero p e h k low high = absurd (omega arith)
  made_from calls ys d i (suc n) p e h k low high =
      let here = calls i h.1 h.0 (subst (λ r. Called g r (i, tt) h.1 h.0) e h.3) in
      elim (cases_eq k i) [
        | inl same ↦ subst (λ j. P j (get_or ys j d)) (sym same) (subst (P i) (sym (h.2.1 d)) here.1)
        | inr other ↦ made_from calls ys d (i + 1) n h.0 here.0 h.4 k (omega arith) (omega arith)
      ]

pub made_at : {F B : Type 0} {g : Mut F (ℕ × Unit {0}) B} (f : F) (P : ℕ → B → Type 0) (ys : List B) (d : B) (n : ℕ) → IsFromFnResult g f ys n →
    ((x : ℕ) (y : B) (q : F) → Called g f (x, tt) y q → (q ≡ f) × P x y) → (k : ℕ) → k < n → P k (get_or ys k d)
made_at f P ys d n made calls k lt = made_from f P calls ys d 0 n f refl made.each k (omega arith) (omega arith)
