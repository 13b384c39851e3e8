-- What an array holds that a closure made, called at each place in turn. Assumes nothing.
use Rattle.std.proofs.Common.{◌≡◌, ℕ, zero, suc, ◌+◌, ◌<◌, List, get_or, sym, ◌∙◌, subst, add-zero, zero-add, arith}
use denote.Param.Members.{Mut, Called}
use Rattle.std.specs.Array.{IsFromFnResult, IsFromFnResultFrom}

made_from : {F B : Type 0} (g : Mut F (ℕ × Unit {0}) B) (f : F) (h : ℕ → B) → ((i : ℕ) (y : B) (q : F) → Called g f (i, tt) y q → (q ≡ f) × (y ≡ h i)) → (ys : List B) (i n : ℕ) → IsFromFnResultFrom g f ys i n → (k : ℕ) → k < n → (d : B) → get_or ys (i + k) d ≡ h (i + k)
made_from g f h gives ys i zero made k lt d = absurd (omega arith)
made_from g f h gives ys i (suc n) made zero lt d =
    subst (λ m. get_or ys m d ≡ h m) (sym (add-zero i)) (made.2.1 d ∙ (gives i made.1 made.0 made.3).1)
made_from g f h gives ys i (suc n) made (suc k) lt d =
    let moved : i + 1 + k ≡ i + suc k = omega arith in
    let rest = subst (λ q. IsFromFnResultFrom g q ys (i + 1) n) (gives i made.1 made.0 made.3).0 made.4 in
    subst (λ m. get_or ys m d ≡ h m) moved (made_from g f h gives ys (i + 1) n rest k (omega arith) d)

-- the element at each place, where every call leaves the closure as it was and gives h of the place
pub made_gives : {F B : Type 0} (g : Mut F (ℕ × Unit {0}) B) (f : F) (h : ℕ → B) → ((i : ℕ) (y : B) (q : F) → Called g f (i, tt) y q → (q ≡ f) × (y ≡ h i)) → (ys : List B) (n : ℕ) → IsFromFnResult g f ys n → (k : ℕ) → k < n → (d : B) → get_or ys k d ≡ h k
made_gives g f h gives ys n made k lt d =
    subst (λ m. get_or ys m d ≡ h m) (zero-add k) (made_from g f h gives ys 0 n made.each k lt d)
