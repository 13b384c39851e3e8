-- How many bytes two texts have in common. Assumes nothing.
use Rattle.std.proofs.Common.{◌≡◌, ℕ, suc, ◌+◌, ◌-◌, ◌≤◌, Bool, true, false, cond, eqb, min, List, [], ◌∷◌, length, get_or, take, drop, sym, refl, ap, ◌∙◌, subst, arith}
use Rattle.std.specs.List.{prefix_len, take_while, zip}
use Rattle.std.proofs.lemmas.Bool.{eqb-true, eqb-false}
use Rattle.std.proofs.lemmas.List.{get_or-drop, length-drop}
use Rattle.std.proofs.lemmas.List.Folds.{length-prefix_len}
use Rattle.std.proofs.lemmas.List.Sums.{prefix_len-le-length, prefix_len_stops}
use Rattle.std.proofs.lemmas.Slice.Zip.{get_or-zip, length-zip}
use Rattle.file.specs.Literal.{Agrees}

abbrev same_byte : ℕ × ℕ → Bool
same_byte pair = eqb pair.0 pair.1

common : List ℕ → List ℕ → ℕ
common xs ys = prefix_len same_byte (zip xs ys)

front_more : (b : Bool) (x y m : ℕ) (xs ys : List ℕ) → eqb x y ≡ b → take m xs ≡ take m ys → take (cond b (1 + m) 0) (x ∷ xs) ≡ take (cond b (1 + m) 0) (y ∷ ys)
front_more false x y m xs ys e same = refl
front_more true x y m xs ys e same =
    let one : suc m ≡ 1 + m = omega arith in
    subst (λ (n : ℕ). take n (x ∷ xs) ≡ take n (y ∷ ys)) one (ap (λ (c : ℕ). c ∷ take m xs) (eqb-true x y e) ∙ ap (λ (t : List ℕ). y ∷ t) same)

common_front : (xs ys : List ℕ) → take (common xs ys) xs ≡ take (common xs ys) ys
unfolding common
common_front [] ys = front_none ys
  where
    front_none : (zs : List ℕ) → take (prefix_len same_byte (zip [] zs)) [] ≡ take (prefix_len same_byte (zip [] zs)) zs
    front_none zs = refl
common_front (x ∷ xs) [] = refl
common_front (x ∷ xs) (y ∷ ys) = front_more (eqb x y) x y (prefix_len same_byte (zip xs ys)) xs ys refl (common_front xs ys)

-- the bytes that a file and a text have in common are as far as they agree
pub common_agrees : (file rest text : List ℕ) (start count : ℕ) → start ≤ length file → rest ≡ drop start file → count ≡ length (take_while same_byte (zip rest text)) → Agrees file start text count
unfolding common
common_agrees file rest text start count within left e =
    let n : count ≡ common rest text = e ∙ length-prefix_len same_byte (zip rest text) in
    let both : length (zip rest text) ≡ min (length rest) (length text) = length-zip rest text in
    let few : common rest text ≤ length (zip rest text) = prefix_len-le-length same_byte (zip rest text) in
    let long : length rest ≡ length file - start = ap length left ∙ length-drop start file in
    let k : start + count - start ≡ count = omega arith in
    record {
      within = omega arith;
      stands = record {
        order = omega arith;
        within = omega arith;
        same = ap (λ (m : ℕ). take m (drop start file)) k ∙ ap (λ (t : List ℕ). take count t) (sym left) ∙ subst (λ (m : ℕ). take m rest ≡ take m text) (sym n) (common_front rest text);
      };
      differs = λ more inside same.
          (let stop : same_byte (get_or (zip rest text) (common rest text) (0, 0)) ≡ false = prefix_len_stops same_byte (zip rest text) (0, 0) (omega arith) in
          let here : get_or (zip rest text) (common rest text) (0, 0) ≡ (get_or rest (common rest text) 0, get_or text (common rest text) 0) = get_or-zip rest text (common rest text) (0, 0) (omega arith) (omega arith) in
          let apart : eqb (get_or rest (common rest text) 0) (get_or text (common rest text) 0) ≡ false = sym (ap same_byte here) ∙ stop in
          eqb-false _ _ apart (subst (λ (m : ℕ). get_or rest m 0 ≡ get_or text m 0) n (ap (λ (t : List ℕ). get_or t count 0) left ∙ get_or-drop start file count 0 ∙ same)));
    }
