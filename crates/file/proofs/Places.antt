-- How forms are put together: the first part breaks, or what follows the first part breaks. Assumes nothing.
use Rattle.std.proofs.Common.{◌≡◌, ℕ, ◌+◌, ◌-◌, ◌<◌, ◌≤◌, ◌⊎◌, List, [], ◌∷◌, ◌++◌, length, get_or, take, drop, IsErrAnd, Result, Ok, Err, sym, refl, ap, ◌∙◌, subst, inl, inr, ⊎_elim, arith, take-add, MatchResult, MatchOption, Option, Some, None}
use Rattle.std.specs.List.{between}
use Rattle.std.proofs.lemmas.List.{append_assoc, append-nil, drop-drop, take-append-drop, take_at, length-drop, length-append}
use Rattle.std.proofs.lemmas.List.Edits.{between_none, between_more}
use Rattle.std.proofs.lemmas.Result.{err_from_is_err_and}
use Rattle.file.specs.Place.{Stands, Breaks, BreaksAt, ByteAt}

-- of two fronts of one list, one is the front of the other
pub overlap : (xs ys u v : List ℕ) → xs ++ u ≡ ys ++ v →
    ((z : List ℕ) × (xs ≡ ys ++ z) × (z ++ u ≡ v)) ⊎ ((z : List ℕ) × (ys ≡ xs ++ z) × (u ≡ z ++ v))
overlap [] ys u v e = inr (ys, refl, e)
overlap (x ∷ xs) [] u v e = inl (x ∷ xs, refl, e)
overlap (x ∷ xs) (y ∷ ys) u v e =
    let head : x ≡ y = cc in
    let tail : xs ++ u ≡ ys ++ v = cc in
    ⊎_elim
    (λ (p : (z : List ℕ) × (xs ≡ ys ++ z) × (z ++ u ≡ v)). inl (p.0, (let q = p.1 in cc), p.2))
    (λ (p : (z : List ℕ) × (ys ≡ xs ++ z) × (u ≡ z ++ v)). inr (p.0, (let q = p.1 in cc), p.2))
    (overlap xs ys u v tail)

-- where the first part breaks, the whole breaks
pub first_breaks : (Part Whole : List ℕ → Type 0) (read left : List ℕ) →
    ((u : List ℕ) → Part u → (v : List ℕ) × Whole (u ++ v)) →
    ((t : List ℕ) → Whole t → (u : List ℕ) × (v : List ℕ) × Part u × (t ≡ u ++ v)) →
    Breaks Part read left → Breaks Whole read left
first_breaks Part Whole read left into out b =
    record {
      begins =
          (let more = b.begins.0 in
          let w = into (read ++ more) b.begins.1 in
          (more ++ w.0, subst Whole (append_assoc read more w.0) w.1));
      departs = λ byte later more e whole.
          (let p = out (read ++ byte ∷ more) whole in
          ⊎_elim
          (λ (q : (z : List ℕ) × (p.0 ≡ (read ++ byte ∷ []) ++ z) × (z ++ p.1 ≡ more)).
          b.departs byte later q.0 e (subst Part (q.1 ∙ append_assoc read (byte ∷ []) q.0) p.2))
          (λ (q : (z : List ℕ) × (read ++ byte ∷ [] ≡ p.0 ++ z) × (p.1 ≡ z ++ more)).
          b.absent p.0 (q.0 ++ later) p.2
          (ap (λ (t : List ℕ). read ++ t) e ∙ sym (append_assoc read (byte ∷ []) later) ∙ ap (λ (t : List ℕ). t ++ later) q.1 ∙ append_assoc p.0 q.0 later))
          (overlap p.0 (read ++ byte ∷ []) p.1 more (sym (append_assoc read (byte ∷ []) more ∙ p.3))));
      absent = λ text more whole e.
          (let p = out text whole in
          b.absent p.0 (p.1 ++ more) p.2 (e ∙ ap (λ (t : List ℕ). t ++ more) p.3 ∙ append_assoc p.0 p.1 more));
    }

-- where what follows a first part breaks, the whole breaks
pub later_breaks : (Rest Whole : List ℕ → Type 0) (u read left : List ℕ) →
    ((t : List ℕ) → Rest t → Whole (u ++ t)) →
    ((text more later : List ℕ) → Whole text → u ++ later ≡ text ++ more → (t : List ℕ) × Rest t × (later ≡ t ++ more)) →
    Breaks Rest read left → Breaks Whole (u ++ read) left
later_breaks Rest Whole u read left into front b =
    record {
      begins = (b.begins.0, subst Whole (sym (append_assoc u read b.begins.0)) (into (read ++ b.begins.0) b.begins.1));
      departs = λ byte later more e whole.
          (let p = front ((u ++ read) ++ byte ∷ more) [] (read ++ byte ∷ more) whole
          (sym (append_assoc u read (byte ∷ more)) ∙ sym (append-nil ((u ++ read) ++ byte ∷ more))) in
          b.departs byte later more e (subst Rest (sym (p.2 ∙ append-nil p.0)) p.1));
      absent = λ text more whole e.
          (let p = front text more (read ++ left) whole (sym (append_assoc u read left) ∙ e) in
          b.absent p.0 more p.1 p.2);
    }

-- equal forms break alike
pub same_form_breaks : (Form Other : List ℕ → Type 0) (file : List ℕ) (start place : ℕ) →
    ((t : List ℕ) → Form t → Other t) → ((t : List ℕ) → Other t → Form t) → BreaksAt Form file start place → BreaksAt Other file start place
same_form_breaks Form Other file start place into out b =
    record {
      order = b.order;
      within = b.within;
      breaks = record {
        begins = (b.breaks.begins.0, into _ b.breaks.begins.1);
        departs = λ byte later more e other. b.breaks.departs byte later more e (out _ other);
        absent = λ text more other e. b.breaks.absent text more (out _ other) e;
      };
    }

pub between_joined : (file : List ℕ) (start mid place : ℕ) → start ≤ mid → mid ≤ place → between start place file ≡ between start mid file ++ between mid place file
between_joined file start mid place a b =
    let k : place - start ≡ (mid - start) + (place - mid) = omega arith in
    let m : start + (mid - start) ≡ mid = omega arith in
    ap (λ (n : ℕ). take n (drop start file)) k ∙ take-add (mid - start) (place - mid) (drop start file)
    ∙ ap (λ (t : List ℕ). between start mid file ++ take (place - mid) t) (drop-drop (mid - start) start file ∙ ap (λ (n : ℕ). drop n file) m)

pub drop_stands : (file : List ℕ) (start next : ℕ) (text : List ℕ) → Stands file start next text → drop start file ≡ text ++ drop next file
drop_stands file start next text s =
    let m : start + (next - start) ≡ next = omega (arith, s.order) in
    sym (take-append-drop (next - start) (drop start file)) ∙ ap (λ (t : List ℕ). t ++ drop (next - start) (drop start file)) s.same ∙ ap (λ (t : List ℕ). text ++ t) (drop-drop (next - start) start file ∙ ap (λ (n : ℕ). drop n file) m)

pub first_breaks_at : (Part Whole : List ℕ → Type 0) (file : List ℕ) (start place : ℕ) →
    ((u : List ℕ) → Part u → (v : List ℕ) × Whole (u ++ v)) →
    ((t : List ℕ) → Whole t → (u : List ℕ) × (v : List ℕ) × Part u × (t ≡ u ++ v)) →
    BreaksAt Part file start place → BreaksAt Whole file start place
first_breaks_at Part Whole file start place into out b =
    record { order = b.order; within = b.within; breaks = first_breaks Part Whole (between start place file) (drop place file) into out b.breaks }

pub later_breaks_at : (Rest Whole : List ℕ → Type 0) (u : List ℕ) (file : List ℕ) (start mid place : ℕ) →
    ((t : List ℕ) → Rest t → Whole (u ++ t)) →
    ((text more later : List ℕ) → Whole text → u ++ later ≡ text ++ more → (t : List ℕ) × Rest t × (later ≡ t ++ more)) →
    Stands file start mid u → BreaksAt Rest file mid place → BreaksAt Whole file start place
later_breaks_at Rest Whole u file start mid place into front s b =
    let read : between start place file ≡ u ++ between mid place file = between_joined file start mid place s.order b.order ∙ ap (λ (t : List ℕ). t ++ between mid place file) s.same in
    record {
      order = omega (arith, s.order, b.order);
      within = b.within;
      breaks = subst (λ (t : List ℕ). Breaks Whole t (drop place file)) (sym read) (later_breaks Rest Whole u (between mid place file) (drop place file) into front b.breaks);
    }

-- one text after another
pub stands_joined : (file : List ℕ) (start mid next : ℕ) (u v : List ℕ) → Stands file start mid u → Stands file mid next v → Stands file start next (u ++ v)
stands_joined file start mid next u v s t =
    record {
      order = omega (arith, s.order, t.order);
      within = t.within;
      same = between_joined file start mid next s.order t.order ∙ ap (λ (x : List ℕ). x ++ between mid next file) s.same ∙ ap (λ (x : List ℕ). u ++ x) t.same;
    }

-- nothing stands anywhere
pub nothing_stands : (file : List ℕ) (start next : ℕ) → start ≤ length file → next ≡ start → Stands file start next []
nothing_stands file start next within e =
    record { order = omega arith; within = omega arith; same = subst (λ (n : ℕ). between start n file ≡ []) (sym e) (between_none file start) }

-- one byte more
pub stands_more : (file : List ℕ) (start next : ℕ) (text : List ℕ) (byte after : ℕ) → Stands file start next text → next < length file → get_or file next 0 ≡ byte → after ≡ next + 1 →
    Stands file start after (text ++ byte ∷ [])
stands_more file start next text byte after s inside e a =
    record {
      order = omega (arith, s.order);
      within = omega arith;
      same = ap (λ (n : ℕ). between start n file) a ∙ between_more file start next 0 s.order inside ∙ ap (λ (t : List ℕ). t ++ get_or file next 0 ∷ []) s.same ∙ ap (λ (b : ℕ). text ++ b ∷ []) e;
    }

-- an error that a `?` passes on
pub err_passed : {A E : Type 0} (P : A → Type 0) (Q : E → Type 0) (error : E) (r : Result A E) → IsErrAnd r (λ y. y ≡ error) → Q error → MatchResult r P Q
err_passed {A = A} {E = E} P Q error r e q =
    let p = err_from_is_err_and r e in
    subst (λ (x : Result A E). MatchResult x P Q) (sym p.1) (subst Q (sym p.2) q)

-- what a `map_err` gives, where a fact of each value and each error is known
pub error_mapped : {A D E : Type 0} (P P' : A → Type 0) (Q : E → Type 0) (M : E → D → Type 0) (Q' : D → Type 0) (r : Result A E) (mapped : Result A D) →
    MatchResult r P Q → MatchResult r (λ x. mapped ≡ Ok x) (λ e. IsErrAnd mapped (λ d. M e d)) → ((x : A) → P x → P' x) → ((e : E) (d : D) → Q e → M e d → Q' d) → MatchResult mapped P' Q'
error_mapped P P' Q M Q' (Ok x) mapped p m ok err = subst (λ r. MatchResult r P' Q') (sym m) (ok x p)
error_mapped P P' Q M Q' (Err e) mapped q m ok err =
    let p = err_from_is_err_and mapped m in
    subst (λ r. MatchResult r P' Q') (sym p.1) (err e _ q p.2)

-- a text stands where the file goes on with it
pub stands_from_drop : (file : List ℕ) (start : ℕ) (text more : List ℕ) → start ≤ length file → drop start file ≡ text ++ more → Stands file start (start + length text) text
stands_from_drop file start text more within e =
    let long : length file - start ≡ length text + length more = sym (length-drop start file) ∙ ap length e ∙ length-append text more in
    let k : start + length text - start ≡ length text = omega arith in
    record {
      order = omega arith;
      within = omega arith;
      same = ap (λ (n : ℕ). take n (drop start file)) k ∙ ap (λ (t : List ℕ). take (length text) t) e ∙ take_at text more (length text) refl;
    }

-- the byte that stands at a position is what is read of it
pub byte_read : (file : List ℕ) (at byte : ℕ) (r : Option ℕ) → MatchOption r (at ≡ length file) (λ other. ByteAt file at other) → ByteAt file at byte → r ≡ Some byte
byte_read file at byte None e here = absurd (omega (arith, here.inside))
byte_read file at byte (Some other) b here = ap Some (sym b.same ∙ here.same)
