-- A line that is broken is broken at one place only. Assumes nothing.
use Rattle.std.proofs.Common.{◌≡◌, ℕ, ◌+◌, ◌<◌, ◌≤◌, List, [], ◌∷◌, ◌++◌, length, drop, Option, sym, refl, ◌∙◌, subst, inl, inr, ⊎_elim, arith}
use Rattle.std.specs.List.{between}
use Rattle.std.proofs.lemmas.List.Edits.{length-between}
use Rattle.std.proofs.lemmas.List.{append_assoc}
use Rattle.std.proofs.lemmas.Bool.{cases_lt}
use Rattle.file.specs.Key.{key_text}
use Rattle.file.specs.Line.{Line, BrokenFields, BrokenLine}
use Rattle.file.specs.Place.{Breaks, BreaksAt}
use Rattle.file.specs.declared.key.Key.{Key}
use Rattle.file.proofs.Places.{drop_stands, between_joined}
use Rattle.file.proofs.Readings.{key_unique}

-- no text of a form goes on behind the place at which the form breaks
not_on : (Form : List ℕ → Type 0) (read on left more : List ℕ) → 1 ≤ length on → Breaks Form read (on ++ left) → Form ((read ++ on) ++ more) → ⊥
not_on Form read [] left more long b text = absurd (omega arith)
not_on Form read (byte ∷ on) left more long b text = b.departs byte (on ++ left) (on ++ more) refl (subst Form (append_assoc read (byte ∷ on) more) text)

not_later : (Form : List ℕ → Type 0) (file : List ℕ) (start place later : ℕ) → BreaksAt Form file start place → BreaksAt Form file start later → place < later → ⊥
not_later Form file start place later b l early =
    let on = between place later file in
    let left : drop place file ≡ on ++ drop later file = drop_stands file place later on (record { order = omega arith; within = l.within; same = refl }) in
    let read : between start later file ≡ between start place file ++ on = between_joined file start place later b.order (omega arith) in
    not_on Form (between start place file) on (drop later file) l.breaks.begins.0 (omega (arith, length-between file place later l.within))
    (subst (λ (t : List ℕ). Breaks Form (between start place file) t) left b.breaks)
    (subst (λ (t : List ℕ). Form (t ++ l.breaks.begins.0)) read l.breaks.begins.1)

-- a file breaks a form at one place
pub breaks_once : (Form : List ℕ → Type 0) (file : List ℕ) (start place other : ℕ) → BreaksAt Form file start place → BreaksAt Form file start other → place ≡ other
breaks_once Form file start place other b o =
    ⊎_elim
    (λ (lt : place < other). absurd (not_later Form file start place other b o lt))
    (λ (le : other ≤ place).
    ⊎_elim
    (λ (lt : other < place). absurd (not_later Form file start other place o b lt))
    (λ (ge : place ≤ other). omega arith)
    (cases_lt other place))
    (cases_lt place other)

fields_once : (file : List ℕ) (start : ℕ) (last : Option Key) (place other : ℕ) → BrokenFields file start last place → BrokenFields file start last other → place ≡ other
fields_once file start last place other b o =
    let keys : b.key ≡ o.key =
    key_unique b.key o.key (drop (start + length (key_text b.key)) file) (drop (start + length (key_text o.key)) file)
    (sym (drop_stands file start (start + length (key_text b.key)) (key_text b.key) b.found.stands)
    ∙ drop_stands file start (start + length (key_text o.key)) (key_text o.key) o.found.stands) in
    let places : start + b.before ≡ start + o.before =
    breaks_once (Line o.key) file start (start + b.before) (start + o.before) (subst (λ (k : Key). BreaksAt (Line k) file start (start + b.before)) keys b.breaks) o.breaks in
    omega (arith, b.counted, o.counted)

-- a line is broken at one place
pub broken_once : (file : List ℕ) (start : ℕ) (last : Option Key) (place other : ℕ) → BrokenLine file start last place → BrokenLine file start last other → place ≡ other
broken_once file start last place other (inl b) (inl o) = b.1 ∙ sym o.1
broken_once file start last place other (inl b) (inr o) = absurd (b.0 o.key o.found)
broken_once file start last place other (inr b) (inl o) = absurd (o.0 b.key b.found)
broken_once file start last place other (inr b) (inr o) = fields_once file start last place other b o
