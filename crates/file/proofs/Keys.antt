-- When a key stands at a place, and which keys were tried. Assumes nothing.
use Rattle.std.proofs.Common.{◌≡◌, ℕ, ◌+◌, ◌<◌, ◌≤◌, List, [], ◌∷◌, length, get_or, sym, refl, ap, ◌∙◌, subst, ⊎_elim, arith, MatchOption, Option, Some, None}
use Rattle.std.specs.List.{AllWithin, HoldsAt}
use Rattle.std.proofs.lemmas.List.{take_all}
use Rattle.std.proofs.lemmas.List.Edits.{get_or-between}
use Rattle.std.proofs.lemmas.Bool.{cases_lt}
use Rattle.file.specs.Key.{order_of, NoKey, FoundKey}
use Rattle.file.specs.Literal.{Agrees}
use Rattle.file.specs.Place.{Stands}
use Rattle.file.specs.declared.key.Key.{Key}
use Rattle.file.specs.declared.key.Key.TheVariants.{Hour, Asset, Offer, Order, Shed, Meter, Instruct, Rule}

pub agrees_whole : (file : List ℕ) (start : ℕ) (text : List ℕ) (count : ℕ) → Agrees file start text count → count ≡ length text → Stands file start (start + length text) text
agrees_whole file start text count a e =
    subst (λ (n : ℕ). Stands file start (start + n) text) e (subst (λ (t : List ℕ). Stands file start (start + count) t) (take_all count text (omega arith)) a.stands)

pub whole_agrees : (file : List ℕ) (start : ℕ) (text : List ℕ) (count : ℕ) → Agrees file start text count → Stands file start (start + length text) text → count ≡ length text
whole_agrees file start text count a s =
    ⊎_elim
    (λ (lt : count < length text).
    let here : get_or file (start + count) 0 ≡ get_or text count 0 =
    sym (get_or-between file start (start + length text) count 0 (omega arith)) ∙ ap (λ (t : List ℕ). get_or t count 0) s.same in
    absurd (a.differs lt (omega (arith, s.within)) here))
    (λ (le : length text ≤ count). omega (arith, a.within))
    (cases_lt count (length text))

pub key_at : (d key : Key) → get_or (Hour ∷ Asset ∷ Offer ∷ Order ∷ Shed ∷ Meter ∷ Instruct ∷ Rule ∷ []) (order_of key) d ≡ key
key_at d Hour = refl
key_at d Asset = refl
key_at d Offer = refl
key_at d Order = refl
key_at d Shed = refl
key_at d Meter = refl
key_at d Instruct = refl
key_at d Rule = refl

pub order_small : (key : Key) → order_of key < 8
order_small Hour = omega arith
order_small Asset = omega arith
order_small Offer = omega arith
order_small Order = omega arith
order_small Shed = omega arith
order_small Meter = omega arith
order_small Instruct = omega arith
order_small Rule = omega arith

abbrev pub keys : List Key
keys = Hour ∷ Asset ∷ Offer ∷ Order ∷ Shed ∷ Meter ∷ Instruct ∷ Rule ∷ []

-- the first key that is found of all
pub key_found : (file : List ℕ) (start : ℕ) (last found : Option Key) →
    MatchOption found (AllWithin (λ (key : Key). FoundKey file start last key → ⊥) keys 0 (length keys))
    (λ (key : Key). FoundKey file start last key × (i : ℕ) × (i < length keys) × HoldsAt (λ (other : Key). other ≡ key) keys i × AllWithin (λ (other : Key). FoundKey file start last other → ⊥) keys 0 i) →
    MatchOption found (NoKey file start last) (λ key. FoundKey file start last key)
key_found file start last None none = λ key here. none (order_of key) Hour (omega arith) (order_small key) (subst (λ (k : Key). FoundKey file start last k) (sym (key_at Hour key)) here)
key_found file start last (Some key) some = some.0
