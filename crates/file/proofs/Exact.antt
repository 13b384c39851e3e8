-- A line is read as an item exactly when it is that item's writing. Assumes nothing.
use Rattle.std.proofs.Common.{◌≡◌, ℕ, ◌+◌, List, ◌++◌, length, drop, Ok, Err, Option, Result, sym, refl, ap, ◌∙◌, ⊎_elim, arith}
use Rattle.std.specs.List.{between}
use Rattle.std.proofs.lemmas.List.{append_assoc}
use Rattle.std.proofs.lemmas.List.Edits.{length-between}
use Rattle.file.specs.Item.{Item, Sound, key_of, fields, writing}
use Rattle.file.specs.Key.{key_text, NoKey}
use Rattle.file.specs.Line.{BrokenFields, ReadsLine, Exactly}
use Rattle.file.specs.Place.{Stands}
use Rattle.file.specs.Row.{row}
use Rattle.file.specs.declared.body.Read.{Read}
use Rattle.file.specs.declared.broken.BrokenForm.{BrokenForm}
use Rattle.file.specs.declared.key.Key.{Key}
use Rattle.file.proofs.Places.{drop_stands, stands_from_drop}
use Rattle.file.proofs.Readings.{written_once, key_unique}

pub stands_long : (file : List ℕ) (start next : ℕ) (text : List ℕ) → Stands file start next text → next ≡ start + length text
stands_long file start next text s = omega (arith, s.order, sym (length-between file start next s.within) ∙ ap length s.same)

begins_with_key : (file : List ℕ) (start next : ℕ) (item : Item) → Stands file start next (writing item) → drop start file ≡ key_text (key_of item) ++ (row (fields item) ++ drop next file)
begins_with_key file start next item s = drop_stands file start next (writing item) s ∙ append_assoc (key_text (key_of item)) (row (fields item)) (drop next file)

key_stands : (file : List ℕ) (start next : ℕ) (item : Item) → Stands file start next (writing item) → Stands file start (start + length (key_text (key_of item))) (key_text (key_of item))
key_stands file start next item s =
    stands_from_drop file start (key_text (key_of item)) (row (fields item) ++ drop next file) (omega (arith, s.order, s.within)) (begins_with_key file start next item s)

not_broken : (file : List ℕ) (start next : ℕ) (last : Option Key) (place : ℕ) (item : Item) → Sound item → Stands file start next (writing item) → BrokenFields file start last place → ⊥
not_broken file start next last place item sound s w =
    let keys : key_of item ≡ w.key =
    key_unique (key_of item) w.key (row (fields item) ++ drop next file) (drop (start + length (key_text w.key)) file)
    (sym (begins_with_key file start next item s) ∙ drop_stands file start (start + length (key_text w.key)) (key_text w.key) w.found.stands) in
    let b = w.breaks in
    let place = start + w.before in
    let read : drop start file ≡ between start place file ++ drop place file = drop_stands file start place (between start place file) (record { order = b.order; within = b.within; same = refl }) in
    b.breaks.absent (writing item) (drop next file) (record { item = item; sound = sound; keyed = keys; same = refl }) (sym read ∙ drop_stands file start next (writing item) s)

pub exactly : (file : List ℕ) (start : ℕ) (last : Option Key) (r : Result Read BrokenForm) → ReadsLine file start last r → Exactly file start last r
exactly file start last (Ok read) b = λ item next sound allowed s.
    let same : read.item ≡ item =
    written_once read.item item (drop read.next file) (drop next file) b.sound sound
    (sym (drop_stands file start read.next (writing read.item) b.stands) ∙ drop_stands file start next (writing item) s) in
    let place : read.next ≡ next =
    stands_long file start read.next (writing read.item) b.stands ∙ ap (λ (x : Item). start + length (writing x)) same ∙ sym (stands_long file start next (writing item) s) in
    λ i. Ok (record { item = same i; next = place i })
exactly file start last (Err broken) b = λ item next sound allowed s.
    absurd (⊎_elim
    (λ (p : NoKey file start last × (broken.place ≡ 1)). p.0 (key_of item) (record { allowed = allowed; stands = key_stands file start next item s }))
    (λ (w : BrokenFields file start last broken.place). not_broken file start next last broken.place item sound s w)
    b)
