-- A line as its key and what stands behind it. Assumes nothing.
use Rattle.std.proofs.Common.{◌≡◌, ℕ, ◌+◌, ◌-◌, true, List, ◌++◌, length, Option, sym, refl, ap, ◌∙◌, subst, arith}
use Rattle.std.proofs.lemmas.List.{append_assoc, append_cancel_left}
use Rattle.file.specs.Body.{Body, ReadBody}
use Rattle.file.specs.Item.{fields}
use Rattle.file.specs.Key.{follows, key_text, FoundKey}
use Rattle.file.specs.Line.{Line, ReadLine, BrokenFields}
use Rattle.file.specs.Place.{Stands, BreaksAt}
use Rattle.file.specs.Row.{row}
use Rattle.file.specs.declared.body.Read.{Read}
use Rattle.file.specs.declared.key.Key.{Key}
use Rattle.file.specs.declared.position.Position.{Position}
use Rattle.file.proofs.Places.{later_breaks_at, stands_joined}

of_body_read : (file : List ℕ) (start mid : ℕ) (last : Option Key) (key : Key) (read : Read) → mid ≡ start + length (key_text key) → FoundKey file start last key → ReadBody key file mid read → ReadLine file start last read
of_body_read file start mid last key read m found b =
    record {
      allowed = subst (λ (k : Key). follows last k ≡ true) (sym b.keyed) found.allowed;
      sound = b.sound;
      stands = subst (λ (k : Key). Stands file start read.next (key_text k ++ row (fields read.item))) (sym b.keyed)
          (stands_joined file start mid read.next (key_text key) (row (fields read.item)) (subst (λ (n : ℕ). Stands file start n (key_text key)) (sym m) found.stands) b.stands);
    }

of_body_broken : (file : List ℕ) (start mid : ℕ) (last : Option Key) (key : Key) (place : ℕ) → mid ≡ start + length (key_text key) → FoundKey file start last key → BreaksAt (Body key) file mid place →
    BrokenFields file start last (place - start + 1)
of_body_broken file start mid last key place m found b =
    let at_place : place ≡ start + (place - start) = omega (arith, b.order) in
    record {
      key = key;
      found = found;
      before = place - start;
      counted = refl;
      breaks = subst (λ (p : ℕ). BreaksAt (Line key) file start p) at_place
          (later_breaks_at (Body key) (Line key) (key_text key) file start mid place
          (λ t w. record { item = w.item; sound = w.sound; keyed = w.keyed; same = ap (λ (u : List ℕ). key_text key ++ u) w.same ∙ ap (λ (k : Key). key_text k ++ row (fields w.item)) (sym w.keyed) })
          (λ text more later w e. (
            row (fields w.item),
            record { item = w.item; sound = w.sound; keyed = w.keyed; same = refl },
            append_cancel_left (key_text key) later (row (fields w.item) ++ more)
                (e ∙ ap (λ (u : List ℕ). u ++ more) (w.same ∙ ap (λ (k : Key). key_text k ++ row (fields w.item)) w.keyed) ∙ append_assoc (key_text key) (row (fields w.item)) more),
          ))
          (subst (λ (n : ℕ). Stands file start n (key_text key)) (sym m) found.stands) b);
    }

-- what stands behind a key is read at a position
pub line_read : (file : List ℕ) (start : ℕ) (last : Option Key) (key : Key) (read : Read) (body : Position) → body.file.now ≡ file → body.at ≡ start + length (key_text key) → FoundKey file start last key →
    ReadBody key body.file.now body.at read → ReadLine file start last read
line_read file start last key read body same at found b =
    of_body_read file start body.at last key read at found (subst (λ (f : List ℕ). ReadBody key f body.at read) same b)

pub line_broken : (file : List ℕ) (start : ℕ) (last : Option Key) (key : Key) (place : ℕ) (body : Position) → body.file.now ≡ file → body.at ≡ start + length (key_text key) → FoundKey file start last key →
    BreaksAt (Body key) body.file.now body.at place → BrokenFields file start last (place - start + 1)
line_broken file start last key place body same at found b =
    of_body_broken file start body.at last key place at found (subst (λ (f : List ℕ). BreaksAt (Body key) f body.at place) same b)
