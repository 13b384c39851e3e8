-- One line more behind lines that passed. Assumes nothing.
use Rattle.std.proofs.Common.{◌≡◌, ℕ, ◌<◌, ◌≤◌, true, ltb, List, [], ◌∷◌, length, drop, is_ok, IsErrAnd, Some, Ok, Option, Result, sym, refl, ap, ◌∙◌, subst, arith, MatchResult}
use Rattle.std.proofs.lemmas.List.{length-append}
use Rattle.std.proofs.lemmas.Result.{err_from_is_err_and}
use Rattle.std.proofs.lemmas.Bool.{and_from, not_from_false, ltb-true}
use Rattle.hour.specs.Reason.{Reason, answer}
use Rattle.hour.proofs.Outcomes.{NoneFits, none_fits}
use Rattle.ledger.specs.Trade.{accepted}
use Rattle.file.specs.Item.{Item, key_of, fields, writing}
use Rattle.file.specs.Key.{key_text, order_of, follows}
use Rattle.file.specs.Line.{ReadLine, BrokenLine}
use Rattle.file.specs.Row.{row}
use Rattle.file.specs.declared.body.Read.{Read}
use Rattle.file.specs.declared.key.Key.{Key}
use Rattle.file.specs.declared.key.Key.TheVariants.{Hour, Asset, Offer, Order, Shed, Meter, Instruct, Rule}
use Rattle.file.proofs.Exact.{stands_long}
use Rattle.file.proofs.Places.{drop_stands, stands_joined}
use Rattle.file.proofs.Readings.{written_once}
use Rattle.hourfile.specs.Cursor.{BrokenHere, Behind, beyond}
use Rattle.hourfile.specs.Lines.{written, last_key, reasons, Passes, Passed}
use Rattle.hourfile.specs.Outcome.{AtFault, FirstFault}
use Rattle.hourfile.specs.declared.cursor.Cursor.{Cursor}
use Rattle.hourfile.specs.declared.fault.Fault.{Fault}
use Rattle.hourfile.specs.declared.fault.Fault.TheVariants.{IllFormed}
use Rattle.hourfile.specs.declared.fault.LineFault.{LineFault}

-- an error that a `?` passes on
pub handed_on : {A E : Type 0} (P : A → Type 0) (Q : E → Type 0) (e : E) (r : Result A E) → IsErrAnd r (λ y. y ≡ e) → Q e → MatchResult r P Q
handed_on {A = A} {E = E} P Q e r by q =
    let p = err_from_is_err_and r by in
    subst (λ (x : Result A E). MatchResult x P Q) (sym p.1) (subst Q (sym p.2) q)

key_long : (key : Key) → 1 ≤ length (key_text key)
key_long Hour = omega arith
key_long Asset = omega arith
key_long Offer = omega arith
key_long Order = omega arith
key_long Shed = omega arith
key_long Meter = omega arith
key_long Instruct = omega arith
key_long Rule = omega arith

-- a line has at least one byte
pub writing_long : (item : Item) → 1 ≤ length (writing item)
writing_long item = omega (arith, key_long (key_of item), length-append (key_text (key_of item)) (row (fields item)))

-- there are no more lines than bytes
pub items_few : (items : List Item) → length items ≤ length (written items)
items_few [] = omega arith
items_few (item ∷ before) = omega (arith, items_few before, writing_long item, length-append (written before) (writing item))

-- a line that is read takes the cursor on
pub moves : (file : List ℕ) (start : ℕ) (last : Option Key) (read : Read) → ReadLine file start last read → start < read.next
moves file start last read r = omega (arith, writing_long read.item, stands_long file start read.next (writing read.item) r.stands)

-- only one item is read at a place
pub read_once : (file : List ℕ) (start : ℕ) (last : Option Key) (read other : Read) → ReadLine file start last read → ReadLine file start last other → read.item ≡ other.item
read_once file start last read other r o =
    written_once read.item other.item (drop read.next file) (drop other.next file) r.sound o.sound
    (sym (drop_stands file start read.next (writing read.item) r.stands) ∙ drop_stands file start other.next (writing other.item) o.stands)

module _ (file : List ℕ) (items : List Item) (cursor : Cursor) (b : Behind file items cursor) where
  pub line_small : length file ≤ 32768 → cursor.line ≤ 32769
  line_small few = omega (arith, b.counted, items_few items, stands_long file 0 cursor.start (written items) b.stands, b.stands.within)

  pub further : (read : Read) → ReadLine file cursor.start cursor.last read → Behind file (read.item ∷ items) (beyond cursor read)
  further read r = record {
    stands = stands_joined file 0 cursor.start read.next (written items) (writing read.item) b.stands r.stands;
    counted = omega (arith, b.counted);
    last = refl;
  }

  pub allowed_here : (read : Read) → ReadLine file cursor.start cursor.last read → follows (last_key items) (key_of read.item) ≡ true
  allowed_here read r = subst (λ l. follows l (key_of read.item) ≡ true) b.last r.allowed

-- where a line behind lines that passed is wrong, the file has its first fault
pub stopped : (file : List ℕ) → length file ≤ 32768 → (items : List Item) → Passed items → (cursor : Cursor) → Behind file items cursor → (fault : Fault) → AtFault file cursor.start items fault →
    FirstFault file (record { line = Some cursor.line; fault = fault })
stopped file few items passed cursor b fault wrong = record {
  few = few;
  items = items;
  start = cursor.start;
  passed = passed;
  behind = b.stands;
  counted = ap Some b.counted;
  wrong = wrong;
}

-- an ill-formed line behind lines that passed, none of which names the rule
pub broken_line : (file : List ℕ) → length file ≤ 32768 → (items : List Item) → Passed items → (cursor : Cursor) → Behind file items cursor → (last_key items ≡ Some Rule → ⊥) →
    (at : LineFault) → BrokenHere file cursor at → FirstFault file at
broken_line file few items passed cursor b unruled at h = subst (FirstFault file) (sym h.told) (stopped file few items passed cursor b (IllFormed h.place) (record {
  broken = subst (λ l. BrokenLine file cursor.start l h.place) b.last h.broken;
  more = λ e. absurd (unruled e);
}))

-- a key that comes before the rule's in the order of lines is not the rule's
pub not_rule : (key : Key) (last : Option Key) (bound : ℕ) → bound ≤ 7 → last ≡ Some key → ltb (order_of key) bound ≡ true → last ≡ Some Rule → ⊥
not_rule key last bound small is early e =
    let same : key ≡ Rule = cc in
    let below : order_of key < bound = ltb-true (order_of key) bound early in
    absurd (omega (arith, ap order_of same))

pub accepts : (reasons : List Reason) → NoneFits reasons → accepted reasons ≡ true
accepts [] none = refl
accepts (reason ∷ rest) none = and_from _ _ (not_from_false _ none.0) (accepts rest none.1)

-- a call that is not refused is accepted
pub accepted_if : (reasons : List Reason) (u : Unit {0}) → Ok u ≡ answer reasons → accepted reasons ≡ true
accepted_if reasons u said = accepts reasons (none_fits reasons (Ok tt) (ap is_ok (sym said)))

-- a line that is read behind others and whose call is accepted passes
pub passes : (file : List ℕ) (items : List Item) (cursor : Cursor) → Behind file items cursor → (read : Read) → ReadLine file cursor.start cursor.last read →
    accepted (reasons items read.item) ≡ true → Passes items read.item
passes file items cursor b read r ok = record { sound = r.sound; allowed = allowed_here file items cursor b read r; accepts = ok }
