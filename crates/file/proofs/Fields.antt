-- Where a number with the byte that ends it breaks. Assumes nothing.
use Rattle.std.proofs.Common.{◌≡◌, ℕ, suc, ◌+◌, ◌-◌, ◌<◌, ◌≤◌, true, false, ◌⊎◌, List, [], ◌∷◌, ◌++◌, length, get_or, drop, decimal, sym, refl, ap, ◌∙◌, subst, inl, inr, ⊎_elim, arith}
use Rattle.std.specs.Char.{is_ascii_uppercase}
use Rattle.std.specs.Int.{IsInRange}
use Rattle.std.specs.List.{between}
use Rattle.std.proofs.lemmas.Bool.Decides.{nat_tests}
use Rattle.std.proofs.lemmas.Bool.{cases_eq}
use Rattle.std.proofs.lemmas.Fmt.{decimal_nonempty}
use Rattle.std.proofs.lemmas.List.{append_assoc, append-nil, length-append, drop_more, length-drop, same_from_push}
use Rattle.std.proofs.lemmas.List.Edits.{between_none, between_more}
use Rattle.file.specs.Number.{Word, Longest}
use Rattle.file.specs.Place.{Breaks, BreaksAt, ByteAt, Behind, StandsBefore}
use Rattle.file.specs.Field.{allowed, NumberField, LetterField, Capital}
use Rattle.file.specs.declared.broken.BrokenForm.{BrokenForm}
use Rattle.file.specs.declared.field.End.{End}
use Rattle.file.specs.declared.field.End.TheVariants.{Colon, Comma, Line, CommaOrLine}
use Rattle.file.specs.declared.position.Position.{Position}
use Rattle.file.proofs.Numbers.{digit_next}
use Rattle.file.proofs.Places.{overlap, stands_more}

-- no digit ends a field
pub no_digit : (end : End) (byte : ℕ) → allowed end byte ≡ true → IsInRange 48 57 byte → ⊥
no_digit Colon byte a d = grind (arith, nat_tests)
no_digit Comma byte a d = grind (arith, nat_tests)
no_digit Line byte a d = grind (arith, nat_tests)
no_digit CommaOrLine byte a d = grind (arith, nat_tests)

pub some_end : (end : End) → (byte : ℕ) × (allowed end byte ≡ true)
some_end Colon = (58, refl)
some_end Comma = (44, refl)
some_end Line = (10, refl)
some_end CommaOrLine = (10, refl)

-- what was read of a number is nothing or its digits
read_so_far : (file : List ℕ) (start value next : ℕ) → Longest file start value next → (between start next file ≡ []) ⊎ ((start < next) × (between start next file ≡ decimal value))
read_so_far file start value next l =
    ⊎_elim
    (λ (e : next ≡ start). inl (subst (λ (n : ℕ). between start n file ≡ []) (sym e) (between_none file start)))
    (λ (ne : next ≡ start → ⊥). let lt : start < next = omega (arith, l.order) in inr (lt, l.same lt))
    (cases_eq next start)

-- an end byte does not stand among the digits read
end_not_read : (file : List ℕ) (start value next : ℕ) → Longest file start value next → (end : End) (byte : ℕ) (ds more : List ℕ) →
    allowed end byte ≡ true → between start next file ≡ ds ++ byte ∷ more → ⊥
end_not_read file start value next l end byte ds more a e =
    ⊎_elim
    (λ (z : between start next file ≡ []).
    let n : 0 ≡ length ds + suc (length more) = ap length (sym z ∙ e) ∙ length-append ds (byte ∷ more) in omega arith)
    (λ (p : (start < next) × (between start next file ≡ decimal value)).
    no_digit end byte a (digit_next value ds byte more (omega (arith, l.small)) (sym p.1 ∙ e)))
    (read_so_far file start value next l)

some_digits : (n : ℕ) (more : List ℕ) → Word n → decimal n ++ more ≡ [] → ⊥
some_digits n more w e = omega (arith, decimal_nonempty n (omega arith), sym (length-append (decimal n) more) ∙ ap length e)

abbrev NoEnd : End → List ℕ → ℕ → ℕ → Type 0
NoEnd end file start next = (byte : ℕ) (later : List ℕ) → start < next → drop next file ≡ byte ∷ later → allowed end byte ≡ true → ⊥

-- the digits of a field are just those read, so that its end byte comes next
ends_here : (end : End) (file : List ℕ) (start value next : ℕ) → Longest file start value next → NoEnd end file start next →
    (n byte : ℕ) → Word n → allowed end byte ≡ true → (later : List ℕ) → decimal n ≡ between start next file → drop next file ≡ byte ∷ later → ⊥
ends_here end file start value next l bad n byte w a later e left =
    ⊎_elim
    (λ (z : between start next file ≡ []). some_digits n [] w (append-nil (decimal n) ∙ e ∙ z))
    (λ (p : (start < next) × (between start next file ≡ decimal value)). bad byte later p.0 left a)
    (read_so_far file start value next l)

-- the field has more digits than were read
goes_past : (end : End) (file : List ℕ) (start value next : ℕ) → Longest file start value next → NoEnd end file start next →
    (n byte : ℕ) → Word n → allowed end byte ≡ true → (z more : List ℕ) → decimal n ≡ between start next file ++ z → z ++ byte ∷ more ≡ drop next file → ⊥
goes_past end file start value next l bad n byte w a [] more e left = ends_here end file start value next l bad n byte w a more (e ∙ append-nil (between start next file)) (sym left)
goes_past end file start value next l bad n byte w a (d ∷ z) more e left = l.longest d n (z ++ byte ∷ more) z w (sym left) e

-- the field has fewer digits than were read
stops_before : (end : End) (file : List ℕ) (start value next : ℕ) → Longest file start value next → NoEnd end file start next →
    (n byte : ℕ) → Word n → allowed end byte ≡ true → (z more : List ℕ) → between start next file ≡ decimal n ++ z → byte ∷ more ≡ z ++ drop next file → ⊥
stops_before end file start value next l bad n byte w a [] more e left =
    ends_here end file start value next l bad n byte w a more (sym (e ∙ append-nil (decimal n))) (sym left)
stops_before end file start value next l bad n byte w a (d ∷ z) more e left =
    let head : byte ≡ d = cc in
    end_not_read file start value next l end byte (decimal n) z a (e ∙ ap (λ (b : ℕ). decimal n ++ b ∷ z) (sym head))

-- the field ends within what was read and one byte more
last_byte : (end : End) (file : List ℕ) (start value next : ℕ) → Longest file start value next → NoEnd end file start next →
    (n stop byte : ℕ) → Word n → allowed end stop ≡ true → (later z more : List ℕ) → drop next file ≡ byte ∷ later →
    between start next file ++ byte ∷ [] ≡ decimal n ++ z → stop ∷ [] ≡ z ++ more → ⊥
last_byte end file start value next l bad n stop byte w a later [] more left e z-is =
    l.longest byte n later [] w left (sym (e ∙ append-nil (decimal n)))
last_byte end file start value next l bad n stop byte w a later (d ∷ []) more left e z-is =
    let head : stop ≡ d = cc in
    let same = same_from_push (between start next file) (decimal n) byte d e in
    ends_here end file start value next l bad n byte w (subst (λ (b : ℕ). allowed end b ≡ true) (head ∙ sym same.1) a) later (sym same.0) left
last_byte end file start value next l bad n stop byte w a later (d ∷ x ∷ z) more left e z-is =
    let tail : [] ≡ x ∷ z ++ more = cc in
    let none : 0 ≡ suc (length (z ++ more)) = ap length tail in
    omega arith

-- a number whose end byte is missing breaks behind its digits
field_breaks : (end : End) (file : List ℕ) (start value next : ℕ) → Longest file start value next →
    ((byte : ℕ) (later : List ℕ) → start < next → drop next file ≡ byte ∷ later → allowed end byte ≡ true → ⊥) → BreaksAt (NumberField end) file start next
field_breaks end file start value next l bad =
    let read = between start next file in
    record {
      order = l.order;
      within = l.within;
      breaks = record {
        begins =
            ⊎_elim
            (λ (z : read ≡ []). (decimal 0 ++ (some_end end).0 ∷ [], record { value = 0; byte = (some_end end).0; word = omega arith; ends = (some_end end).1; same = ap (λ (t : List ℕ). t ++ (decimal 0 ++ (some_end end).0 ∷ [])) z }))
            (λ (p : (start < next) × (read ≡ decimal value)). ((some_end end).0 ∷ [], record { value = value; byte = (some_end end).0; word = l.small; ends = (some_end end).1; same = ap (λ (t : List ℕ). t ++ (some_end end).0 ∷ []) p.1 }))
            (read_so_far file start value next l);
        departs = λ byte later more e f.
            ⊎_elim
            (λ (q : (z : List ℕ) × (decimal f.value ≡ (read ++ byte ∷ []) ++ z) × (z ++ f.byte ∷ [] ≡ more)).
            l.longest byte f.value later q.0 f.word e (q.1 ∙ append_assoc read (byte ∷ []) q.0))
            (λ (q : (z : List ℕ) × (read ++ byte ∷ [] ≡ decimal f.value ++ z) × (f.byte ∷ [] ≡ z ++ more)).
            last_byte end file start value next l bad f.value f.byte byte f.word f.ends later q.0 more e q.1 q.2)
            (overlap (decimal f.value) (read ++ byte ∷ []) (f.byte ∷ []) more (sym (append_assoc read (byte ∷ []) more ∙ f.same)));
        absent = λ text more f e.
            (let whole : read ++ drop next file ≡ decimal f.value ++ f.byte ∷ more = e ∙ ap (λ (t : List ℕ). t ++ more) f.same ∙ append_assoc (decimal f.value) (f.byte ∷ []) more in
            ⊎_elim
            (λ (q : (z : List ℕ) × (decimal f.value ≡ read ++ z) × (z ++ f.byte ∷ more ≡ drop next file)).
            goes_past end file start value next l bad f.value f.byte f.word f.ends q.0 more q.1 q.2)
            (λ (q : (z : List ℕ) × (read ≡ decimal f.value ++ z) × (f.byte ∷ more ≡ z ++ drop next file)).
            stops_before end file start value next l bad f.value f.byte f.word f.ends q.0 more q.1 q.2)
            (overlap (decimal f.value) read (f.byte ∷ more) (drop next file) (sym whole)));
      };
    }

pub byte_left : (file : List ℕ) (place byte : ℕ) (later : List ℕ) → drop place file ≡ byte ∷ later → (place < length file) × (get_or file place 0 ≡ byte)
byte_left file place byte later e =
    let long : length file - place ≡ suc (length later) = sym (length-drop place file) ∙ ap length e in
    let inside : place < length file = omega arith in
    (inside, ap (λ (t : List ℕ). get_or t 0 0) (sym (drop_more file place 0 inside) ∙ e))

byte_here : (file : List ℕ) (here : Position) (byte : ℕ) (later : List ℕ) → here.file.now ≡ file → drop here.at file ≡ byte ∷ later → ByteAt here.file.now here.at byte
byte_here file here byte later same e =
    let p = byte_left file here.at byte later e in
    subst (λ (f : List ℕ). ByteAt f here.at byte) (sym same) (record { inside = p.0; same = p.1 })

-- the digits and their end byte stand in the file
pub field_stands : (file : List ℕ) (start value byte : ℕ) (end next : Position) → Longest file start value end.at → end.file.now ≡ file → start < end.at →
    ByteAt end.file.now end.at byte → Behind end.file.now (end.at + 1) next → StandsBefore file start next (decimal value ++ byte ∷ [])
field_stands file start value byte end next l same lt here behind =
    let at_end : ByteAt file end.at byte = subst (λ (f : List ℕ). ByteAt f end.at byte) same here in
    record {
      same = behind.same ∙ same;
      stands = stands_more file start end.at (decimal value) byte next.at (record { order = l.order; within = l.within; same = l.same lt }) at_end.inside at_end.same behind.at_is;
    }

-- a number with no byte behind it that may end it breaks there
pub field_broken : (end : End) (file : List ℕ) (start value : ℕ) (here : Position) (broken : BrokenForm) → Longest file start value here.at → here.file.now ≡ file → broken ≡ record { place = here.at } →
    ((byte : ℕ) → start < here.at → ByteAt here.file.now here.at byte → allowed end byte ≡ true → ⊥) → BreaksAt (NumberField end) file start broken.place
field_broken end file start value here broken l same e bad =
    subst (λ (b : BrokenForm). BreaksAt (NumberField end) file start b.place) (sym e)
    (field_breaks end file start value here.at l (λ byte later lt left a. bad byte lt (byte_here file here byte later same left) a))

one_byte : (file : List ℕ) (start : ℕ) → start < length file → between start (start + 1) file ≡ get_or file start 0 ∷ []
one_byte file start inside = between_more file start start 0 (omega arith) inside ∙ ap (λ (t : List ℕ). t ++ get_or file start 0 ∷ []) (between_none file start)

-- no letter stands here
letter_breaks : (file : List ℕ) (start : ℕ) → start ≤ length file → (start < length file → Capital (get_or file start 0) → ⊥) → BreaksAt LetterField file start start
letter_breaks file start within bad =
    let none : between start start file ≡ [] = between_none file start in
    record {
      order = omega arith;
      within = within;
      breaks = subst (λ (t : List ℕ). Breaks LetterField t (drop start file)) (sym none) (record {
        begins = (65 ∷ 44 ∷ [], record { letter = 65; capital = (omega arith, omega arith); same = refl });
        departs = λ byte later more e f.
            (let p = byte_left file start byte later e in
            let same : byte ∷ more ≡ f.letter ∷ 44 ∷ [] = f.same in
            let here : byte ≡ f.letter = cc in
            bad p.0 (subst (λ (b : ℕ). Capital b) (sym (p.1 ∙ here)) f.capital));
        absent = λ text more f e.
            (let p = byte_left file start f.letter (44 ∷ more) (e ∙ ap (λ (t : List ℕ). t ++ more) f.same) in
            bad p.0 (subst (λ (b : ℕ). Capital b) (sym p.1) f.capital));
      });
    }

-- no comma stands behind the letter
comma_breaks : (file : List ℕ) (start : ℕ) → start < length file → Capital (get_or file start 0) → (start + 1 < length file → get_or file (start + 1) 0 ≡ 44 → ⊥) → BreaksAt LetterField file start (start + 1)
comma_breaks file start inside capital bad =
    let letter = get_or file start 0 in
    record {
      order = omega arith;
      within = omega arith;
      breaks = subst (λ (t : List ℕ). Breaks LetterField t (drop (start + 1) file)) (sym (one_byte file start inside)) (record {
        begins = (44 ∷ [], record { letter = letter; capital = capital; same = refl });
        departs = λ byte later more e f.
            (let p = byte_left file (start + 1) byte later e in
            let same : letter ∷ byte ∷ more ≡ f.letter ∷ 44 ∷ [] = f.same in
            let here : byte ≡ 44 = cc in
            bad p.0 (p.1 ∙ here));
        absent = λ text more f e.
            (let same : letter ∷ drop (start + 1) file ≡ f.letter ∷ 44 ∷ more = e ∙ ap (λ (t : List ℕ). t ++ more) f.same in
            let left : drop (start + 1) file ≡ 44 ∷ more = cc in
            let p = byte_left file (start + 1) 44 more left in
            bad p.0 p.1);
      });
    }

pub is_capital : (letter : ℕ) → true ≡ is_ascii_uppercase letter → Capital letter
is_capital letter e = grind (arith, nat_tests)

pub no_capital : (letter : ℕ) → false ≡ is_ascii_uppercase letter → Capital letter → ⊥
no_capital letter e capital = grind (arith, nat_tests)

pub letter_missing : (file : List ℕ) (here : Position) (broken : BrokenForm) → here.file.now ≡ file → broken ≡ record { place = here.at } → ((byte : ℕ) → ByteAt here.file.now here.at byte → Capital byte → ⊥) →
    BreaksAt LetterField file here.at broken.place
letter_missing file here broken same e bad =
    subst (λ (b : BrokenForm). BreaksAt LetterField file here.at b.place) (sym e)
    (letter_breaks file here.at (subst (λ (f : List ℕ). here.at ≤ length f) same here.within) (λ inside capital.
    bad (get_or file here.at 0) (subst (λ (f : List ℕ). ByteAt f here.at (get_or file here.at 0)) (sym same) (record { inside = inside; same = refl })) capital))

pub comma_missing : (file : List ℕ) (start letter : ℕ) (comma : Position) (broken : BrokenForm) → ByteAt file start letter → Capital letter → Behind file (start + 1) comma → broken ≡ record { place = comma.at } →
    (ByteAt comma.file.now comma.at 44 → ⊥) → BreaksAt LetterField file start broken.place
comma_missing file start letter comma broken l capital b e bad =
    subst (λ (x : BrokenForm). BreaksAt LetterField file start x.place) (sym e)
    (subst (λ (at : ℕ). BreaksAt LetterField file start at) (sym b.at_is)
    (comma_breaks file start l.inside (subst (λ (x : ℕ). Capital x) (sym l.same) capital) (λ inside is.
    bad (subst (λ (f : List ℕ). ByteAt f comma.at 44) (sym b.same) (subst (λ (at : ℕ). ByteAt file at 44) (sym b.at_is) (record { inside = inside; same = is }))))))
