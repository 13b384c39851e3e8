-- Rows of fields: how the first field breaks, and how a row breaks behind its first field. Assumes nothing.
use Rattle.std.proofs.Common.{◌≡◌, ℕ, suc, ◌<◌, true, List, [], ◌∷◌, ◌++◌, length, get_or, decimal, sym, refl, ap, ◌∙◌, subst, arith}
use Rattle.std.specs.Int.{IsInRange}
use Rattle.std.proofs.lemmas.Bool.Decides.{nat_tests}
use Rattle.std.proofs.lemmas.List.{append_assoc}
use Rattle.file.specs.Number.{Word}
use Rattle.file.specs.Place.{Stands, BreaksAt}
use Rattle.file.specs.Field.{allowed, NumberField, LetterField, Capital}
use Rattle.file.specs.Row.{row, ending}
use Rattle.file.specs.declared.field.End.{End}
use Rattle.file.specs.declared.field.End.TheVariants.{Comma, Line}
use Rattle.file.proofs.Numbers.{digit_in}
use Rattle.file.proofs.Places.{first_breaks_at, later_breaks_at, same_form_breaks, stands_joined}

-- each byte is of a kind
abbrev pub AllOf : (ℕ → Type 0) → List ℕ → Type 0
AllOf P [] = Unit {0}
AllOf P (b ∷ bs) = P b × AllOf P bs

pub all_of_append : (P : ℕ → Type 0) (xs ys : List ℕ) → AllOf P xs → AllOf P ys → AllOf P (xs ++ ys)
all_of_append P [] ys p q = q
all_of_append P (x ∷ xs) ys p q = (p.0, all_of_append P xs ys p.1 q)

all_from_places : (P : ℕ → Type 0) (xs : List ℕ) → ((i : ℕ) → i < length xs → P (get_or xs i 0)) → AllOf P xs
all_from_places P [] each = tt
all_from_places P (x ∷ xs) each = (each 0 (omega arith), all_from_places P xs (λ i lt. each (suc i) (omega arith)))

abbrev pub Digit : ℕ → Type 0
Digit b = IsInRange 48 57 b

-- the bytes of a field come behind the comma in the byte order
abbrev pub Clean : ℕ → Type 0
Clean b = 44 < b

pub digits_all : (n : ℕ) → Word n → AllOf Digit (decimal n)
digits_all n w = all_from_places Digit (decimal n) (λ i lt. digit_in n i (omega arith) lt)

pub clean_decimal : (n : ℕ) → Word n → AllOf Clean (decimal n)
clean_decimal n w = all_from_places Clean (decimal n) (λ i lt. let d = digit_in n i (omega arith) lt in omega arith)

-- two texts of one kind of byte, each followed by another kind, are equal if they stand at one place
pub apart : (P : ℕ → Type 0) (f g : List ℕ) (e d : ℕ) (x y : List ℕ) → AllOf P f → AllOf P g → (P e → ⊥) → (P d → ⊥) →
    f ++ e ∷ x ≡ g ++ d ∷ y → (f ≡ g) × (e ≡ d) × (x ≡ y)
apart P [] [] e d x y p q ne nd same = let h : e ≡ d = cc in let t : x ≡ y = cc in (refl, h, t)
apart P [] (b ∷ g) e d x y p q ne nd same = let h : e ≡ b = cc in absurd (ne (subst P (sym h) q.0))
apart P (b ∷ f) [] e d x y p q ne nd same = let h : b ≡ d = cc in absurd (nd (subst P h p.0))
apart P (b ∷ f) (k ∷ g) e d x y p q ne nd same =
    let h : b ≡ k = cc in
    let t : f ++ e ∷ x ≡ g ++ d ∷ y = cc in
    let r = apart P f g e d x y p.1 q.1 ne nd t in
    let z : f ≡ g = r.0 in
    ((cc), r.1, r.2)

-- a row whose fields are of a kind
pub record RowForm (K : List (List ℕ) → Type 0) (text : List ℕ) : Type 0 where
  pub all : List (List ℕ)
  pub kind : K all
  pub same : text ≡ row all

-- a first field and the rest of a row
pub record Cons (F : List ℕ → Type 0) (R : List (List ℕ) → Type 0) (all : List (List ℕ)) : Type 0 where
  pub field : List ℕ
  pub rest : List (List ℕ)
  pub first : F field
  pub others : R rest
  pub same : all ≡ field ∷ rest

-- a field with the byte that ends it
pub record Part (F : List ℕ → Type 0) (end : End) (text : List ℕ) : Type 0 where
  pub field : List ℕ
  pub byte : ℕ
  pub first : F field
  pub ends : allowed end byte ≡ true
  pub same : text ≡ field ++ byte ∷ []

-- the bytes that end the first field are those that the rest of the row calls for
pub record Calls (end : End) (R : List (List ℕ) → Type 0) : Type 0 where
  pub to : (rest : List (List ℕ)) → R rest → allowed end (ending rest) ≡ true
  pub from : (byte : ℕ) → allowed end byte ≡ true → (rest : List (List ℕ)) × R rest × (ending rest ≡ byte)

pub field_first : (F : List ℕ → Type 0) (R : List (List ℕ) → Type 0) (end : End) (file : List ℕ) (start place : ℕ) → Calls end R →
    BreaksAt (Part F end) file start place → BreaksAt (RowForm (Cons F R)) file start place
field_first F R end file start place calls b =
    first_breaks_at (Part F end) (RowForm (Cons F R)) file start place
    (λ u p.
    let r = calls.from p.byte p.ends in
    let e : (p.field ++ p.byte ∷ []) ++ row r.0 ≡ p.field ++ ending r.0 ∷ row r.0 =
    append_assoc p.field (p.byte ∷ []) (row r.0) ∙ ap (λ (c : ℕ). p.field ++ c ∷ row r.0) (sym r.2) in
    (row r.0, record { all = p.field ∷ r.0; kind = record { field = p.field; rest = r.0; first = p.first; others = r.1; same = refl }; same = ap (λ (t : List ℕ). t ++ row r.0) p.same ∙ e }))
    (λ t w.
    let k = w.kind in (
      k.field ++ ending k.rest ∷ [],
      row k.rest,
      record { field = k.field; byte = ending k.rest; first = k.first; ends = calls.to k.rest k.others; same = refl },
      w.same ∙ ap row k.same ∙ sym (append_assoc k.field (ending k.rest ∷ []) (row k.rest)),
    ))
    b

comma_since : (rest : List (List ℕ)) → 44 ≡ ending rest → 0 < length rest
comma_since [] e = omega arith
comma_since (f ∷ fs) e = omega arith

pub ending_some : (rest : List (List ℕ)) → 0 < length rest → ending rest ≡ 44
ending_some [] lt = omega arith
ending_some (f ∷ fs) lt = refl

not_clean : (rest : List (List ℕ)) → Clean (ending rest) → ⊥
not_clean [] c = omega arith
not_clean (f ∷ fs) c = omega arith

pub field_later : (F : List ℕ → Type 0) (R S : List (List ℕ) → Type 0) (f : List ℕ) (file : List ℕ) (start mid place : ℕ) →
    F f → ((g : List ℕ) → F g → AllOf Clean g) →
    ((rest : List (List ℕ)) → S rest → R rest × (0 < length rest)) → ((rest : List (List ℕ)) → R rest → 0 < length rest → S rest) →
    Stands file start mid (f ++ 44 ∷ []) → BreaksAt (RowForm S) file mid place → BreaksAt (RowForm (Cons F R)) file start place
field_later F R S f file start mid place first clean into back stands b =
    later_breaks_at (RowForm S) (RowForm (Cons F R)) (f ++ 44 ∷ []) file start mid place
    (λ t w.
    let s = into w.all w.kind in
    record {
      all = f ∷ w.all;
      kind = record { field = f; rest = w.all; first = first; others = s.0; same = refl };
      same = append_assoc f (44 ∷ []) t ∙ ap (λ (u : List ℕ). f ++ 44 ∷ u) w.same ∙ ap (λ (c : ℕ). f ++ c ∷ row w.all) (sym (ending_some w.all s.1));
    })
    (λ text more later w e.
    let k = w.kind in
    let same : f ++ 44 ∷ later ≡ k.field ++ ending k.rest ∷ (row k.rest ++ more) =
    sym (append_assoc f (44 ∷ []) later) ∙ e ∙ ap (λ (t : List ℕ). t ++ more) (w.same ∙ ap row k.same) ∙ append_assoc k.field (ending k.rest ∷ row k.rest) more in
    let r = apart Clean f k.field 44 (ending k.rest) later (row k.rest ++ more) (clean f first) (clean k.field k.first) (λ c. omega arith) (not_clean k.rest) same in
    (row k.rest, record { all = k.rest; kind = back k.rest k.others (comma_since k.rest r.1); same = refl }, r.2))
    stands b

-- a field and the rest of its row stand one after the other
pub row_stands : (file : List ℕ) (start mid next : ℕ) (f : List ℕ) (byte : ℕ) (rest : List (List ℕ)) →
    Stands file start mid (f ++ byte ∷ []) → byte ≡ ending rest → Stands file mid next (row rest) → Stands file start next (row (f ∷ rest))
row_stands file start mid next f byte rest s e t =
    subst (λ (text : List ℕ). Stands file start next text) (append_assoc f (byte ∷ []) (row rest) ∙ ap (λ (c : ℕ). f ++ c ∷ row rest) e) (stands_joined file start mid next (f ++ byte ∷ []) (row rest) s t)

-- the text of a number
pub record NumberText (text : List ℕ) : Type 0 where
  pub value : ℕ
  pub word : Word value
  pub same : text ≡ decimal value

pub clean_number : (g : List ℕ) → NumberText g → AllOf Clean g
clean_number g n = subst (λ (t : List ℕ). AllOf Clean t) (sym n.same) (clean_decimal n.value n.word)

pub record LetterText (text : List ℕ) : Type 0 where
  pub letter : ℕ
  pub capital : Capital letter
  pub same : text ≡ letter ∷ []

pub clean_letter : (g : List ℕ) → LetterText g → AllOf Clean g
clean_letter g n = let c = n.capital in subst (λ (t : List ℕ). AllOf Clean t) (sym n.same) (omega arith, tt)

pub comma_end : (byte : ℕ) → allowed Comma byte ≡ true → byte ≡ 44
comma_end byte a = grind (arith, nat_tests)

pub line_end : (byte : ℕ) → allowed Line byte ≡ true → byte ≡ 10
line_end byte a = grind (arith, nat_tests)

pub number_part : (end : End) (file : List ℕ) (start place : ℕ) → BreaksAt (NumberField end) file start place → BreaksAt (Part NumberText end) file start place
number_part end file start place b =
    same_form_breaks (NumberField end) (Part NumberText end) file start place
    (λ t n. record { field = decimal n.value; byte = n.byte; first = record { value = n.value; word = n.word; same = refl }; ends = n.ends; same = n.same })
    (λ t p. record { value = p.first.value; byte = p.byte; word = p.first.word; ends = p.ends; same = p.same ∙ ap (λ (u : List ℕ). u ++ p.byte ∷ []) p.first.same })
    b

pub letter_part : (file : List ℕ) (start place : ℕ) → BreaksAt LetterField file start place → BreaksAt (Part LetterText Comma) file start place
letter_part file start place b =
    same_form_breaks LetterField (Part LetterText Comma) file start place
    (λ t n. record { field = n.letter ∷ []; byte = 44; first = record { letter = n.letter; capital = n.capital; same = refl }; ends = refl; same = n.same })
    (λ t p. record { letter = p.first.letter; capital = p.first.capital; same = p.same ∙ ap (λ (u : List ℕ). u ++ p.byte ∷ []) p.first.same ∙ ap (λ (c : ℕ). p.first.letter ∷ c ∷ []) (comma_end p.byte p.ends) })
    b
