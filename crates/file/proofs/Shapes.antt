-- The fields of each key's lines, as rows. Assumes nothing.
use Rattle.std.proofs.Common.{◌≡◌, ℕ, ◌<◌, ◌≤◌, true, List, [], ◌∷◌, ◌++◌, map, length, get_or, IsErrAnd, decimal, Result, sym, refl, ap, ◌∙◌, subst, arith}
use Rattle.prices.specs.Block.{block_list, listed}
use Rattle.prices.specs.declared.block.Block.{Block}
use Rattle.prices.specs.declared.block.BlockList.{BlockList}
use Rattle.prices.proofs.Filling.{listed_block_list}
use Rattle.file.specs.Number.{Word}
use Rattle.file.specs.Numbers.{Words}
use Rattle.file.specs.Place.{Stands, BreaksAt}
use Rattle.file.specs.Field.{allowed, NumberField, LetterField, ReadNumber, ReadLetter}
use Rattle.file.specs.Item.{Item, Sound, SoundBlocks, BlockWords, key_of, fields, block_text, rule_text}
use Rattle.file.specs.declared.body.Read.{Read}
use Rattle.file.specs.Body.{Body, ReadBody, ReadsBody}
use Rattle.file.specs.Row.{row, ending}
use Rattle.file.specs.declared.field.End.{End}
use Rattle.file.specs.declared.field.End.TheVariants.{Comma, Line}
use Rattle.file.specs.declared.field.Field.{Field}
use Rattle.file.specs.declared.broken.BrokenForm.{BrokenForm}
use Rattle.file.specs.declared.item.ItemWith.TheVariants.{Hour, Asset, Offer, Order, Shed, Meter, Instruct, Rule}
use Rattle.file.specs.declared.item.RuleName.{RuleName}
use Rattle.file.specs.declared.key.Key.{Key}
use Rattle.file.specs.declared.key.Key.TheVariants as key
use Rattle.file.specs.declared.position.Position.{Position}
use Rattle.file.proofs.Places.{same_form_breaks, err_passed}
use Rattle.file.proofs.Rows.{RowForm, Cons, Calls, NumberText, LetterText, field_first, field_later, ending_some, clean_number, clean_letter, number_part, letter_part, comma_end, line_end, row_stands}

-- no field, or a number or a letter and then further fields
abbrev pub End_of_row : List (List ℕ) → Type 0
End_of_row all = all ≡ []

abbrev pub N1 : List (List ℕ) → Type 0
N1 = Cons NumberText End_of_row

abbrev pub LN : List (List ℕ) → Type 0
LN = Cons LetterText N1

abbrev pub NLN : List (List ℕ) → Type 0
NLN = Cons NumberText LN

-- so many numbers
pub record Numbers (count : ℕ) (all : List (List ℕ)) : Type 0 where
  pub values : List ℕ
  pub many : length values ≡ count
  pub words : Words values
  pub same : all ≡ map decimal values

-- 1 to so many blocks
pub record Blocks (room : ℕ) (all : List (List ℕ)) : Type 0 where
  pub blocks : List Block
  pub some : 1 ≤ length blocks
  pub few : length blocks ≤ room
  pub words : BlockWords blocks
  pub same : all ≡ map block_text blocks

pub record Name (all : List (List ℕ)) : Type 0 where
  pub name : RuleName
  pub same : all ≡ rule_text name ∷ []

abbrev pub FieldsOf : Key → List (List ℕ) → Type 0
FieldsOf key.Hour all = Numbers 1 all
FieldsOf key.Asset all = NLN all
FieldsOf key.Offer all = Cons NumberText (Blocks 7) all
FieldsOf key.Order all = Numbers 3 all
FieldsOf key.Shed all = Numbers 2 all
FieldsOf key.Meter all = Numbers 2 all
FieldsOf key.Instruct all = Numbers 4 all
FieldsOf key.Rule all = Name all

number_text : (n : ℕ) → Word n → NumberText (decimal n)
number_text n w = record { value = n; word = w; same = refl }

then : {F : List ℕ → Type 0} {R : List (List ℕ) → Type 0} (f : List ℕ) (rest : List (List ℕ)) → F f → R rest → Cons F R (f ∷ rest)
then f rest p q = record { field = f; rest = rest; first = p; others = q; same = refl }

counted : (bs : List Block) → (block_list bs).count ≡ length bs
unfolding block_list
counted bs = refl

-- a sound list holds as many blocks as it counts
listed_long : (blocks : BlockList) → SoundBlocks blocks → length (listed blocks) ≡ blocks.count
listed_long blocks s = sym (ap (λ (b : BlockList). b.count) s.padded ∙ counted (listed blocks))

numbers : (values : List ℕ) → Words values → Numbers (length values) (map decimal values)
numbers values words = record { values = values; many = refl; words = words; same = refl }

item_fields : (item : Item) → Sound item → FieldsOf (key_of item) (fields item)
item_fields (Hour label) s = numbers (label ∷ []) (s, tt)
item_fields (Asset asset letter owner) s = then _ _ (number_text asset s.0) (then _ _ (record { letter = letter; capital = s.1; same = refl }) (then _ _ (number_text owner s.2) refl))
item_fields (Offer asset blocks) s =
    then _ _ (number_text asset s.0) (record { blocks = listed blocks; some = omega (arith, listed_long blocks s.1, s.1.some); few = omega (arith, listed_long blocks s.1, s.1.few); words = s.1.words; same = refl })
item_fields (Order asset minute level) s = numbers (asset ∷ minute ∷ level ∷ []) (s.0, (s.1, (s.2, tt)))
item_fields (Shed first end) s = numbers (first ∷ end ∷ []) (s.0, (s.1, tt))
item_fields (Meter asset kwh) s = numbers (asset ∷ kwh ∷ []) (s.0, (s.1, tt))
item_fields (Instruct number source sink kwh) s = numbers (number ∷ source ∷ sink ∷ kwh ∷ []) (s.0, (s.1, (s.2, (s.3, tt))))
item_fields (Rule name) s = record { name = name; same = refl }

pub record Says (key : Key) (all : List (List ℕ)) : Type 0 where
  pub item : Item
  pub sound : Sound item
  pub keyed : key_of item ≡ key
  pub same : all ≡ fields item

one : (all : List (List ℕ)) (f : List ℕ) (rest : List (List ℕ)) (g : List ℕ) (others : List (List ℕ)) → all ≡ f ∷ rest → f ≡ g → rest ≡ others → all ≡ g ∷ others
one all f rest g others e p q = e ∙ ap (λ (x : List ℕ). x ∷ rest) p ∙ ap (λ (xs : List (List ℕ)). g ∷ xs) q

pub blocks_sound : (bs : List Block) → 1 ≤ length bs → length bs ≤ 7 → BlockWords bs → SoundBlocks (block_list bs)
unfolding block_list
blocks_sound bs some few words =
    let held = listed_block_list bs few in
    record { some = some; few = few; words = subst BlockWords (sym held) words; padded = ap block_list (sym held) }

pub one_value : (vs : List ℕ) → length vs ≡ 1 → vs ≡ get_or vs 0 0 ∷ []
one_value [] e = absurd (omega arith)
one_value (v ∷ []) e = refl
one_value (v ∷ w ∷ vs) e = absurd (omega arith)

pub two_values : (vs : List ℕ) → length vs ≡ 2 → vs ≡ get_or vs 0 0 ∷ get_or vs 1 0 ∷ []
two_values [] e = absurd (omega arith)
two_values (v ∷ vs) e = ap (λ (t : List ℕ). v ∷ t) (one_value vs (omega arith))

pub three_values : (vs : List ℕ) → length vs ≡ 3 → vs ≡ get_or vs 0 0 ∷ get_or vs 1 0 ∷ get_or vs 2 0 ∷ []
three_values [] e = absurd (omega arith)
three_values (v ∷ vs) e = ap (λ (t : List ℕ). v ∷ t) (two_values vs (omega arith))

pub four_values : (vs : List ℕ) → length vs ≡ 4 → vs ≡ get_or vs 0 0 ∷ get_or vs 1 0 ∷ get_or vs 2 0 ∷ get_or vs 3 0 ∷ []
four_values [] e = absurd (omega arith)
four_values (v ∷ vs) e = ap (λ (t : List ℕ). v ∷ t) (three_values vs (omega arith))

fields_item : (k : Key) (all : List (List ℕ)) → FieldsOf k all → Says k all
fields_item key.Hour all a =
    let e = one_value a.values a.many in
    let w = subst Words e a.words in
    record { item = Hour (get_or a.values 0 0); sound = w.0; keyed = refl; same = a.same ∙ ap (λ (vs : List ℕ). map decimal vs) e }
fields_item key.Asset all a =
    let b = a.others in
    let c = b.others in
    record {
      item = Asset a.first.value b.first.letter c.first.value;
      sound = (a.first.word, b.first.capital, c.first.word);
      keyed = refl;
      same = one _ _ _ _ _ a.same a.first.same (one _ _ _ _ _ b.same b.first.same (one _ _ _ _ _ c.same c.first.same c.others));
    }
fields_item key.Offer all a =
    let b = a.others in
    record {
      item = Offer a.first.value (block_list b.blocks);
      sound = (a.first.word, blocks_sound b.blocks b.some b.few b.words);
      keyed = refl;
      same = one _ _ _ _ _ a.same a.first.same (b.same ∙ ap (λ (t : List Block). map block_text t) (sym (listed_block_list b.blocks b.few)));
    }
fields_item key.Order all a =
    let e = three_values a.values a.many in
    let w = subst Words e a.words in
    record {
      item = Order (get_or a.values 0 0) (get_or a.values 1 0) (get_or a.values 2 0);
      sound = (w.0, w.1.0, w.1.1.0);
      keyed = refl;
      same = a.same ∙ ap (λ (vs : List ℕ). map decimal vs) e;
    }
fields_item key.Shed all a =
    let e = two_values a.values a.many in
    let w = subst Words e a.words in
    record { item = Shed (get_or a.values 0 0) (get_or a.values 1 0); sound = (w.0, w.1.0); keyed = refl; same = a.same ∙ ap (λ (vs : List ℕ). map decimal vs) e }
fields_item key.Meter all a =
    let e = two_values a.values a.many in
    let w = subst Words e a.words in
    record { item = Meter (get_or a.values 0 0) (get_or a.values 1 0); sound = (w.0, w.1.0); keyed = refl; same = a.same ∙ ap (λ (vs : List ℕ). map decimal vs) e }
fields_item key.Instruct all a =
    let e = four_values a.values a.many in
    let w = subst Words e a.words in
    record {
      item = Instruct (get_or a.values 0 0) (get_or a.values 1 0) (get_or a.values 2 0) (get_or a.values 3 0);
      sound = (w.0, w.1.0, w.1.1.0, w.1.1.1.0);
      keyed = refl;
      same = a.same ∙ ap (λ (vs : List ℕ). map decimal vs) e;
    }
fields_item key.Rule all a = record { item = Rule a.name; sound = tt; keyed = refl; same = a.same }

-- what stands behind a key breaks as its row of fields does
pub body_breaks : (k : Key) (file : List ℕ) (start place : ℕ) → BreaksAt (RowForm (FieldsOf k)) file start place → BreaksAt (Body k) file start place
body_breaks k file start place b =
    same_form_breaks (RowForm (FieldsOf k)) (Body k) file start place
    (λ t w. let s = fields_item k w.all w.kind in record { item = s.item; sound = s.sound; keyed = s.keyed; same = w.same ∙ ap row s.same })
    (λ t w. record { all = fields w.item; kind = subst (λ (j : Key). FieldsOf j (fields w.item)) w.keyed (item_fields w.item w.sound); same = w.same })
    b

-- a row that goes on calls for a comma, and one that ends for a line feed
pub calls_line : Calls Line End_of_row
calls_line = record {
  to = λ rest e. subst (λ (r : List (List ℕ)). allowed Line (ending r) ≡ true) (sym e) refl;
  from = λ byte a. ([], refl, sym (line_end byte a));
}

pub some_cons : {F : List ℕ → Type 0} {R : List (List ℕ) → Type 0} (all : List (List ℕ)) → Cons F R all → 0 < length all
some_cons all c = subst (λ (r : List (List ℕ)). 0 < length r) (sym c.same) (omega arith)

pub calls_comma : (R : List (List ℕ) → Type 0) → ((rest : List (List ℕ)) → R rest → 0 < length rest) → (rest : List (List ℕ)) → R rest → Calls Comma R
calls_comma R some rest r = record {
  to = λ rest r. subst (λ (b : ℕ). allowed Comma b ≡ true) (sym (ending_some rest (some rest r))) refl;
  from = λ byte a. (rest, r, ending_some rest (some rest r) ∙ sym (comma_end byte a));
}

zero_text : NumberText (decimal 0)
zero_text = number_text 0 (omega arith)

some_n1 : N1 (decimal 0 ∷ [])
some_n1 = then _ _ zero_text refl

some_ln : LN ((65 ∷ []) ∷ decimal 0 ∷ [])
some_ln = then _ _ (record { letter = 65; capital = (omega arith, omega arith); same = refl }) some_n1

pub calls_n1 : Calls Comma N1
calls_n1 = calls_comma N1 some_cons _ some_n1

pub calls_ln : Calls Comma LN
calls_ln = calls_comma LN some_cons _ some_ln

-- the first number of a row breaks
pub number_first : (R : List (List ℕ) → Type 0) (end : End) (file : List ℕ) (start place : ℕ) → Calls end R → BreaksAt (NumberField end) file start place → BreaksAt (RowForm (Cons NumberText R)) file start place
number_first R end file start place calls b = field_first NumberText R end file start place calls (number_part end file start place b)

pub letter_first : (R : List (List ℕ) → Type 0) (file : List ℕ) (start place : ℕ) → Calls Comma R → BreaksAt LetterField file start place → BreaksAt (RowForm (Cons LetterText R)) file start place
letter_first R file start place calls b = field_first LetterText R Comma file start place calls (letter_part file start place b)

-- what follows a number and its comma breaks
pub number_later : (R : List (List ℕ) → Type 0) (file : List ℕ) (start place : ℕ) (field : Field ℕ) → ((rest : List (List ℕ)) → R rest → 0 < length rest) → ReadNumber Comma file start field →
    BreaksAt (RowForm R) field.next.file.now field.next.at place → BreaksAt (RowForm (Cons NumberText R)) file start place
number_later R file start place field some n b =
    field_later NumberText R R (decimal field.value) file start field.next.at place (number_text field.value n.word) clean_number
    (λ rest r. (r, some rest r)) (λ rest r lt. r)
    (subst (λ (c : ℕ). Stands file start field.next.at (decimal field.value ++ c ∷ [])) (comma_end n.byte n.ends) n.stands.stands)
    (subst (λ (f : List ℕ). BreaksAt (RowForm R) f field.next.at place) n.stands.same b)

pub letter_later : (F : List ℕ → Type 0) (R : List (List ℕ) → Type 0) (file : List ℕ) (start place letter : ℕ) (next : Position) → ReadLetter file start letter next →
    BreaksAt (RowForm (Cons F R)) next.file.now next.at place → BreaksAt (RowForm (Cons LetterText (Cons F R))) file start place
letter_later F R file start place letter next n b =
    field_later LetterText (Cons F R) (Cons F R) (letter ∷ []) file start next.at place (record { letter = letter; capital = n.capital; same = refl }) clean_letter
    (λ rest r. (r, some_cons rest r)) (λ rest r some. r) n.stands.stands
    (subst (λ (f : List ℕ). BreaksAt (RowForm (Cons F R)) f next.at place) n.stands.same b)

-- a number and the rest of its row stand one after the other
pub number_stands : (file : List ℕ) (start next : ℕ) (field : Field ℕ) (rest : List (List ℕ)) → ReadNumber Comma file start field → 0 < length rest →
    Stands field.next.file.now field.next.at next (row rest) → Stands file start next (row (decimal field.value ∷ rest))
number_stands file start next field rest n some s =
    row_stands file start field.next.at next (decimal field.value) n.byte rest n.stands.stands (comma_end n.byte n.ends ∙ sym (ending_some rest some))
    (subst (λ (f : List ℕ). Stands f field.next.at next (row rest)) n.stands.same s)

-- the last number of a row stands with its line feed
pub last_stands : (file : List ℕ) (start : ℕ) (field : Field ℕ) → ReadNumber Line file start field → Stands file start field.next.at (row (decimal field.value ∷ []))
last_stands file start field n = subst (λ (c : ℕ). Stands file start field.next.at (decimal field.value ++ c ∷ [])) (line_end n.byte n.ends) n.stands.stands

pub letter_row_stands : (file : List ℕ) (start letter next : ℕ) (mid : Position) (rest : List (List ℕ)) → ReadLetter file start letter mid → 0 < length rest →
    Stands mid.file.now mid.at next (row rest) → Stands file start next (row ((letter ∷ []) ∷ rest))
letter_row_stands file start letter next mid rest n some s =
    row_stands file start mid.at next (letter ∷ []) 44 rest n.stands.stands (sym (ending_some rest some))
    (subst (λ (f : List ℕ). Stands f mid.at next (row rest)) n.stands.same s)

-- an error that a `?` passes on
pub passed_on : (k : Key) (file : List ℕ) (start : ℕ) (broken : BrokenForm) (r : Result Read BrokenForm) → IsErrAnd r (λ y. y ≡ broken) → BreaksAt (RowForm (FieldsOf k)) file start broken.place → ReadsBody k file start r
passed_on k file start broken r e b = err_passed (λ read. ReadBody k file start read) (λ y. BreaksAt (Body k) file start y.place) broken r e (body_breaks k file start broken.place b)

pub lettered_stand : (file : List ℕ) (start : ℕ) (a : Field ℕ) (letter : ℕ) (mid : Position) (b : Field ℕ) → ReadNumber Comma file start a → ReadLetter a.next.file.now a.next.at letter mid → ReadNumber Line mid.file.now mid.at b →
    Stands file start b.next.at (row (decimal a.value ∷ (letter ∷ []) ∷ decimal b.value ∷ []))
lettered_stand file start a letter mid b p q r =
    number_stands file start b.next.at a ((letter ∷ []) ∷ decimal b.value ∷ []) p (omega arith)
    (letter_row_stands a.next.file.now a.next.at letter b.next.at mid (decimal b.value ∷ []) q (omega arith) (last_stands mid.file.now mid.at b r))
