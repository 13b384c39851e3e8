-- Rows of numbers: where one breaks, and what is known when some of its numbers are read. Assumes nothing.
use Rattle.std.proofs.Common.{◌≡◌, ℕ, zero, suc, ◌+◌, ◌-◌, ◌<◌, ◌≤◌, true, ltb, List, [], ◌∷◌, ◌++◌, map, length, take, set, replicate, decimal, sym, refl, ap, ◌∙◌, subst, ⊎_elim, arith}
use Rattle.std.proofs.lemmas.List.{append_assoc, append-nil, length-map, length-replicate, length-set, take_all, take_more_set}
use Rattle.std.proofs.lemmas.Bool.{cases_lt, cond-true, cond-false, lt-ltb, le-ltb}
use Rattle.file.specs.Number.{Word}
use Rattle.file.specs.Numbers.{Words, row_end, NumberRow, ReadNumbers}
use Rattle.file.specs.Place.{Stands, BreaksAt}
use Rattle.file.specs.Field.{allowed, NumberField, ReadNumber}
use Rattle.file.specs.Row.{row, ending}
use Rattle.file.specs.Body.{ReadBody}
use Rattle.file.specs.Item.{Item, Sound, key_of, fields}
use Rattle.file.specs.declared.field.End.{End}
use Rattle.file.specs.declared.field.End.TheVariants.{Comma, Line}
use Rattle.file.specs.declared.field.Field.{Field}
use Rattle.file.specs.declared.position.Position.{Position}
use Rattle.file.proofs.Places.{same_form_breaks, nothing_stands}
use Rattle.file.proofs.Rows.{RowForm, Cons, Calls, NumberText, comma_end, line_end, row_stands}
use Rattle.file.proofs.Shapes.{Numbers, calls_comma, number_first, number_later}

cons_numbers : (n : ℕ) (all : List (List ℕ)) → Cons NumberText (Numbers n) all → Numbers (suc n) all
cons_numbers n all c =
    let t = c.first in
    let r = c.others in
    record {
      values = t.value ∷ r.values;
      many = let m = r.many in omega arith;
      words = (t.word, r.words);
      same = c.same ∙ ap (λ (f : List ℕ). f ∷ c.rest) t.same ∙ ap (λ (fs : List (List ℕ)). decimal t.value ∷ fs) r.same;
    }

split_numbers : (n : ℕ) (all : List (List ℕ)) (values : List ℕ) → length values ≡ suc n → Words values → all ≡ map decimal values → Cons NumberText (Numbers n) all
split_numbers n all [] many words same = absurd (omega arith)
split_numbers n all (v ∷ values) many words same =
    record {
      field = decimal v;
      rest = map decimal values;
      first = record { value = v; word = words.0; same = refl };
      others = record { values = values; many = omega arith; words = words.1; same = refl };
      same = same;
    }

row_of_cons : (n : ℕ) (file : List ℕ) (start place : ℕ) → BreaksAt (RowForm (Cons NumberText (Numbers n))) file start place → BreaksAt (RowForm (Numbers (suc n))) file start place
row_of_cons n file start place b =
    same_form_breaks (RowForm (Cons NumberText (Numbers n))) (RowForm (Numbers (suc n))) file start place
    (λ t w. record { all = w.all; kind = cons_numbers n w.all w.kind; same = w.same })
    (λ t w. let k = w.kind in record { all = w.all; kind = split_numbers n w.all k.values k.many k.words k.same; same = w.same })
    b

some_numbers : (n : ℕ) (all : List (List ℕ)) → Numbers (suc n) all → 0 < length all
some_numbers n all r = omega (arith, r.many, ap length r.same ∙ length-map r.values decimal)

no_numbers : (all : List (List ℕ)) → Numbers 0 all → all ≡ []
no_numbers all r = none r.values r.many r.same
  where
    none : (values : List ℕ) → length values ≡ 0 → all ≡ map decimal values → all ≡ []
    none [] many same = same
    none (v ∷ values) many same = absurd (omega arith)

zeros : (n : ℕ) → Words (replicate n 0)
zeros zero = tt
zeros (suc n) = (omega arith, zeros n)

some_row : (n : ℕ) → Numbers n (map decimal (replicate n 0))
some_row n = record { values = replicate n 0; many = length-replicate n 0; words = zeros n; same = refl }

comma_behind : (place count : ℕ) → place + 1 < count → row_end place count ≡ Comma
comma_behind place count lt = cond-true (ltb (place + 1) count) Comma Line (lt-ltb (place + 1) count lt)

line_behind : (place count : ℕ) → count ≤ place + 1 → row_end place count ≡ Line
line_behind place count le = cond-false (ltb (place + 1) count) Comma Line (le-ltb (place + 1) count le)

calls_none : Calls Line (Numbers 0)
calls_none = record {
  to = λ rest r. subst (λ (fs : List (List ℕ)). allowed Line (ending fs) ≡ true) (sym (no_numbers rest r)) refl;
  from = λ byte a. ([], some_row 0, sym (line_end byte a));
}

calls_row : (place count : ℕ) → place < count → Calls (row_end place count) (Numbers (count - (place + 1)))
calls_row place count lt =
    ⊎_elim
    (λ (more : place + 1 < count).
    let n : count - (place + 1) ≡ suc (count - (place + 2)) = omega arith in
    subst (λ (m : ℕ). Calls (row_end place count) (Numbers m)) (sym n) (subst (λ (e : End). Calls e (Numbers (suc (count - (place + 2))))) (sym (comma_behind place count more))
    (calls_comma (Numbers (suc (count - (place + 2)))) (some_numbers (count - (place + 2))) _ (some_row (suc (count - (place + 2)))))))
    (λ (last : count ≤ place + 1).
    let n : count - (place + 1) ≡ 0 = omega arith in
    subst (λ (m : ℕ). Calls (row_end place count) (Numbers m)) (sym n) (subst (λ (e : End). Calls e (Numbers 0)) (sym (line_behind place count last)) calls_none))
    (cases_lt (place + 1) count)

-- what is known when so many numbers, each with its comma, are read
pub record Taken (count : ℕ) (file : List ℕ) (start taken : ℕ) (values : List ℕ) (next : Position) : Type 0 where
  pub long : length values ≡ count
  pub few : taken ≤ count
  pub same : next.file.now ≡ file
  pub words : Words (take taken values)
  pub breaks : (place : ℕ) → taken < count → BreaksAt (RowForm (Numbers (count - taken))) file next.at place → BreaksAt (RowForm (Numbers count)) file start place
  pub stands : (rest : List ℕ) (end : ℕ) → length rest + taken ≡ count → Stands file next.at end (row (map decimal rest)) → Stands file start end (row (map decimal (take taken values ++ rest)))

pub none_taken : (count : ℕ) (values : List ℕ) (here : Position) → length values ≡ count → Taken count here.file.now here.at 0 values here
none_taken count values here long =
    let n : count - 0 ≡ count = omega arith in
    record {
      long = long;
      few = omega arith;
      same = refl;
      words = tt;
      breaks = λ place lt b. subst (λ (m : ℕ). BreaksAt (RowForm (Numbers m)) here.file.now here.at place) n b;
      stands = λ rest end e s. s;
    }

words_more : (vs : List ℕ) (v : ℕ) → Words vs → Word v → Words (vs ++ v ∷ [])
words_more [] v w word = (word, tt)
words_more (u ∷ vs) v w word = (w.0, words_more vs v w.1 word)

byte_behind : (place count byte : ℕ) (rest : List ℕ) → length rest + (place + 1) ≡ count → allowed (row_end place count) byte ≡ true → byte ≡ ending (map decimal rest)
byte_behind place count byte [] e a = line_end byte (subst (λ (end : End). allowed end byte ≡ true) (line_behind place count (omega arith)) a)
byte_behind place count byte (v ∷ rest) e a = comma_end byte (subst (λ (end : End). allowed end byte ≡ true) (comma_behind place count (omega arith)) a)

pub one_more_taken : (count : ℕ) (file : List ℕ) (start taken : ℕ) (values : List ℕ) (next : Position) (field : Field ℕ) → taken < count → Taken count file start taken values next →
    ReadNumber (row_end taken count) next.file.now next.at field → Taken count file start (taken + 1) (set values taken field.value) field.next
one_more_taken count file start taken values next field lt t other =
    let n = subst (λ (f : List ℕ). ReadNumber (row_end taken count) f next.at field) t.same other in
    let front : take (taken + 1) (set values taken field.value) ≡ take taken values ++ field.value ∷ [] = take_more_set values taken field.value (let l = t.long in omega arith) in
    record {
      long = length-set values taken field.value ∙ t.long;
      few = omega arith;
      same = n.stands.same;
      words = subst Words (sym front) (words_more (take taken values) field.value t.words n.word);
      breaks = λ place more b.
          (let m : count - taken ≡ suc (count - (taken + 1)) = omega arith in
          let k : count - (taken + 1) ≡ suc (count - (taken + 2)) = omega arith in
          t.breaks place lt (subst (λ (j : ℕ). BreaksAt (RowForm (Numbers j)) file next.at place) (sym m)
          (row_of_cons (count - (taken + 1)) file next.at place
          (number_later (Numbers (count - (taken + 1))) file next.at place field (λ rest r. some_numbers (count - (taken + 2)) rest (subst (λ (j : ℕ). Numbers j rest) k r))
          (subst (λ (end : End). ReadNumber end file next.at field) (comma_behind taken count more) n)
          (subst (λ (f : List ℕ). BreaksAt (RowForm (Numbers (count - (taken + 1)))) f field.next.at place) (sym n.stands.same) b)))));
      stands = λ rest end e s.
          subst (λ (vs : List ℕ). Stands file start end (row (map decimal vs))) (sym (ap (λ (vs : List ℕ). vs ++ rest) front ∙ append_assoc (take taken values) (field.value ∷ []) rest))
          (t.stands (field.value ∷ rest) end (omega arith)
          (row_stands file next.at field.next.at end (decimal field.value) n.byte (map decimal rest) n.stands.stands (byte_behind taken count n.byte rest e n.ends) s));
    }

pub all_taken : (count : ℕ) (file : List ℕ) (start taken : ℕ) (values : List ℕ) (next : Position) → count ≤ taken → Taken count file start taken values next → ReadNumbers count file start values next
all_taken count file start taken values next done t =
    let whole : take taken values ≡ values = take_all taken values (let l = t.long in omega arith) in
    let few = t.few in
    record {
      many = t.long;
      words = subst Words whole t.words;
      stands = record {
        same = t.same;
        stands = subst (λ (vs : List ℕ). Stands file start next.at (row (map decimal vs))) (append-nil (take taken values) ∙ whole)
            (t.stands [] next.at (omega arith) (nothing_stands file next.at next.at (subst (λ (f : List ℕ). next.at ≤ length f) t.same next.within) refl));
      };
    }

pub number_row : (count : ℕ) (file : List ℕ) (start place : ℕ) → BreaksAt (RowForm (Numbers count)) file start place → BreaksAt (NumberRow count) file start place
number_row count file start place b =
    same_form_breaks (RowForm (Numbers count)) (NumberRow count) file start place
    (λ t w. let k = w.kind in record { values = k.values; many = k.many; words = k.words; same = w.same ∙ ap row k.same })
    (λ t w. record { all = map decimal w.values; kind = record { values = w.values; many = w.many; words = w.words; same = refl }; same = w.same })
    b

pub row_of_numbers : (count : ℕ) (file : List ℕ) (start place : ℕ) → BreaksAt (NumberRow count) file start place → BreaksAt (RowForm (Numbers count)) file start place
row_of_numbers count file start place b =
    same_form_breaks (NumberRow count) (RowForm (Numbers count)) file start place
    (λ t w. record { all = map decimal w.values; kind = record { values = w.values; many = w.many; words = w.words; same = refl }; same = w.same })
    (λ t w. let k = w.kind in record { values = k.values; many = k.many; words = k.words; same = w.same ∙ ap row k.same })
    b

-- the next number of a row breaks
pub taken_breaks : (count : ℕ) (file : List ℕ) (start taken : ℕ) (values : List ℕ) (next : Position) (end : End) (place : ℕ) → taken < count → Taken count file start taken values next → end ≡ row_end taken count →
    BreaksAt (NumberField end) next.file.now next.at place → BreaksAt (NumberRow count) file start place
taken_breaks count file start taken values next end place lt t e b =
    let m : count - taken ≡ suc (count - (taken + 1)) = omega arith in
    number_row count file start place (t.breaks place lt (subst (λ (j : ℕ). BreaksAt (RowForm (Numbers j)) file next.at place) (sym m)
    (row_of_cons (count - (taken + 1)) file next.at place
    (number_first (Numbers (count - (taken + 1))) (row_end taken count) file next.at place (calls_row taken count lt)
    (subst (λ (d : End). BreaksAt (NumberField d) file next.at place) e (subst (λ (f : List ℕ). BreaksAt (NumberField end) f next.at place) t.same b))))))

-- numbers that were read are an item whose fields they are
pub numbers_read : (item : Item) (count : ℕ) (file : List ℕ) (start : ℕ) (values written : List ℕ) (next : Position) → ReadNumbers count file start values next → values ≡ written →
    (Words written → Sound item) → map decimal written ≡ fields item → ReadBody (key_of item) file start (record { item = item; next = next.at })
numbers_read item count file start values written next n e sound same =
    record {
      sound = sound (subst Words e n.words);
      keyed = refl;
      stands = subst (λ (fs : List (List ℕ)). Stands file start next.at (row fs)) (ap (λ (vs : List ℕ). map decimal vs) e ∙ same) n.stands.stands;
    }
