-- Decimal texts: their digits, their value, and how a number goes on or ends. Assumes nothing.
use Rattle.std.proofs.Common.{◌≡◌, ℕ, zero, suc, ◌+◌, ◌-◌, ◌*◌, ◌/◌, ◌%◌, ◌^◌, ◌<◌, ◌≤◌, ◌⊎◌, List, [], ◌∷◌, ◌++◌, length, get_or, drop, decimal, sym, refl, ap, ◌∙◌, subst, inl, inr, ⊎_elim, arith, rules, MatchOption, Option, Bool, ltb}
use Rattle.std.specs.Bool.{then_some}
use Rattle.std.specs.Int.{IsInRange}
use Rattle.std.specs.Str.Parse.{AllDigits}
use Rattle.std.specs.List.{between}
use Rattle.std.proofs.lemmas.Str.Parse.{IsNumeralModel, numerals_by_fold, tells_digits, digit_at, digits_value_short}
use Rattle.std.proofs.lemmas.Fmt.{decimal_digit, decimal_step, length-decimal-le, first_decimal, digits_decimal, digits_value-decimal}
use Rattle.std.proofs.lemmas.List.{length-append, length-drop, get_or_at, get_or-drop, drop_more}
use Rattle.std.proofs.lemmas.Bool.{cases_lt, cases_eq, lt-ltb, le-ltb}
use Rattle.std.proofs.lemmas.List.Edits.{length-between, between_more, between_none}
use Rattle.file.specs.declared.position.Position.{Position}
use Rattle.file.specs.Number.{Word, Started, Goes, Ends, Longest, StandsLongest}
use Rattle.file.specs.Place.{Behind}
use Rattle.file.specs.declared.number.Number.{Number}

abbrev pub read_on : ℕ → List ℕ → ℕ
read_on n [] = n
read_on n (c ∷ cs) = read_on (n * 10 + (c - 48)) cs

pub own : IsNumeralModel (AllDigits 10) (read_on 0)
own = numerals_by_fold _ tells_digits read_on (search rules)

readOn_append : (n : ℕ) (xs ys : List ℕ) → read_on n (xs ++ ys) ≡ read_on (read_on n xs) ys
readOn_append n [] ys = refl
readOn_append n (x ∷ xs) ys = readOn_append (n * 10 + (x - 48)) xs ys

readOn_grows : (n : ℕ) (xs : List ℕ) → n ≤ read_on n xs
readOn_grows n [] = omega arith
readOn_grows n (x ∷ xs) = omega (arith, readOn_grows (n * 10 + (x - 48)) xs)

pub word_small : (n : ℕ) → Word n → n < 2 ^ 64
word_small n h = omega arith

-- each byte of a decimal text is a digit
pub digit_in : (n i : ℕ) → n < 2 ^ 64 → i < length (decimal n) → IsInRange 48 57 (get_or (decimal n) i 0)
digit_in n i small lt = digit_at (decimal n) i (digits_decimal own n small) lt

-- a decimal text that goes on after digits is at least ten times their number
pub goes_on_value : (n : ℕ) (ds : List ℕ) (byte : ℕ) (more : List ℕ) → n < 2 ^ 64 → decimal n ≡ ds ++ byte ∷ more → read_on 0 ds * 10 + (byte - 48) ≤ n
goes_on_value n ds byte more small e =
    let v : read_on 0 (ds ++ byte ∷ more) ≡ n = subst (λ (t : List ℕ). read_on 0 t ≡ n) e (digits_value-decimal own n small) in
    omega (arith, v, readOn_append 0 ds (byte ∷ more), readOn_grows (read_on 0 ds * 10 + (byte - 48)) more)

pub digit_next : (n : ℕ) (ds : List ℕ) (byte : ℕ) (more : List ℕ) → n < 2 ^ 64 → decimal n ≡ ds ++ byte ∷ more → IsInRange 48 57 byte
digit_next n ds byte more small e =
    let at : get_or (decimal n) (length ds) 0 ≡ byte = ap (λ (t : List ℕ). get_or t (length ds) 0) e ∙ get_or_at ds byte more 0 (length ds) refl in
    let long : length (decimal n) ≡ length ds + length (byte ∷ more) = ap length e ∙ length-append ds (byte ∷ more) in
    subst (λ (b : ℕ). IsInRange 48 57 b) at (digit_in n (length ds) small (omega arith))

zero_or_not : (n : ℕ) → (n ≡ 0) ⊎ (0 < n)
zero_or_not zero = inl refl
zero_or_not (suc n) = inr (omega arith)

-- no decimal text goes on after a leading zero
pub no_leading_zero : (n : ℕ) (byte : ℕ) (more : List ℕ) → n < 2 ^ 64 → decimal n ≡ decimal 0 ++ byte ∷ more → ⊥
no_leading_zero n byte more small e =
    let zero_text : decimal 0 ≡ 48 ∷ [] = decimal_digit 0 (omega arith) in
    let long : decimal n ≡ 48 ∷ byte ∷ more = e ∙ ap (λ (t : List ℕ). t ++ byte ∷ more) zero_text in
    ⊎_elim (λ (z : n ≡ 0).
    let same : 48 ∷ byte ∷ more ≡ 48 ∷ [] = sym long ∙ ap decimal z ∙ zero_text in
    let short : suc (suc (length more)) ≡ 1 = ap length same in
    omega (arith, short))
    (λ (p : 0 < n). omega (arith, first_decimal n p small, ap (λ (t : List ℕ). get_or t 0 0) long))
    (zero_or_not n)

pub below_power : (value k : ℕ) → value < 2 ^ 64 → length (decimal value) ≤ k → value < 10 ^ k
below_power value k small short =
    subst (λ (n : ℕ). n < 10 ^ k) (digits_value-decimal own value small) (digits_value_short own (decimal value) k (digits_decimal own value small) short)

pub above_power : (value k : ℕ) → value < 2 ^ 64 → 0 < k → k < length (decimal value) → 10 ^ k ≤ value
above_power value k small some long =
    ⊎_elim (λ (lt : value < 10 ^ k). absurd (omega (arith, length-decimal-le k value some lt small))) (λ (le : 10 ^ k ≤ value). le) (cases_lt value (10 ^ k))

digits_so_far : (file : List ℕ) (start value next : ℕ) → start < next → next ≤ length file → between start next file ≡ decimal value → length (decimal value) ≡ next - start
digits_so_far file start value next lt within same = sym (ap length same) ∙ length-between file start next within

-- the digits read so far tell how large the number is
started : (file : List ℕ) (start value next : ℕ) → start ≤ next → next ≤ length file → Word value →
    (next ≡ start → value ≡ 0) → (start < next → between start next file ≡ decimal value) → Started value (next - start)
started file start value next order within small none same =
    ⊎_elim
    (λ (none_yet : next ≡ start).
    let z : value ≡ 0 = none none_yet in
    record { none = λ e. z; eight = λ lt. omega arith; nine = λ e. omega arith; ten = λ lt. absurd (omega arith) })
    (λ (some : next ≡ start → ⊥).
    let lt : start < next = omega arith in
    let long : length (decimal value) ≡ next - start = digits_so_far file start value next lt within (same lt) in
    record {
      none = λ e. absurd (omega arith);
      eight = λ few. below_power value 8 (omega arith) (omega arith);
      nine = λ e. below_power value 9 (omega arith) (omega arith);
      ten = λ many. above_power value 9 (omega arith) (omega arith) (omega arith);
    })
    (cases_eq next start)

ten_more : (value byte : ℕ) → IsInRange 48 57 byte → ((value * 10 + (byte - 48)) / 10 ≡ value) × ((value * 10 + (byte - 48)) % 10 ≡ byte - 48)
ten_more value byte digit = (omega arith, omega arith)

-- one more digit makes the text of the number that goes on so
one_digit_more : (file : List ℕ) (start value next more : ℕ) → start ≤ next → next < length file → Word value →
    (next ≡ start → value ≡ 0) → (start < next → between start next file ≡ decimal value) →
    Goes value (next - start) (get_or file next 0) more → between start (next + 1) file ≡ decimal more
one_digit_more file start value next more order within small none same goes =
    let byte = get_or file next 0 in
    let read : between start (next + 1) file ≡ between start next file ++ byte ∷ [] = between_more file start next 0 order within in
    let parts = ten_more value byte goes.digit in
    ⊎_elim
    (λ (none_yet : next ≡ start).
    let z : value ≡ 0 = none none_yet in
    let one : more ≡ byte - 48 = omega (arith, goes.value_is) in
    let text : decimal more ≡ (48 + more) ∷ [] = decimal_digit more (omega (arith, goes.digit)) in
    let here : 48 + more ≡ byte = omega (arith, goes.digit) in
    let empty : between start next file ≡ [] = subst (λ (n : ℕ). between start n file ≡ []) (sym none_yet) (between_none file start) in
    read ∙ ap (λ (t : List ℕ). t ++ byte ∷ []) empty ∙ ap (λ (b : ℕ). b ∷ []) (sym here) ∙ sym text)
    (λ (some : next ≡ start → ⊥).
    let lt : start < next = omega arith in
    let large : 0 < value = ⊎_elim (λ (e : next - start ≡ 0). absurd (omega arith)) (λ (p : 0 < value). p) goes.no_zero in
    let step : decimal more ≡ decimal (more / 10) ++ (48 + more % 10) ∷ [] = decimal_step more (omega (arith, goes.value_is)) (omega (arith, goes.small)) in
    let front : more / 10 ≡ value = ap (λ (n : ℕ). n / 10) goes.value_is ∙ parts.0 in
    let back : 48 + more % 10 ≡ byte = omega (arith, goes.digit, ap (λ (n : ℕ). n % 10) goes.value_is ∙ parts.1) in
    read ∙ ap (λ (t : List ℕ). t ++ byte ∷ []) (same lt) ∙ sym (step ∙ ap (λ (n : ℕ). decimal n ++ (48 + more % 10) ∷ []) front ∙ ap (λ (b : ℕ). decimal value ++ b ∷ []) back))
    (cases_eq next start)

-- where the number ends, no number begins with what was read and the next byte
no_longer : (file : List ℕ) (start value next : ℕ) → start ≤ next → next ≤ length file → Word value →
    (next ≡ start → value ≡ 0) → (start < next → between start next file ≡ decimal value) →
    (next < length file → Ends value (next - start) (get_or file next 0)) →
    (byte n : ℕ) (later more : List ℕ) → Word n → drop next file ≡ byte ∷ later → decimal n ≡ between start next file ++ byte ∷ more → ⊥
no_longer file start value next order within small none same ends byte n later more word rest e =
    let some_left : length file - next ≡ suc (length later) = sym (length-drop next file) ∙ ap length rest in
    let inside : next < length file = omega arith in
    let here : get_or file next 0 ≡ byte = ap (λ (t : List ℕ). get_or t 0 0) (sym (drop_more file next 0 inside) ∙ rest) in
    let digit : IsInRange 48 57 byte = digit_next n (between start next file) byte more (omega arith) e in
    let stop : (0 < next - start) × ((value ≡ 0) ⊎ (2 ^ 32 ≤ value * 10 + (byte - 48))) = subst (λ (b : ℕ). Ends value (next - start) b) here (ends inside) digit in
    let lt : start < next = omega (arith, stop.0) in
    let longer : decimal n ≡ decimal value ++ byte ∷ more = e ∙ ap (λ (t : List ℕ). t ++ byte ∷ more) (same lt) in
    ⊎_elim
    (λ (z : value ≡ 0). no_leading_zero n byte more (omega arith) (longer ∙ ap (λ (v : ℕ). decimal v ++ byte ∷ more) z))
    (λ (large : 2 ^ 32 ≤ value * 10 + (byte - 48)).
    omega (arith, goes_on_value n (decimal value) byte more (omega arith) longer, digits_value-decimal own value (omega arith)))
    stop.1

-- so many digits of a number stand at a place
pub record Digits (file : List ℕ) (start value digits : ℕ) : Type 0 where
  pub within : start + digits ≤ length file
  pub small : Word value
  pub none : digits ≡ 0 → value ≡ 0
  pub same : 0 < digits → between start (start + digits) file ≡ decimal value

pub no_digits : (file : List ℕ) (start : ℕ) → start ≤ length file → Digits file start 0 0
no_digits file start within = record { within = omega arith; small = omega arith; none = λ e. refl; same = λ lt. absurd (omega arith) }

pub digits_started : (file : List ℕ) (start value digits : ℕ) → Digits file start value digits → Started value digits
digits_started file start value digits d =
    let k : start + digits - start ≡ digits = omega arith in
    subst (λ (n : ℕ). Started value n) k (started file start value (start + digits) (omega arith) d.within d.small (λ e. d.none (omega arith)) (λ lt. d.same (omega arith)))

byte_of_rest : (file rest : List ℕ) (start i : ℕ) → rest ≡ drop start file → get_or rest i 0 ≡ get_or file (start + i) 0
byte_of_rest file rest start i e = ap (λ (t : List ℕ). get_or t i 0) e ∙ get_or-drop start file i 0

long_rest : (file rest : List ℕ) (start : ℕ) → rest ≡ drop start file → length rest ≡ length file - start
long_rest file rest start e = ap length e ∙ length-drop start file

pub one_more_digit : (file rest : List ℕ) (start value digits more : ℕ) → rest ≡ drop start file → Digits file start value digits → digits < length rest → Goes value digits (get_or rest digits 0) more →
    Digits file start more (digits + 1)
one_more_digit file rest start value digits more e d inside goes =
    let k : digits ≡ start + digits - start = omega arith in
    let n : start + digits + 1 ≡ start + (digits + 1) = omega arith in
    let here : start + digits < length file = omega (arith, long_rest file rest start e) in
    record {
      within = omega arith;
      small = goes.small;
      none = λ z. absurd (omega arith);
      same = λ lt. subst (λ (m : ℕ). between start m file ≡ decimal more) n
          (one_digit_more file start value (start + digits) more (omega arith) here d.small (λ z. d.none (omega arith)) (λ some. d.same (omega arith))
          (subst (λ (m : ℕ). Goes value m (get_or file (start + digits) 0) more) k (subst (λ (b : ℕ). Goes value digits b more) (byte_of_rest file rest start digits e) goes)));
    }

-- where the digits end, the longest number ends
pub digits_longest : (file rest : List ℕ) (start value digits next : ℕ) → rest ≡ drop start file → Digits file start value digits → next ≡ start + digits →
    (digits < length rest → Ends value digits (get_or rest digits 0)) → Longest file start value next
digits_longest file rest start value digits next e d at ends =
    let k : digits ≡ start + digits - start = omega arith in
    subst (λ (n : ℕ). Longest file start value n) (sym at) (record {
      order = omega arith;
      within = d.within;
      small = d.small;
      same = λ lt. d.same (omega arith);
      longest = no_longer file start value (start + digits) (omega arith) d.within d.small (λ z. d.none (omega arith)) (λ some. d.same (omega arith)) (λ lt.
          subst (λ (m : ℕ). Ends value m (get_or file (start + digits) 0)) k (subst (λ (b : ℕ). Ends value digits b) (byte_of_rest file rest start digits e) (ends (omega (arith, long_rest file rest start e)))));
    })

-- so many digits of a number stand up to a position
pub record DigitsBefore (file : List ℕ) (start value digits : ℕ) (next : Position) : Type 0 where
  pub same : next.file.now ≡ file
  pub at_is : next.at ≡ start + digits
  pub read : Digits file start value digits

pub one_more_before : (file rest : List ℕ) (start value digits more : ℕ) (next after : Position) → rest ≡ drop start file → DigitsBefore file start value digits next → digits < length rest →
    Goes value digits (get_or rest digits 0) more → Behind next.file.now (next.at + 1) after → DigitsBefore file start more (digits + 1) after
one_more_before file rest start value digits more next after e d inside goes b =
    record {
      same = b.same ∙ d.same;
      at_is = omega (arith, b.at_is, d.at_is);
      read = one_more_digit file rest start value digits more e d.read inside goes;
    }

-- the longest number, or none where it has no digits
pub number_found : (file : List ℕ) (start value digits : ℕ) (next : Position) (found : Option Number) → DigitsBefore file start value digits next → Longest file start value next.at →
    found ≡ then_some (ltb start next.at) (record { value = value; next = next }) → MatchOption found (Longest file start 0 start) (λ number. StandsLongest file start number)
number_found file start value digits next found d l e =
    ⊎_elim
    (λ (lt : start < next.at).
    subst (λ (o : Option Number). MatchOption o (Longest file start 0 start) (λ number. StandsLongest file start number))
    (sym (e ∙ ap (λ (b : Bool). then_some b (record { value = value; next = next })) (lt-ltb start next.at lt))) (record { same = d.same; some = lt; longest = l }))
    (λ (le : next.at ≤ start).
    let none : next.at ≡ start = omega (arith, l.order) in
    let zero : value ≡ 0 = d.read.none (omega (arith, d.at_is)) in
    subst (λ (o : Option Number). MatchOption o (Longest file start 0 start) (λ number. StandsLongest file start number))
    (sym (e ∙ ap (λ (b : Bool). then_some b (record { value = value; next = next })) (le-ltb start next.at le)))
    (subst (λ (n : ℕ). Longest file start 0 n) none (subst (λ (v : ℕ). Longest file start v next.at) zero l)))
    (cases_lt start next.at)
