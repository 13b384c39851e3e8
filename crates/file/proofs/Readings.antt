-- Each sound item has a writing of its own: what stands at a place is the writing of one item at most. Assumes nothing.
use Rattle.std.proofs.Common.{◌≡◌, ℕ, cond, eqb, List, [], ◌∷◌, ◌++◌, map, get_or, drop, decimal, sym, refl, ap, ◌∙◌, subst, arith}
use Rattle.std.proofs.lemmas.Fmt.{digits_value-decimal}
use Rattle.std.proofs.lemmas.List.{append_assoc, append_cancel_left}
use Rattle.std.proofs.lemmas.Bool.{cond-false, ne_eqb}
use Rattle.prices.specs.Block.{block_list, listed}
use Rattle.prices.specs.declared.block.Block.{Block}
use Rattle.file.specs.Item.{Item, Sound, BlockWords, key_of, fields, writing, block_text, rule_text}
use Rattle.file.specs.Key.{key_text}
use Rattle.file.specs.Number.{Word}
use Rattle.file.specs.Row.{row, ending}
use Rattle.file.specs.declared.item.ItemWith.TheVariants.{Hour, Asset, Offer, Order, Shed, Meter, Instruct, Rule}
use Rattle.file.specs.declared.item.RuleName.{RuleName}
use Rattle.file.specs.declared.item.RuleName.TheVariants.{Largest, Running}
use Rattle.file.specs.declared.key.Key.{Key}
use Rattle.file.specs.declared.key.Key.TheVariants as key
use Rattle.file.proofs.Numbers.{own, read_on}
use Rattle.file.proofs.Rows.{AllOf, Clean, Digit, apart, digits_all, clean_decimal, all_of_append}

-- the number that digits write
value_of : List ℕ → ℕ
value_of text = read_on 0 text

is_value : (n : ℕ) → Word n → value_of (decimal n) ≡ n
unfolding value_of
is_value n w = digits_value-decimal own n (omega arith)

-- what stands before and behind the colon of a block
abbrev before : List ℕ → List ℕ
before [] = []
before (b ∷ bs) = cond (eqb b 58) [] (b ∷ before bs)

abbrev behind : List ℕ → List ℕ
behind [] = []
behind (b ∷ bs) = cond (eqb b 58) bs (behind bs)

before_colon : (ds rest : List ℕ) → AllOf Digit ds → before (ds ++ 58 ∷ rest) ≡ ds
before_colon [] rest a = refl
before_colon (d ∷ ds) rest a = cond-false (eqb d 58) [] (d ∷ before (ds ++ 58 ∷ rest)) (ne_eqb d 58 (λ e. omega (arith, a.0))) ∙ ap (λ (t : List ℕ). d ∷ t) (before_colon ds rest a.1)

behind_colon : (ds rest : List ℕ) → AllOf Digit ds → behind (ds ++ 58 ∷ rest) ≡ rest
behind_colon [] rest a = refl
behind_colon (d ∷ ds) rest a = cond-false (eqb d 58) (ds ++ 58 ∷ rest) (behind (ds ++ 58 ∷ rest)) (ne_eqb d 58 (λ e. omega (arith, a.0))) ∙ behind_colon ds rest a.1

block_of : List ℕ → Block
block_of text = record { size = value_of (before text); price = value_of (behind text) }

is_block : (b : Block) → Word b.size → Word b.price → block_of (block_text b) ≡ b
unfolding block_of
is_block b size price =
    let s : value_of (before (block_text b)) ≡ b.size = ap value_of (before_colon (decimal b.size) (decimal b.price) (digits_all b.size size)) ∙ is_value b.size size in
    let p : value_of (behind (block_text b)) ≡ b.price = ap value_of (behind_colon (decimal b.size) (decimal b.price) (digits_all b.size size)) ∙ is_value b.price price in
    λ i. record { size = s i; price = p i }

are_blocks : (bs : List Block) → BlockWords bs → map block_of (map block_text bs) ≡ bs
are_blocks [] w = refl
are_blocks (b ∷ bs) w = ap (λ (c : Block). c ∷ map block_of (map block_text bs)) (is_block b w.0 w.1) ∙ ap (λ (cs : List Block). b ∷ cs) (are_blocks bs w.2)

name_of : List ℕ → RuleName
name_of text = cond (eqb (get_or text 0 0) 114) Running Largest

-- the item that fields write
recover : Key → List (List ℕ) → Item
recover key.Hour fs = Hour (value_of (get_or fs 0 []))
recover key.Asset fs = Asset (value_of (get_or fs 0 [])) (get_or (get_or fs 1 []) 0 0) (value_of (get_or fs 2 []))
recover key.Offer fs = Offer (value_of (get_or fs 0 [])) (block_list (map block_of (drop 1 fs)))
recover key.Order fs = Order (value_of (get_or fs 0 [])) (value_of (get_or fs 1 [])) (value_of (get_or fs 2 []))
recover key.Shed fs = Shed (value_of (get_or fs 0 [])) (value_of (get_or fs 1 []))
recover key.Meter fs = Meter (value_of (get_or fs 0 [])) (value_of (get_or fs 1 []))
recover key.Instruct fs = Instruct (value_of (get_or fs 0 [])) (value_of (get_or fs 1 [])) (value_of (get_or fs 2 [])) (value_of (get_or fs 3 []))
recover key.Rule fs = Rule (name_of (get_or fs 0 []))

is_name : (name : RuleName) → name_of (rule_text name) ≡ name
unfolding name_of
is_name Largest = refl
is_name Running = refl

recovered : (item : Item) → Sound item → recover (key_of item) (fields item) ≡ item
unfolding recover
recovered (Hour label) s = ap Hour (is_value label s)
recovered (Asset asset letter owner) s = λ i. Asset (is_value asset s.0 i) letter (is_value owner s.2 i)
recovered (Offer asset blocks) s = λ i. Offer (is_value asset s.0 i) ((ap block_list (are_blocks (listed blocks) s.1.words) ∙ sym s.1.padded) i)
recovered (Order asset minute level) s = λ i. Order (is_value asset s.0 i) (is_value minute s.1 i) (is_value level s.2 i)
recovered (Shed first end) s = λ i. Shed (is_value first s.0 i) (is_value end s.1 i)
recovered (Meter asset kwh) s = λ i. Meter (is_value asset s.0 i) (is_value kwh s.1 i)
recovered (Instruct number source sink kwh) s = λ i. Instruct (is_value number s.0 i) (is_value source s.1 i) (is_value sink s.2 i) (is_value kwh s.3 i)
recovered (Rule name) s = ap Rule (is_name name)

-- each field of a row comes behind the comma in the byte order
abbrev CleanRow : List (List ℕ) → Type 0
CleanRow [] = Unit {0}
CleanRow (f ∷ fs) = AllOf Clean f × CleanRow fs

not_clean : (rest : List (List ℕ)) → Clean (ending rest) → ⊥
not_clean [] c = omega arith
not_clean (f ∷ fs) c = omega arith

first_unique : (f : List ℕ) (fs : List (List ℕ)) (g : List ℕ) (gs : List (List ℕ)) (x y : List ℕ) → CleanRow (f ∷ fs) → CleanRow (g ∷ gs) → row (f ∷ fs) ++ x ≡ row (g ∷ gs) ++ y →
    (f ≡ g) × (ending fs ≡ ending gs) × (row fs ++ x ≡ row gs ++ y)
first_unique f fs g gs x y a b e =
    apart Clean f g (ending fs) (ending gs) (row fs ++ x) (row gs ++ y) a.0 b.0 (not_clean fs) (not_clean gs)
    (sym (append_assoc f (ending fs ∷ row fs) x) ∙ e ∙ append_assoc g (ending gs ∷ row gs) y)

row_unique : (f : List ℕ) (fs : List (List ℕ)) (g : List ℕ) (gs : List (List ℕ)) (x y : List ℕ) → CleanRow (f ∷ fs) → CleanRow (g ∷ gs) → row (f ∷ fs) ++ x ≡ row (g ∷ gs) ++ y → f ∷ fs ≡ g ∷ gs
row_unique f [] g [] x y a b e = ap (λ (t : List ℕ). t ∷ []) (first_unique f [] g [] x y a b e).0
row_unique f [] g (k ∷ gs) x y a b e = absurd (omega (arith, (first_unique f [] g (k ∷ gs) x y a b e).1))
row_unique f (h ∷ fs) g [] x y a b e = absurd (omega (arith, (first_unique f (h ∷ fs) g [] x y a b e).1))
row_unique f (h ∷ fs) g (k ∷ gs) x y a b e =
    let r = first_unique f (h ∷ fs) g (k ∷ gs) x y a b e in
    ap (λ (t : List ℕ). t ∷ h ∷ fs) r.0 ∙ ap (λ (t : List (List ℕ)). g ∷ t) (row_unique h fs k gs x y a.1 b.1 r.2)

clean_blocks : (bs : List Block) → BlockWords bs → CleanRow (map block_text bs)
clean_blocks [] w = tt
clean_blocks (b ∷ bs) w =
    (all_of_append Clean (decimal b.size) (58 ∷ decimal b.price) (clean_decimal b.size w.0) (omega arith, clean_decimal b.price w.1), clean_blocks bs w.2)

clean_name : (name : RuleName) → AllOf Clean (rule_text name)
clean_name Largest = (omega arith, (omega arith, (omega arith, (omega arith, (omega arith, (omega arith, (omega arith, tt)))))))
clean_name Running = (omega arith, (omega arith, (omega arith, (omega arith, (omega arith, (omega arith, (omega arith, tt)))))))

clean_fields : (item : Item) → Sound item → CleanRow (fields item)
clean_fields (Hour label) s = (clean_decimal label s, tt)
clean_fields (Asset asset letter owner) s = (clean_decimal asset s.0, (let c = s.1 in ((omega arith, tt), (clean_decimal owner s.2, tt))))
clean_fields (Offer asset blocks) s = (clean_decimal asset s.0, clean_blocks (listed blocks) s.1.words)
clean_fields (Order asset minute level) s = (clean_decimal asset s.0, (clean_decimal minute s.1, (clean_decimal level s.2, tt)))
clean_fields (Shed first end) s = (clean_decimal first s.0, (clean_decimal end s.1, tt))
clean_fields (Meter asset kwh) s = (clean_decimal asset s.0, (clean_decimal kwh s.1, tt))
clean_fields (Instruct number source sink kwh) s = (clean_decimal number s.0, (clean_decimal source s.1, (clean_decimal sink s.2, (clean_decimal kwh s.3, tt))))
clean_fields (Rule name) s = (clean_name name, tt)

some_field : (item : Item) → (f : List ℕ) × (fs : List (List ℕ)) × (fields item ≡ f ∷ fs)
some_field (Hour label) = (_, _, refl)
some_field (Asset asset letter owner) = (_, _, refl)
some_field (Offer asset blocks) = (_, _, refl)
some_field (Order asset minute level) = (_, _, refl)
some_field (Shed first end) = (_, _, refl)
some_field (Meter asset kwh) = (_, _, refl)
some_field (Instruct number source sink kwh) = (_, _, refl)
some_field (Rule name) = (_, _, refl)

-- the first two bytes of a key tell which it is
abbrev key_from : ℕ → ℕ → Key
key_from first second =
    cond (eqb first 104) key.Hour (cond (eqb first 97) key.Asset (cond (eqb first 111) (cond (eqb second 102) key.Offer key.Order)
    (cond (eqb first 115) key.Shed (cond (eqb first 109) key.Meter (cond (eqb first 105) key.Instruct key.Rule)))))

key_told : (k : Key) (x : List ℕ) → key_from (get_or (key_text k ++ x) 0 0) (get_or (key_text k ++ x) 1 0) ≡ k
key_told key.Hour x = refl
key_told key.Asset x = refl
key_told key.Offer x = refl
key_told key.Order x = refl
key_told key.Shed x = refl
key_told key.Meter x = refl
key_told key.Instruct x = refl
key_told key.Rule x = refl

pub key_unique : (j k : Key) (x y : List ℕ) → key_text j ++ x ≡ key_text k ++ y → j ≡ k
key_unique j k x y e = sym (key_told j x) ∙ ap (λ (t : List ℕ). key_from (get_or t 0 0) (get_or t 1 0)) e ∙ key_told k y

-- what stands at a place is the writing of one sound item at most
pub written_once : (a b : Item) (x y : List ℕ) → Sound a → Sound b → writing a ++ x ≡ writing b ++ y → a ≡ b
written_once a b x y p q e =
    let ka = key_text (key_of a) in
    let whole : ka ++ (row (fields a) ++ x) ≡ key_text (key_of b) ++ (row (fields b) ++ y) = sym (append_assoc ka (row (fields a)) x) ∙ e ∙ append_assoc (key_text (key_of b)) (row (fields b)) y in
    let keys : key_of a ≡ key_of b = key_unique (key_of a) (key_of b) (row (fields a) ++ x) (row (fields b) ++ y) whole in
    let rows : row (fields a) ++ x ≡ row (fields b) ++ y =
    append_cancel_left ka (row (fields a) ++ x) (row (fields b) ++ y) (whole ∙ ap (λ (k : Key). key_text k ++ (row (fields b) ++ y)) (sym keys)) in
    let u = some_field a in
    let v = some_field b in
    let same : fields a ≡ fields b =
    u.2 ∙ row_unique u.0 u.1 v.0 v.1 x y (subst CleanRow u.2 (clean_fields a p)) (subst CleanRow v.2 (clean_fields b q))
    (ap (λ (fs : List (List ℕ)). row fs ++ x) (sym u.2) ∙ rows ∙ ap (λ (fs : List (List ℕ)). row fs ++ y) v.2) ∙ sym v.2 in
    sym (recovered a p) ∙ ap (λ (k : Key). recover k (fields a)) keys ∙ ap (λ (fs : List (List ℕ)). recover (key_of b) fs) same ∙ recovered b q
