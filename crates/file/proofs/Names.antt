-- Where the name of a rule breaks. Assumes nothing.
use Rattle.std.proofs.Common.{◌≡◌, ℕ, ◌+◌, ◌<◌, ◌≤◌, List, [], ◌∷◌, ◌++◌, length, get_or, take, drop, sym, refl, ap, ◌∙◌, subst, arith}
use Rattle.std.specs.List.{between}
use Rattle.std.proofs.lemmas.List.{take-append-drop, drop_more, length-drop, get_or_at, length-take-le, append-nil, length-append}
use Rattle.file.specs.Item.{rule_text}
use Rattle.file.specs.Literal.{Agrees}
use Rattle.file.specs.Place.{Breaks, BreaksAt}
use Rattle.file.specs.Row.{row}
use Rattle.file.specs.Rule.{OnlyName}
use Rattle.file.specs.declared.item.RuleName.{RuleName}
use Rattle.file.specs.declared.item.RuleName.TheVariants.{Largest, Running}
use Rattle.file.proofs.Fields.{byte_left}
use Rattle.file.proofs.Keys.{whole_agrees}
use Rattle.file.proofs.Places.{drop_stands, stands_from_drop}
use Rattle.file.proofs.Rows.{RowForm}
use Rattle.file.proofs.Shapes.{Name}

abbrev line : RuleName → List ℕ
line name = rule_text name ++ 10 ∷ []

first_byte : (name : RuleName) (more : List ℕ) → get_or (line name ++ more) 0 0 ≡ get_or (rule_text name) 0 0
first_byte Largest more = refl
first_byte Running more = refl

some_bytes : (name : RuleName) → 0 < length (line name)
some_bytes Largest = omega arith
some_bytes Running = omega arith

cons_long : (b : ℕ) (x : List ℕ) → length (b ∷ x) ≡ length x + 1
cons_long b x = omega arith

same_first : (p : List ℕ) (b : ℕ) (x y : List ℕ) → get_or (p ++ b ∷ x) 0 0 ≡ get_or (p ++ b ∷ y) 0 0
same_first [] b x y = refl
same_first (c ∷ p) b x y = refl

first_left : (file : List ℕ) (start : ℕ) (b : ℕ) → 0 < length (drop start file) → get_or (drop start file) 0 0 ≡ b → (start < length file) × (get_or file start 0 ≡ b)
first_left file start b some e =
    let inside : start < length file = omega (arith, length-drop start file) in
    (inside, ap (λ (t : List ℕ). get_or t 0 0) (sym (drop_more file start 0 inside)) ∙ e)

-- the name that the file begins is the only one that can stand
pub name_breaks : (file : List ℕ) (start : ℕ) (name : RuleName) (count : ℕ) → start ≤ length file → OnlyName file start name →
    Agrees file start (line name) count → count < length (line name) → BreaksAt (RowForm Name) file start (start + count)
name_breaks file start name count within only a short =
    let text = line name in
    let read = between start (start + count) file in
    let left = drop (start + count) file in
    let is_read : read ≡ take count text = a.stands.same in
    let whole : drop start file ≡ take count text ++ left = drop_stands file start (start + count) (take count text) a.stands in
    record {
      order = omega arith;
      within = a.stands.within;
      breaks = subst (λ (t : List ℕ). Breaks (RowForm Name) t left) (sym is_read) (record {
        begins = (drop count text, record { all = rule_text name ∷ []; kind = record { name = name; same = refl }; same = take-append-drop count text });
        departs = λ byte later more e w.
            (let n = w.kind.name in
            let is : take count text ++ byte ∷ more ≡ line n = w.same ∙ ap row w.kind.same in
            let here : drop start file ≡ take count text ++ byte ∷ later = whole ∙ ap (λ (t : List ℕ). take count text ++ t) e in
            let first : get_or (drop start file) 0 0 ≡ get_or (rule_text n) 0 0 =
            ap (λ (t : List ℕ). get_or t 0 0) here ∙ same_first (take count text) byte later more ∙ ap (λ (t : List ℕ). get_or t 0 0) (is ∙ sym (append-nil (line n))) ∙ first_byte n [] in
            let f = first_left file start (get_or (rule_text n) 0 0) (omega (arith, ap length here, length-append (take count text) (byte ∷ later), cons_long byte later)) first in
            let same : n ≡ name = only n f.0 f.1 in
            let at_byte : get_or text count 0 ≡ byte =
            ap (λ (t : List ℕ). get_or t count 0) (sym (is ∙ ap line same)) ∙ get_or_at (take count text) byte more 0 count (length-take-le count text (omega arith)) in
            let b = byte_left file (start + count) byte later e in
            a.differs short b.0 (b.1 ∙ sym at_byte));
        absent = λ t more w e.
            (let n = w.kind.name in
            let is : t ≡ line n = w.same ∙ ap row w.kind.same in
            let here : drop start file ≡ line n ++ more = whole ∙ e ∙ ap (λ (u : List ℕ). u ++ more) is in
            let first : get_or (drop start file) 0 0 ≡ get_or (rule_text n) 0 0 = ap (λ (u : List ℕ). get_or u 0 0) here ∙ first_byte n more in
            let f = first_left file start (get_or (rule_text n) 0 0) (omega (arith, ap length here, length-append (line n) more, some_bytes n)) first in
            let same : n ≡ name = only n f.0 f.1 in
            let st = stands_from_drop file start text more within (here ∙ ap (λ (m : RuleName). line m ++ more) same) in
            omega (arith, whole_agrees file start text count a st));
      });
    }
