-- Blocks of an offer: where one breaks, and where a row of them breaks. Assumes nothing.
use Rattle.std.proofs.Common.{◌≡◌, ℕ, suc, ◌+◌, ◌-◌, ◌<◌, ◌≤◌, true, false, ltb, ◌⊎◌, List, [], ◌∷◌, ◌++◌, map, length, decimal, sym, refl, ap, ◌∙◌, subst, inl, inr, ⊎_elim, arith}
use Rattle.std.proofs.lemmas.Bool.Decides.{nat_tests}
use Rattle.std.proofs.lemmas.List.{append_assoc, length-append, length-map}
use Rattle.std.proofs.lemmas.Bool.{cases_lt, cond-true, cond-false, lt-ltb, le-ltb, eqb-true, eqb-false}
use Rattle.prices.specs.Block.{block_list, listed}
use Rattle.prices.specs.declared.block.Block.{Block}
use Rattle.prices.proofs.Filling.{listed_block_list}
use Rattle.file.specs.Number.{Word}
use Rattle.file.specs.Place.{Stands, StandsBefore, BreaksAt}
use Rattle.file.specs.Field.{allowed, NumberField, ReadNumber}
use Rattle.file.specs.Item.{BlockWords, block_text}
use Rattle.file.specs.Offer.{BlockField, BlockRow, ReadBlock, ReadBlocks, block_end}
use Rattle.file.specs.Row.{row, ending}
use Rattle.file.specs.Body.{ReadBody}
use Rattle.file.specs.declared.field.End.{End}
use Rattle.file.specs.declared.field.End.TheVariants.{Colon, Comma, Line, CommaOrLine}
use Rattle.file.specs.declared.field.Field.{Field}
use Rattle.file.specs.declared.item.ItemWith.TheVariants as item
use Rattle.file.specs.declared.key.Key.TheVariants.{Offer}
use Rattle.file.specs.declared.position.Position.{Position}
use Rattle.file.proofs.Fields.{some_end}
use Rattle.file.proofs.Places.{first_breaks_at, later_breaks_at, same_form_breaks, stands_joined}
use Rattle.file.proofs.Rows.{RowForm, Cons, Part, Calls, NumberText, AllOf, Digit, Clean, apart, digits_all, clean_decimal, all_of_append, field_first, field_later, ending_some, line_end, row_stands}
use Rattle.file.proofs.Shapes.{Blocks, blocks_sound, number_first, number_later, number_stands, calls_comma}

colon_end : (byte : ℕ) → allowed Colon byte ≡ true → byte ≡ 58
colon_end byte a = grind (arith, nat_tests)

regroup : (size byte price : List ℕ) (end : ℕ) → (size ++ byte) ++ (price ++ end ∷ []) ≡ (size ++ (byte ++ price)) ++ end ∷ []
regroup size byte price end = append_assoc size byte (price ++ end ∷ []) ∙ ap (λ (t : List ℕ). size ++ t) (sym (append_assoc byte price (end ∷ []))) ∙ sym (append_assoc size (byte ++ price) (end ∷ []))

-- the size of a block breaks
pub size_breaks : (end : End) (file : List ℕ) (start place : ℕ) → BreaksAt (NumberField Colon) file start place → BreaksAt (BlockField end) file start place
size_breaks end file start place b =
    first_breaks_at (NumberField Colon) (BlockField end) file start place
    (λ u n.
    let e = some_end end in (
      decimal 0 ++ e.0 ∷ [],
      record {
        block = record { size = n.value; price = 0 };
        byte = e.0;
        size = n.word;
        price = omega arith;
        ends = e.1;
        same = ap (λ (t : List ℕ). t ++ (decimal 0 ++ e.0 ∷ [])) (n.same ∙ ap (λ (c : ℕ). decimal n.value ++ c ∷ []) (colon_end n.byte n.ends)) ∙ regroup (decimal n.value) (58 ∷ []) (decimal 0) e.0;
      },
    ))
    (λ t w. (
      decimal w.block.size ++ 58 ∷ [],
      decimal w.block.price ++ w.byte ∷ [],
      record { value = w.block.size; byte = 58; word = w.size; ends = refl; same = refl },
      w.same ∙ sym (regroup (decimal w.block.size) (58 ∷ []) (decimal w.block.price) w.byte),
    ))
    b

either_end : (byte : ℕ) → allowed CommaOrLine byte ≡ true → (byte ≡ 44) ⊎ (byte ≡ 10)
either_end byte a = grind (arith, nat_tests)

no_digit_colon : Digit 58 → ⊥
no_digit_colon d = omega arith

-- the price of a block breaks behind its size
pub price_breaks : (end : End) (file : List ℕ) (start place : ℕ) (size : Field ℕ) → ReadNumber Colon file start size →
    BreaksAt (NumberField end) size.next.file.now size.next.at place → BreaksAt (BlockField end) file start place
price_breaks end file start place size n b =
    later_breaks_at (NumberField end) (BlockField end) (decimal size.value ++ 58 ∷ []) file start size.next.at place
    (λ t p.
    record {
      block = record { size = size.value; price = p.value };
      byte = p.byte;
      size = n.word;
      price = p.word;
      ends = p.ends;
      same = ap (λ (u : List ℕ). (decimal size.value ++ 58 ∷ []) ++ u) p.same ∙ regroup (decimal size.value) (58 ∷ []) (decimal p.value) p.byte;
    })
    (λ text more later w e.
    let whole : decimal size.value ++ 58 ∷ later ≡ decimal w.block.size ++ 58 ∷ ((decimal w.block.price ++ w.byte ∷ []) ++ more) =
    sym (append_assoc (decimal size.value) (58 ∷ []) later) ∙ e
    ∙ ap (λ (t : List ℕ). t ++ more) (w.same ∙ sym (regroup (decimal w.block.size) (58 ∷ []) (decimal w.block.price) w.byte))
    ∙ append_assoc (decimal w.block.size ++ 58 ∷ []) (decimal w.block.price ++ w.byte ∷ []) more
    ∙ append_assoc (decimal w.block.size) (58 ∷ []) ((decimal w.block.price ++ w.byte ∷ []) ++ more) in
    let r = apart Digit (decimal size.value) (decimal w.block.size) 58 58 later ((decimal w.block.price ++ w.byte ∷ []) ++ more) (digits_all size.value n.word) (digits_all w.block.size w.size) no_digit_colon no_digit_colon whole in
    (decimal w.block.price ++ w.byte ∷ [], record { value = w.block.price; byte = w.byte; word = w.price; ends = w.ends; same = refl }, r.2))
    (subst (λ (c : ℕ). Stands file start size.next.at (decimal size.value ++ c ∷ [])) (colon_end n.byte n.ends) n.stands.stands)
    (subst (λ (f : List ℕ). BreaksAt (NumberField end) f size.next.at place) n.stands.same b)

pub block_stands : (end : End) (file : List ℕ) (start : ℕ) (size price : Field ℕ) → ReadNumber Colon file start size → (p : ReadNumber end size.next.file.now size.next.at price) →
    StandsBefore file start price.next ((decimal size.value ++ 58 ∷ decimal price.value) ++ p.byte ∷ [])
block_stands end file start size price n p =
    record {
      same = p.stands.same ∙ n.stands.same;
      stands =
          subst (λ (t : List ℕ). Stands file start price.next.at t)
          (ap (λ (c : ℕ). (decimal size.value ++ c ∷ []) ++ (decimal price.value ++ p.byte ∷ [])) (colon_end n.byte n.ends) ∙ regroup (decimal size.value) (58 ∷ []) (decimal price.value) p.byte)
          (stands_joined file start size.next.at price.next.at (decimal size.value ++ n.byte ∷ []) (decimal price.value ++ p.byte ∷ []) n.stands.stands
          (subst (λ (f : List ℕ). Stands f size.next.at price.next.at (decimal price.value ++ p.byte ∷ [])) n.stands.same p.stands.stands));
    }

-- the text of a block
pub record BlockText (text : List ℕ) : Type 0 where
  pub block : Block
  pub size : Word block.size
  pub price : Word block.price
  pub same : text ≡ block_text block

clean_block : (g : List ℕ) → BlockText g → AllOf Clean g
clean_block g b =
    subst (λ (t : List ℕ). AllOf Clean t) (sym b.same)
    (all_of_append Clean (decimal b.block.size) (58 ∷ decimal b.block.price) (clean_decimal b.block.size b.size) (omega arith, clean_decimal b.block.price b.price))

-- no field, or those of 1 to so many blocks
abbrev pub Further : ℕ → List (List ℕ) → Type 0
Further room all = (all ≡ []) ⊎ Blocks room all

cons_blocks : (n : ℕ) (all : List (List ℕ)) → Cons BlockText (Further n) all → Blocks (suc n) all
cons_blocks n all c =
    let t = c.first in
    ⊎_elim
    (λ (e : c.rest ≡ []). record {
      blocks = t.block ∷ [];
      some = omega arith;
      few = omega arith;
      words = (t.size, t.price, tt);
      same = c.same ∙ ap (λ (f : List ℕ). f ∷ c.rest) t.same ∙ ap (λ (r : List (List ℕ)). block_text t.block ∷ r) e;
    })
    (λ (b : Blocks n c.rest). record {
      blocks = t.block ∷ b.blocks;
      some = omega arith;
      few = let h = b.few in omega arith;
      words = (t.size, t.price, b.words);
      same = c.same ∙ ap (λ (f : List ℕ). f ∷ c.rest) t.same ∙ ap (λ (r : List (List ℕ)). block_text t.block ∷ r) b.same;
    })
    c.others

split_blocks : (n : ℕ) (all : List (List ℕ)) (bs : List Block) → 1 ≤ length bs → length bs ≤ suc n → BlockWords bs → all ≡ map block_text bs → Cons BlockText (Further n) all
split_blocks n all [] some few words same = absurd (omega arith)
split_blocks n all (b ∷ []) some few words same =
    record { field = block_text b; rest = []; first = record { block = b; size = words.0; price = words.1; same = refl }; others = inl refl; same = same }
split_blocks n all (b ∷ c ∷ bs) some few words same =
    record {
      field = block_text b;
      rest = map block_text (c ∷ bs);
      first = record { block = b; size = words.0; price = words.1; same = refl };
      others = inr (record { blocks = c ∷ bs; some = omega arith; few = omega arith; words = words.2; same = refl });
      same = same;
    }

row_of_cons : (n : ℕ) (file : List ℕ) (start place : ℕ) → BreaksAt (RowForm (Cons BlockText (Further n))) file start place → BreaksAt (RowForm (Blocks (suc n))) file start place
row_of_cons n file start place b =
    same_form_breaks (RowForm (Cons BlockText (Further n))) (RowForm (Blocks (suc n))) file start place
    (λ t w. record { all = w.all; kind = cons_blocks n w.all w.kind; same = w.same })
    (λ t w. let k = w.kind in record { all = w.all; kind = split_blocks n w.all k.blocks k.some k.few k.words k.same; same = w.same })
    b

some_blocks : (n : ℕ) (all : List (List ℕ)) → Blocks n all → 0 < length all
some_blocks n all b = omega (arith, b.some, ap length b.same ∙ length-map b.blocks block_text)

-- the first block of a row breaks
row_first : (n : ℕ) (end : End) (file : List ℕ) (start place : ℕ) → Calls end (Further n) → BreaksAt (BlockField end) file start place → BreaksAt (RowForm (Blocks (suc n))) file start place
row_first n end file start place calls b =
    row_of_cons n file start place (field_first BlockText (Further n) end file start place calls
    (same_form_breaks (BlockField end) (Part BlockText end) file start place
    (λ t w. record { field = block_text w.block; byte = w.byte; first = record { block = w.block; size = w.size; price = w.price; same = refl }; ends = w.ends; same = w.same })
    (λ t w. record { block = w.first.block; byte = w.byte; size = w.first.size; price = w.first.price; ends = w.ends; same = w.same ∙ ap (λ (f : List ℕ). f ++ w.byte ∷ []) w.first.same })
    b))

-- a row breaks behind a block and its comma
row_later : (n : ℕ) (file : List ℕ) (start mid place : ℕ) (block : Block) → Word block.size → Word block.price → Stands file start mid (block_text block ++ 44 ∷ []) →
    BreaksAt (RowForm (Blocks n)) file mid place → BreaksAt (RowForm (Blocks (suc n))) file start place
row_later n file start mid place block size price s b =
    row_of_cons n file start place (field_later BlockText (Further n) (Blocks n) (block_text block) file start mid place
    (record { block = block; size = size; price = price; same = refl }) clean_block
    (λ rest r. (inr r, some_blocks n rest r))
    (λ rest r lt. ⊎_elim (λ (e : rest ≡ []). absurd (omega (arith, ap length e))) (λ (k : Blocks n rest). k) r)
    s b)

allowed_since : (end : End) (byte other : ℕ) → byte ≡ other → allowed end other ≡ true → allowed end byte ≡ true
allowed_since end byte other e a = subst (λ (b : ℕ). allowed end b ≡ true) (sym e) a

calls_either : (n : ℕ) → Calls CommaOrLine (Further (suc n))
calls_either n = record {
  to = λ rest r. ⊎_elim
      (λ (e : rest ≡ []). allowed_since CommaOrLine (ending rest) 10 (ap ending e) refl)
      (λ (k : Blocks (suc n) rest). allowed_since CommaOrLine (ending rest) 44 (ending_some rest (some_blocks (suc n) rest k)) refl) r;
  from = λ byte a. ⊎_elim
      (λ (e : byte ≡ 44). let b : Block = record { size = 0; price = 0 } in
      (block_text b ∷ [], inr (record { blocks = b ∷ []; some = omega arith; few = omega arith; words = (omega arith, omega arith, tt); same = refl }), sym e))
      (λ (e : byte ≡ 10). ([], inl refl, sym e))
      (either_end byte a);
}

calls_last : Calls Line (Further 0)
calls_last = record {
  to = λ rest r. ⊎_elim
      (λ (e : rest ≡ []). allowed_since Line (ending rest) 10 (ap ending e) refl)
      (λ (k : Blocks 0 rest). absurd (omega (arith, k.some, k.few))) r;
  from = λ byte a. ([], inl refl, sym (line_end byte a));
}

-- what is known when these blocks, each with its comma, are read
pub record Reading (file : List ℕ) (start : ℕ) (next : Position) (blocks : List Block) : Type 0 where
  pub few : length blocks ≤ 6
  pub same : next.file.now ≡ file
  pub words : BlockWords blocks
  pub breaks : (place : ℕ) → BreaksAt (RowForm (Blocks (suc (6 - length blocks)))) file next.at place → BreaksAt (RowForm (Blocks 7)) file start place
  pub stands : (rest : List Block) (end : ℕ) → Stands file next.at end (row (map block_text rest)) → 0 < length rest → Stands file start end (row (map block_text (blocks ++ rest)))

pub reading_none : (here : Position) → Reading here.file.now here.at here []
reading_none here = record {
  few = omega arith;
  same = refl;
  words = tt;
  breaks = λ place b. b;
  stands = λ rest end s some. s;
}

block_broke : (count : ℕ) (end : End) (file : List ℕ) (start place : ℕ) → count ≤ 6 → end ≡ block_end count → BreaksAt (BlockField end) file start place → BreaksAt (RowForm (Blocks (suc (6 - count)))) file start place
block_broke count end file start place few e b =
    ⊎_elim
    (λ (lt : count < 6).
    let n : 6 - count ≡ suc (5 - count) = omega arith in
    let either : end ≡ CommaOrLine = e ∙ cond-true (ltb count 6) CommaOrLine Line (lt-ltb count 6 lt) in
    row_first (6 - count) end file start place (subst (λ (m : ℕ). Calls end (Further m)) (sym n) (subst (λ (d : End). Calls d (Further (suc (5 - count)))) (sym either) (calls_either (5 - count)))) b)
    (λ (le : 6 ≤ count).
    let n : 6 - count ≡ 0 = omega arith in
    let line : end ≡ Line = e ∙ cond-false (ltb count 6) CommaOrLine Line (le-ltb count 6 le) in
    row_first (6 - count) end file start place (subst (λ (m : ℕ). Calls end (Further m)) (sym n) (subst (λ (d : End). Calls d (Further 0)) (sym line) calls_last)) b)
    (cases_lt count 6)

pub reading_breaks : (file : List ℕ) (start : ℕ) (next : Position) (blocks : List Block) → Reading file start next blocks → (end : End) (place : ℕ) → end ≡ block_end (length blocks) →
    BreaksAt (BlockField end) next.file.now next.at place → BreaksAt (RowForm (Blocks 7)) file start place
reading_breaks file start next blocks r end place e b =
    r.breaks place (block_broke (length blocks) end file next.at place r.few e (subst (λ (f : List ℕ). BreaksAt (BlockField end) f next.at place) r.same b))

words_more : (bs : List Block) (b : Block) → BlockWords bs → Word b.size → Word b.price → BlockWords (bs ++ b ∷ [])
words_more [] b w size price = (size, price, tt)
words_more (c ∷ bs) b w size price = (w.0, w.1, words_more bs b w.2 size price)

-- a block that does not end the line has a comma behind it, and more may come
more_to_come : (count byte : ℕ) → count ≤ 6 → allowed (block_end count) byte ≡ true → (byte ≡ 10 → ⊥) → (byte ≡ 44) × (count < 6)
more_to_come count byte few a not-Line =
    ⊎_elim
    (λ (lt : count < 6).
    let either = subst (λ (d : End). allowed d byte ≡ true) (cond-true (ltb count 6) CommaOrLine Line (lt-ltb count 6 lt)) a in
    (⊎_elim (λ (e : byte ≡ 44). e) (λ (e : byte ≡ 10). absurd (not-Line e)) (either_end byte either), lt))
    (λ (le : 6 ≤ count).
    absurd (not-Line (line_end byte (subst (λ (d : End). allowed d byte ≡ true) (cond-false (ltb count 6) CommaOrLine Line (le-ltb count 6 le)) a))))
    (cases_lt count 6)

one_longer : (blocks : List Block) (b : Block) → length (blocks ++ b ∷ []) ≡ length blocks + 1
one_longer blocks b = length-append blocks (b ∷ [])

pub reading_more : (file : List ℕ) (start : ℕ) (next : Position) (blocks : List Block) → Reading file start next blocks → (read : Field Block) → ReadBlock (block_end (length blocks)) next.file.now next.at read →
    read.ends_line ≡ false → Reading file start read.next (blocks ++ read.value ∷ [])
reading_more file start next blocks r read other not-Line =
    let b = subst (λ (f : List ℕ). ReadBlock (block_end (length blocks)) f next.at read) r.same other in
    let comma = more_to_come (length blocks) b.byte r.few b.ends (eqb-false b.byte 10 (sym b.line ∙ not-Line)) in
    let s : Stands file next.at read.next.at (block_text read.value ++ 44 ∷ []) = subst (λ (c : ℕ). Stands file next.at read.next.at (block_text read.value ++ c ∷ [])) comma.0 b.stands.stands in
    let n : 6 - length blocks ≡ suc (6 - length (blocks ++ read.value ∷ [])) = omega (arith, comma.1, one_longer blocks read.value) in
    record {
      few = omega (arith, comma.1, one_longer blocks read.value);
      same = b.stands.same;
      words = words_more blocks read.value r.words b.size b.price;
      breaks = λ place k.
          r.breaks place (row_later (6 - length blocks) file next.at read.next.at place read.value b.size b.price s (subst (λ (m : ℕ). BreaksAt (RowForm (Blocks m)) file read.next.at place) (sym n) k));
      stands = λ rest end k some.
          (let whole = r.stands (read.value ∷ rest) end
          (row_stands file next.at read.next.at end (block_text read.value) 44 (map block_text rest) s (sym (ending_some (map block_text rest) (omega (arith, length-map rest block_text)))) k) (omega arith) in
          subst (λ (t : List Block). Stands file start end (row (map block_text t))) (sym (append_assoc blocks (read.value ∷ []) rest)) whole);
    }

pub reading_done : (file : List ℕ) (start : ℕ) (next : Position) (blocks : List Block) → Reading file start next blocks → (read : Field Block) → ReadBlock (block_end (length blocks)) next.file.now next.at read →
    read.ends_line ≡ true → ReadBlocks file start (blocks ++ read.value ∷ []) read.next
reading_done file start next blocks r read other line =
    let b = subst (λ (f : List ℕ). ReadBlock (block_end (length blocks)) f next.at read) r.same other in
    record {
      some = omega (arith, one_longer blocks read.value);
      few = omega (arith, r.few, one_longer blocks read.value);
      words = words_more blocks read.value r.words b.size b.price;
      stands = record {
        same = b.stands.same;
        stands = r.stands (read.value ∷ []) read.next.at (subst (λ (c : ℕ). Stands file next.at read.next.at (block_text read.value ++ c ∷ [])) (eqb-true b.byte 10 (sym b.line ∙ line)) b.stands.stands) (omega arith);
      };
    }

-- rows of blocks as the contracts name them
pub block_row : (file : List ℕ) (start place : ℕ) → BreaksAt (RowForm (Blocks 7)) file start place → BreaksAt (BlockRow 7) file start place
block_row file start place b =
    same_form_breaks (RowForm (Blocks 7)) (BlockRow 7) file start place
    (λ t w. let k = w.kind in record { blocks = k.blocks; some = k.some; few = k.few; words = k.words; same = w.same ∙ ap row k.same })
    (λ t w. record { all = map block_text w.blocks; kind = record { blocks = w.blocks; some = w.some; few = w.few; words = w.words; same = refl }; same = w.same })
    b

pub row_of_blocks : (file : List ℕ) (start place : ℕ) → BreaksAt (BlockRow 7) file start place → BreaksAt (RowForm (Blocks 7)) file start place
row_of_blocks file start place b =
    same_form_breaks (BlockRow 7) (RowForm (Blocks 7)) file start place
    (λ t w. record { all = map block_text w.blocks; kind = record { blocks = w.blocks; some = w.some; few = w.few; words = w.words; same = refl }; same = w.same })
    (λ t w. let k = w.kind in record { blocks = k.blocks; some = k.some; few = k.few; words = k.words; same = w.same ∙ ap row k.same })
    b

-- the asset of an offer breaks, or its blocks behind the asset
pub asset_breaks : (file : List ℕ) (start place : ℕ) → BreaksAt (NumberField Comma) file start place → BreaksAt (RowForm (Cons NumberText (Blocks 7))) file start place
asset_breaks file start place b =
    let none : Block = record { size = 0; price = 0 } in
    number_first (Blocks 7) Comma file start place
    (calls_comma (Blocks 7) (some_blocks 7) (block_text none ∷ []) (record { blocks = none ∷ []; some = omega arith; few = omega arith; words = (omega arith, omega arith, tt); same = refl })) b

pub blocks_break : (file : List ℕ) (start place : ℕ) (field : Field ℕ) → ReadNumber Comma file start field → BreaksAt (BlockRow 7) field.next.file.now field.next.at place → BreaksAt (RowForm (Cons NumberText (Blocks 7))) file start place
blocks_break file start place field n b = number_later (Blocks 7) file start place field (some_blocks 7) n (row_of_blocks field.next.file.now field.next.at place b)

-- the blocks that were read are those of an item with their list
pub offer_read : (file : List ℕ) (start : ℕ) (asset : Field ℕ) (blocks : List Block) (next : Position) → ReadNumber Comma file start asset → ReadBlocks asset.next.file.now asset.next.at blocks next →
    ReadBody Offer file start (record { item = item.Offer asset.value (block_list blocks); next = next.at })
offer_read file start asset blocks next n b =
    record {
      sound = (n.word, blocks_sound blocks b.some b.few b.words);
      keyed = refl;
      stands = number_stands file start next.at asset (map block_text (listed (block_list blocks))) n
          (subst (λ (t : List Block). 0 < length (map block_text t)) (sym (listed_block_list blocks b.few)) (omega (arith, length-map blocks block_text, b.some)))
          (subst (λ (t : List Block). Stands asset.next.file.now asset.next.at next.at (row (map block_text t))) (sym (listed_block_list blocks b.few)) b.stands.stands);
    }
