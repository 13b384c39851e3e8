-- A file comes to one outcome only. Assumes nothing.
use Rattle.std.proofs.Common.{◌≡◌, ℕ, ◌+◌, ◌<◌, ◌≤◌, Bool, true, false, cond, not, ◌&&◌, ◌⊎◌, List, [], ◌∷◌, ◌++◌, length, drop, Some, None, Ok, Err, Option, Result, sym, refl, ap, ◌∙◌, subst, inl, inr, ⊎_elim, arith}
use Rattle.std.proofs.lemmas.List.{append_assoc, append-nil, append_cancel_left}
use Rattle.std.proofs.lemmas.Bool.{cases_lt, both_ways}
use Rattle.hour.specs.declared.fault.Fault as hour
use Rattle.hour.specs.Reason.{Reason, answer}
use Rattle.ledger.specs.Trade.{accepted}
use Rattle.file.specs.Item.{Item, writing}
use Rattle.file.specs.Line.{ReadLine}
use Rattle.file.specs.declared.body.Read.{Read}
use Rattle.file.specs.declared.item.ItemWith.TheVariants as line
use Rattle.file.specs.declared.item.RuleName.{RuleName}
use Rattle.file.proofs.Breaking.{broken_once}
use Rattle.file.proofs.Exact.{exactly, stands_long}
use Rattle.file.proofs.Places.{drop_stands, stands_from_drop}
use Rattle.file.proofs.Readings.{written_once}
use Rattle.file.specs.declared.statement.PrintLine.{PrintLine}
use Rattle.hourfile.specs.Lines.{written, last_key, reasons, Passes, Passed}
use Rattle.hourfile.specs.Outcome.{statement, refused_draw, Complete, Settled, Undrawn, IllFormedLine, AtFault, FirstFault, Unsettled, Outcome, FaultOrNone, FaultAnswer}
use Rattle.hourfile.specs.declared.fault.Fault.{Fault}
use Rattle.hourfile.specs.declared.fault.Fault.TheVariants.{Hour, TooLarge, IllFormed, TextTooShort}
use Rattle.hourfile.specs.declared.fault.LineFault.{LineFault}
use Rattle.hourfile.proofs.Passing.{read_once}

-- equally many lines that passed in front of one text are the same lines
same_lines : (xs ys : List Item) (u v : List ℕ) → length xs ≡ length ys → Passed xs → Passed ys → written xs ++ u ≡ written ys ++ v → xs ≡ ys
same_lines [] [] u v many p q e = refl
same_lines [] (y ∷ ys) u v many p q e = absurd (omega arith)
same_lines (x ∷ xs) [] u v many p q e = absurd (omega arith)
same_lines (x ∷ xs) (y ∷ ys) u v many p q e =
    let whole : written xs ++ (writing x ++ u) ≡ written ys ++ (writing y ++ v) = sym (append_assoc (written xs) (writing x) u) ∙ e ∙ append_assoc (written ys) (writing y) v in
    let before : xs ≡ ys = same_lines xs ys (writing x ++ u) (writing y ++ v) (omega arith) p.0 q.0 whole in
    let latest : x ≡ y =
    written_once x y u v p.1.sound q.1.sound
    (append_cancel_left (written ys) (writing x ++ u) (writing y ++ v) (ap (λ (l : List Item). written l ++ (writing x ++ u)) (sym before) ∙ whole)) in
    λ i. latest i ∷ before i

-- a line that passes comes behind others
record Next (items : List Item) (left : List ℕ) : Type 0 where
  pub item : Item
  pub more : List ℕ
  pub passes : Passes items item
  pub comes : left ≡ writing item ++ more

-- behind fewer lines that passed comes one that passes
next_line : (xs ys : List Item) (u v : List ℕ) → length xs < length ys → Passed xs → Passed ys → written xs ++ u ≡ written ys ++ v → Next xs u
next_line xs [] u v few p q e = absurd (omega arith)
next_line xs (y ∷ ys) u v few p q e =
    let whole : written xs ++ u ≡ written ys ++ (writing y ++ v) = e ∙ append_assoc (written ys) (writing y) v in
    ⊎_elim
    (λ (fewer : length xs < length ys). next_line xs ys u (writing y ++ v) fewer p q.0 whole)
    (λ (all : length ys ≤ length xs).
    let before : xs ≡ ys = same_lines xs ys u (writing y ++ v) (omega arith) p q.0 whole in
    record {
      item = y;
      more = v;
      passes = subst (λ (l : List Item). Passes l y) (sym before) q.1;
      comes = append_cancel_left (written ys) u (writing y ++ v) (ap (λ (l : List Item). written l ++ u) (sym before) ∙ whole);
    })
    (cases_lt (length xs) (length ys))

-- lines that passed in front of one text are the same, or a line that passes comes behind some of them
compared : (xs ys : List Item) (u v : List ℕ) → Passed xs → Passed ys → written xs ++ u ≡ written ys ++ v → (xs ≡ ys) ⊎ (Next xs u ⊎ Next ys v)
compared xs ys u v p q e =
    ⊎_elim
    (λ (fewer : length xs < length ys). inr (inl (next_line xs ys u v fewer p q e)))
    (λ (all : length ys ≤ length xs).
    ⊎_elim
    (λ (more : length ys < length xs). inr (inr (next_line ys xs v u more q p (sym e))))
    (λ (none : length xs ≤ length ys). inl (same_lines xs ys u v (omega arith) p q e))
    (cases_lt (length ys) (length xs)))
    (cases_lt (length xs) (length ys))

-- no line passes behind that of the rule
none_behind : (rule : RuleName) (items : List Item) (left : List ℕ) → Next (line.Rule rule ∷ items) left → ⊥
none_behind rule items left n = both_ways _ refl n.passes.allowed

-- an accepted call is not refused
not_both : (reasons : List Reason) (fault : hour.Fault) → accepted reasons ≡ true → answer reasons ≡ Err fault → ⊥
not_both [] fault ok e = let z : ◌≡◌ {A = ℕ} 0 1 = cc in absurd (omega arith)
not_both (reason ∷ rest) fault ok e = at reason.fits ok e (not_both rest fault)
  where
    at : (b : Bool) → (not b && accepted rest) ≡ true → cond b (Err reason.fault) (answer rest) ≡ Err fault → (accepted rest ≡ true → answer rest ≡ Err fault → ⊥) → ⊥
    at true said h more = both_ways _ refl said
    at false said h more = more said h

refused_alike : (answered : Result (Unit {0}) hour.Fault) (f g : hour.Fault) → answered ≡ Err f → answered ≡ Err g → f ≡ g
refused_alike answered f g a b = cc

module _ (file : List ℕ) (start : ℕ) (items : List Item) where
  -- a line that can be read is not ill formed
  not_broken : (place : ℕ) (read : Read) → ReadLine file start (last_key items) read → IllFormedLine file start items place → ⊥
  not_broken place read r b =
      let e = exactly file start (last_key items) (Err (record { place = place })) b.broken read.item read.next r.sound r.allowed r.stands in
      let z : ◌≡◌ {A = ℕ} 0 1 = cc in
      absurd (omega arith)

  -- a line that passes can be read
  abbrev read_next : Next items (drop start file) → Read
  read_next n = record { item = n.item; next = start + length (writing n.item) }

  can_read : (n : Next items (drop start file)) → start ≤ length file → ReadLine file start (last_key items) (read_next n)
  can_read n within = record {
    allowed = n.passes.allowed;
    sound = n.passes.sound;
    stands = stands_from_drop file start (writing n.item) n.more within n.comes;
  }

  -- a line that passes is not at fault
  not_at_fault : (fault : Fault) → start ≤ length file → Next items (drop start file) → AtFault file start items fault → ⊥
  not_at_fault (Hour f) within n w =
      not_both (reasons items n.item) f n.passes.accepts
      (ap (λ (x : Item). answer (reasons items x)) (read_once file start (last_key items) (read_next n) w.read (can_read n within) w.stands) ∙ w.refuses)
  not_at_fault TooLarge within n w = w
  not_at_fault (IllFormed place) within n w = not_broken place (read_next n) (can_read n within) w
  not_at_fault (TextTooShort needed) within n w = w

  -- a line has one fault
  one_fault : (f g : Fault) → AtFault file start items f → AtFault file start items g → f ≡ g
  one_fault (Hour f) (Hour g) a b =
      let same = read_once file start (last_key items) a.read b.read a.stands b.stands in
      ap Hour (refused_alike (answer (reasons items b.read.item)) f g (ap (λ (x : Item). answer (reasons items x)) (sym same) ∙ a.refuses) b.refuses)
  one_fault (Hour f) (IllFormed q) a b = absurd (not_broken q a.read a.stands b)
  one_fault (IllFormed p) (Hour g) a b = absurd (not_broken p b.read b.stands a)
  one_fault (IllFormed p) (IllFormed q) a b = ap IllFormed (broken_once file start (last_key items) p q a.broken b.broken)
  one_fault (Hour f) TooLarge a b = absurd b
  one_fault (IllFormed p) TooLarge a b = absurd b
  one_fault (Hour f) (TextTooShort m) a b = absurd b
  one_fault (IllFormed p) (TextTooShort m) a b = absurd b
  one_fault TooLarge g a b = absurd a
  one_fault (TextTooShort n) g a b = absurd a

module _ (file : List ℕ) where
  -- the file goes on behind the lines that passed
  goes_on : (at : LineFault) (f : FirstFault file at) → file ≡ written f.items ++ drop f.start file
  goes_on at f = drop_stands file 0 f.start (written f.items) f.behind

  starts_behind : (at : LineFault) (f : FirstFault file at) → f.start ≡ length (written f.items)
  starts_behind at f = omega (arith, stands_long file 0 f.start (written f.items) f.behind)

  no_next : (at : LineFault) (f : FirstFault file at) → Next f.items (drop f.start file) → ⊥
  no_next at f n = not_at_fault file f.start f.items at.fault f.behind.within n f.wrong

  -- only one fault is the first
  first_once : (a b : LineFault) → FirstFault file a → FirstFault file b → a ≡ b
  first_once a b f g =
      ⊎_elim
      (λ (same : f.items ≡ g.items).
      let starts : f.start ≡ g.start = starts_behind a f ∙ ap (λ (l : List Item). length (written l)) same ∙ sym (starts_behind b g) in
      let lines : a.line ≡ b.line = f.counted ∙ ap (λ (l : List Item). Some (length l + 1)) same ∙ sym g.counted in
      let faults : a.fault ≡ b.fault =
      one_fault file g.start g.items a.fault b.fault
      (subst (λ (s : ℕ). AtFault file s g.items a.fault) starts (subst (λ (l : List Item). AtFault file f.start l a.fault) same f.wrong))
      g.wrong in
      λ i. record { line = lines i; fault = faults i })
      (λ (n : Next f.items (drop f.start file) ⊎ Next g.items (drop g.start file)).
      absurd (⊎_elim (no_next a f) (no_next b g) n))
      (compared f.items g.items (drop f.start file) (drop g.start file) f.passed g.passed (sym (goes_on a f) ∙ goes_on b g))

  -- nothing is at fault behind the line of the rule, with which the file ends
  not_behind : (rule : RuleName) (items : List Item) (start : ℕ) (fault : Fault) → start ≡ length file → AtFault file start (line.Rule rule ∷ items) fault → ⊥
  not_behind rule items start (Hour f) end w = both_ways _ refl w.stands.allowed
  not_behind rule items start TooLarge end w = w
  not_behind rule items start (IllFormed place) end w = let more = w.more refl in absurd (omega arith)
  not_behind rule items start (TextTooShort needed) end w = w

  -- no line of a complete file is at fault
  not_complete : (rule : RuleName) (items : List Item) (at : LineFault) → Complete file rule items → FirstFault file at → ⊥
  not_complete rule items at c f =
      ⊎_elim
      (λ (same : f.items ≡ line.Rule rule ∷ items).
      not_behind rule items f.start at.fault
      (starts_behind at f ∙ ap (λ (l : List Item). length (written l)) same ∙ sym (ap length c.whole))
      (subst (λ (l : List Item). AtFault file f.start l at.fault) same f.wrong))
      (λ (n : Next f.items (drop f.start file) ⊎ Next (line.Rule rule ∷ items) []).
      ⊎_elim (no_next at f) (none_behind rule items []) n)
      (compared f.items (line.Rule rule ∷ items) (drop f.start file) [] f.passed c.passed (sym (goes_on at f) ∙ c.whole ∙ sym (append-nil (written (line.Rule rule ∷ items)))))

  -- a file is complete in one way
  complete_once : (rule other : RuleName) (xs ys : List Item) → Complete file rule xs → Complete file other ys → (rule ≡ other) × (xs ≡ ys)
  complete_once rule other xs ys c d =
      ⊎_elim
      (λ (same : line.Rule rule ∷ xs ≡ line.Rule other ∷ ys). (cc, cc))
      (λ (n : Next (line.Rule rule ∷ xs) [] ⊎ Next (line.Rule other ∷ ys) []).
      absurd (⊎_elim (none_behind rule xs []) (none_behind other ys []) n))
      (compared (line.Rule rule ∷ xs) (line.Rule other ∷ ys) [] [] c.passed d.passed
      (append-nil (written (line.Rule rule ∷ xs)) ∙ sym c.whole ∙ d.whole ∙ sym (append-nil (written (line.Rule other ∷ ys)))))

  -- a file has one statement
  settled_once : (a b : List PrintLine) → Settled file a → Settled file b → a ≡ b
  settled_once a b s t =
      let same = complete_once s.rule t.rule s.items t.items s.complete t.complete in
      s.states ∙ (λ i. statement (same.0 i) (line.Rule (same.0 i) ∷ same.1 i)) ∙ sym t.states

  -- the draw of a complete file is refused with one fault
  undrawn_once : (a b : LineFault) → Undrawn file a → Undrawn file b → a ≡ b
  undrawn_once a b u v =
      let same = complete_once u.rule v.rule u.items v.items u.complete v.complete in
      let alike : u.fault ≡ v.fault =
      refused_alike (refused_draw v.rule (line.Rule v.rule ∷ v.items)) u.fault v.fault
      (sym (λ i. refused_draw (same.0 i) (line.Rule (same.0 i) ∷ same.1 i)) ∙ u.refuses) v.refuses in
      u.told ∙ (λ i. record { line = None; fault = Hour (alike i) }) ∙ sym v.told

  -- a draw is accepted or refused
  not_undrawn : (lines : List PrintLine) (at : LineFault) → Settled file lines → Undrawn file at → ⊥
  not_undrawn lines at s u =
      let same = complete_once s.rule u.rule s.items u.items s.complete u.complete in
      let said : refused_draw s.rule (line.Rule s.rule ∷ s.items) ≡ refused_draw u.rule (line.Rule u.rule ∷ u.items) = λ i. refused_draw (same.0 i) (line.Rule (same.0 i) ∷ same.1 i) in
      let both = sym s.draws ∙ said ∙ u.refuses in
      let z : ◌≡◌ {A = ℕ} 0 1 = cc in
      absurd (omega arith)

  -- a file that is settled has no fault
  not_settled : (lines : List PrintLine) (at : LineFault) → Settled file lines → Unsettled file at → ⊥
  not_settled lines at s (inl large) = absurd (omega (arith, s.complete.few, large.many))
  not_settled lines at s (inr (inl f)) = not_complete s.rule s.items at s.complete f
  not_settled lines at s (inr (inr u)) = not_undrawn lines at s u

  -- a file has one fault
  unsettled_once : (a b : LineFault) → Unsettled file a → Unsettled file b → a ≡ b
  unsettled_once a b (inl x) (inl y) = x.told ∙ sym y.told
  unsettled_once a b (inl x) (inr (inl g)) = absurd (omega (arith, x.many, g.few))
  unsettled_once a b (inl x) (inr (inr v)) = absurd (omega (arith, x.many, v.complete.few))
  unsettled_once a b (inr (inl f)) (inl y) = absurd (omega (arith, y.many, f.few))
  unsettled_once a b (inr (inr u)) (inl y) = absurd (omega (arith, y.many, u.complete.few))
  unsettled_once a b (inr (inl f)) (inr (inl g)) = first_once a b f g
  unsettled_once a b (inr (inl f)) (inr (inr v)) = absurd (not_complete v.rule v.items a v.complete f)
  unsettled_once a b (inr (inr u)) (inr (inl g)) = absurd (not_complete u.rule u.items b u.complete g)
  unsettled_once a b (inr (inr u)) (inr (inr v)) = undrawn_once a b u v

-- a file comes to one outcome
pub outcome_unique : (file : List ℕ) (a b : Result (List PrintLine) LineFault) → Outcome file a → Outcome file b → a ≡ b
outcome_unique file (Ok a) (Ok b) p q = ap Ok (settled_once file a b p q)
outcome_unique file (Ok a) (Err b) p q = absurd (not_settled file a b p q)
outcome_unique file (Err a) (Ok b) p q = absurd (not_settled file b a q p)
outcome_unique file (Err a) (Err b) p q = ap Err (unsettled_once file a b p q)

-- a file has one fault or none
pub answer_unique : (file : List ℕ) (a b : Option LineFault) → FaultOrNone file a → FaultOrNone file b → a ≡ b
answer_unique file None None p q = refl
answer_unique file None (Some b) p q = absurd (not_settled file p.0 b p.1 q)
answer_unique file (Some a) None p q = absurd (not_settled file q.0 a q.1 p)
answer_unique file (Some a) (Some b) p q = ap Some (unsettled_once file a b p q)

pub fault_answered : (file : List ℕ) (answered : Option LineFault) → FaultOrNone file answered → FaultAnswer file answered
fault_answered file answered right = record { right = right; only = λ other came. answer_unique file other answered came right }
