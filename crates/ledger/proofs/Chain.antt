-- What is recorded of the posted draws and of the draw that is out, over every list of calls. Assumes nothing.
use Rattle.std.proofs.Common.{◌≡◌, ℕ, ◌+◌, ◌<◌, ◌≤◌, Bool, true, false, cond, not, ◌&&◌, ◌||◌, eqb, ltb, List, [], ◌∷◌, ◌++◌, length, take, drop, is_ok, Some, None, Ok, Err, sum, Option, Result, refl, ap, ◌∙◌, subst, arith}
use Rattle.std.proofs.lemmas.List.{length-map, take_at}
use Rattle.std.proofs.lemmas.Bool.{cond-true, cond-false, and_right, and_from, eq-eqb, ne_eqb, both_ways}
use Rattle.std.proofs.lemmas.Bool.Decides.{nat_tests}
use Rattle.std.specs.Option.{option_to_list}
use Rattle.splitting.specs.Rule.{Lawful}
use Rattle.splitting.specs.Weights.{Limited, Accepted}
use Rattle.hour.specs.declared.fault.Fault.{Fault}
use Rattle.hour.specs.declared.line.Amounts.{Amounts}
use Rattle.hour.specs.declared.line.Line.{Line}
use Rattle.hour.specs.declared.slip.Slip.{Slip}
use Rattle.hour.specs.declared.market.Market.{Market}
use Rattle.hour.specs.declared.book.Book.{Book}
use Rattle.hour.specs.declared.charge.Charge.{Charge}
use Rattle.hour.specs.declared.charge.Charge.TheVariants.{Supply, Load}
use Rattle.hour.specs.Reason.{Reason, first_fitting}
use Rattle.hour.specs.Listing.{listing}
use Rattle.hour.specs.Charge.{whole_charge, weights}
use Rattle.hour.specs.Line.{line_of, lines_of}
use Rattle.hour.specs.Run.{price_of, drawn_lines, draw_reasons, slip_of, Drawing}
use Rattle.hour.proofs.Outcomes.{NoneFits}
use Rattle.ledger.specs.Trade.{accepted}
use Rattle.ledger.specs.Call.{Call, meter, propose, confirm, withdraw, draw, post, void, Answer, Lived, Made, Leads, calls_of}
use Rattle.ledger.specs.Ledger.{Draw, Ledger, amounts_drawn, amounts_posted, book_of, with_draw, entered, ledger_of}
use Rattle.ledger.specs.Law.{is_run, left_here, left_by, run_lines}
use Rattle.ledger.proofs.Agreement.{book_agrees}
use Rattle.ledger.proofs.Soundness.{SoundMarket, SoundBook, book_sound}

-- a draw on record: its number, its lines, sound tables, and charges that a rule accepts
pub record Recorded (m : Market) (lived : List Lived) (draws : ℕ) (d : Draw) (before : List Draw) : Type 0 where
  pub numbered : d.number ≤ draws
  pub written : run_lines lived d ≡ lines_of (amounts_drawn d) (amounts_posted before) d.tables.market
  pub sound : SoundBook m d.tables
  pub chargeable : (charge : Charge) → Accepted (whole_charge charge (price_of d.tables) d.tables) (weights charge (price_of d.tables) d.tables)

-- every posted draw is on record over those posted before it
abbrev pub Chain : Market → List Lived → ℕ → List Draw → Type 0
Chain m lived draws [] = Unit {0}
Chain m lived draws (d ∷ before) = Recorded m lived draws d before × Chain m lived draws before

-- so is the draw that is out
abbrev pub OnRecord : Market → List Lived → ℕ → Option Draw → List Draw → Type 0
OnRecord m lived draws None posted = Unit {0}
OnRecord m lived draws (Some d) posted = Recorded m lived draws d posted

abbrev pub KeptBy : Market → List Lived → Ledger → Type 0
KeptBy m lived l = Chain m lived l.draws l.posted × OnRecord m lived l.draws l.out l.posted

-- what an event leaves in the lists of runs with earlier numbers
abbrev Leaves : Lived → ℕ → Type 0
Leaves event draws = (run : ℕ) → run ≤ draws → (before : List Line) → left_here event.0 event.1 run before ≡ before

module _ (m : Market) (lived : List Lived) (event : Lived) (draws later : ℕ) (more : draws ≤ later) (leaves : Leaves event draws) where
  recorded_still : (d : Draw) (before : List Draw) → Recorded m lived draws d before → Recorded m (event ∷ lived) later d before
  recorded_still d before rec = record {
    numbered = omega (arith, rec.numbered, more);
    written = ap (take (length (listing d.tables.market))) (leaves d.number rec.numbered (left_by lived d.number)) ∙ rec.written;
    sound = rec.sound;
    chargeable = rec.chargeable;
  }

  chain_still : (ds : List Draw) → Chain m lived draws ds → Chain m (event ∷ lived) later ds
  chain_still [] c = tt
  chain_still (d ∷ before) c = (recorded_still d before c.0, chain_still before c.1)

  out_still : (out : Option Draw) (ds : List Draw) → OnRecord m lived draws out ds → OnRecord m (event ∷ lived) later out ds
  out_still None ds o = tt
  out_still (Some d) ds o = recorded_still d ds o

either_kept : (m : Market) (lived : List Lived) (t : Bool) (l k : Ledger) → (t ≡ true → KeptBy m lived l) → KeptBy m lived k → KeptBy m lived (cond t l k)
either_kept m lived true l k p q = p refl
either_kept m lived false l k p q = q

-- the run that an answer to a draw hands out
run_told : (reasons : List Reason) (slip : Slip) (run : ℕ) → is_run (first_fitting reasons (Ok slip)) run ≡ (accepted reasons && eqb slip.run run)
run_told [] slip run = refl
run_told (reason ∷ rest) slip run = at reason.fits (run_told rest slip run)
  where
    at : (t : Bool) → is_run (first_fitting rest (Ok slip)) run ≡ (accepted rest && eqb slip.run run) → is_run (cond t (Err reason.fault) (first_fitting rest (Ok slip))) run ≡ ((not t && accepted rest) && eqb slip.run run)
    at true e = refl
    at false e = e

-- a draw accepted by its reasons has charges that a rule accepts
none_of : (reasons : List Reason) → accepted reasons ≡ true → NoneFits reasons
none_of [] e = tt
none_of (reason ∷ rest) e = at reason.fits refl e (none_of rest)
  where
    at : (t : Bool) → reason.fits ≡ t → (not t && accepted rest) ≡ true → (accepted rest ≡ true → NoneFits rest) → (reason.fits ≡ false) × NoneFits rest
    at true f h more = absurd (both_ways _ refl h)
    at false f h more = (f, more h)

limits : (total : ℕ) (ws : List ℕ) → (ltb 32 (length ws) || (ltb 64000000 (sum ws) || ltb 10000000000 total)) ≡ false → Limited total ws
limits total ws e = record { few = grind (arith, nat_tests); light = grind (arith, nat_tests); small = grind (arith, nat_tests) }

weighs : (total all : ℕ) → (ltb 0 total && eqb all 0) ≡ false → 0 < total → 0 < all
weighs total all e some = grind (arith, nat_tests)

chargeable_by : (shares : ℕ → List ℕ → List ℕ) (b : Book) (places : ℕ) → accepted (draw_reasons shares b places) ≡ true → (charge : Charge) → Accepted (whole_charge charge (price_of b) b) (weights charge (price_of b) b)
chargeable_by shares b places e Supply =
    let none = none_of (draw_reasons shares b places) e in
    record { limits = limits _ _ none.1.1.1.1.1.0; weighs = weighs _ _ none.1.1.1.0 }
chargeable_by shares b places e Load =
    let none = none_of (draw_reasons shares b places) e in
    record { limits = limits _ _ none.1.1.1.1.1.1.0; weighs = weighs _ _ none.1.1.1.1.0 }

lines_length : (news posted : List Amounts) (m : Market) → length (lines_of news posted m) ≡ length (listing m)
unfolding lines_of
lines_length news posted m = length-map (listing m) (line_of news posted)

module _ (m : Market) (lived : List Lived) (l : Ledger) (sound : SoundBook m (book_of l)) (kept : KeptBy m lived l) where
  -- a call that draws nothing
  other_kept : (event : Lived) (k : Ledger) → Leaves event l.draws → (t : Bool) → (t ≡ true → Chain m (event ∷ lived) l.draws l.posted → OnRecord m (event ∷ lived) l.draws l.out l.posted → KeptBy m (event ∷ lived) k) → KeptBy m (event ∷ lived) (cond t k l)
  other_kept event k leaves t new =
      let chain = chain_still m lived event l.draws l.draws (omega arith) leaves l.posted kept.0 in
      let out = out_still m lived event l.draws l.draws (omega arith) leaves l.out l.posted kept.1 in
      either_kept m (event ∷ lived) t k l (λ e. new e chain out) (chain, out)

  module _ (shares : ℕ → List ℕ → List ℕ) (law : Lawful shares) (list : List Line) (a : Answer (draw shares law list)) (after : Book) (made : Drawing shares (book_of l) list a.0 after a.1) where
    abbrev drawing : Lived
    drawing = (draw shares law list, a)

    abbrev reasons : List Reason
    reasons = draw_reasons shares (book_of l) (length list)

    told : (run : ℕ) → is_run a.0 run ≡ (accepted reasons && eqb (l.draws + 1) run)
    told run = ap (λ r. is_run r run) made.answer ∙ run_told reasons (slip_of l.market.label (l.draws + 1)) run

    -- it leaves the lists of earlier runs alone
    leaves : Leaves drawing l.draws
    leaves run early before = cond-false (is_run a.0 run) a.1 before (told run ∙ and_right _ _ (ne_eqb (l.draws + 1) run (λ e. omega arith)))

    ok_told : accepted reasons ≡ true → is_ok a.0 ≡ true
    ok_told e = at a.0 (told (l.draws + 1) ∙ and_from _ _ e (eq-eqb (l.draws + 1) (l.draws + 1) refl))
      where
        at : (r : Result Slip Fault) → is_run r (l.draws + 1) ≡ true → is_ok r ≡ true
        at (Ok slip) h = refl
        at (Err f) h = absurd (both_ways _ refl h)

    new_draw : Draw
    new_draw = record { number = l.draws + 1; shares = shares; law = law; tables = book_of l }

    recorded : accepted reasons ≡ true → Recorded m (drawing ∷ lived) (l.draws + 1) (record { number = l.draws + 1; shares = shares; law = law; tables = book_of l }) l.posted
    recorded e = record {
      numbered = omega arith;
      written =
          ap (take (length (listing l.market))) (cond-true (is_run a.0 (l.draws + 1)) a.1 (left_by lived (l.draws + 1)) (told (l.draws + 1) ∙ and_from _ _ e (eq-eqb (l.draws + 1) (l.draws + 1) refl))
          ∙ made.writes ∙ cond-true (is_ok a.0) _ list (ok_told e))
          ∙ take_at (drawn_lines shares (book_of l)) (drop (length (listing l.market)) list) (length (listing l.market)) (lines_length _ _ l.market);
      sound = sound;
      chargeable = chargeable_by shares (book_of l) (length list) e;
    }

    draw_kept : KeptBy m (drawing ∷ lived) (entered l (draw shares law list))
    draw_kept =
        either_kept m (drawing ∷ lived) (accepted reasons) (with_draw l shares law) l
        (λ e. (chain_still m lived drawing l.draws (l.draws + 1) (omega arith) leaves l.posted kept.0, recorded e))
        (chain_still m lived drawing l.draws l.draws (omega arith) leaves l.posted kept.0, out_still m lived drawing l.draws l.draws (omega arith) leaves l.out l.posted kept.1)

  -- a posted draw stays on record
  post_chain : (event : Lived) (out : Option Draw) (ds : List Draw) → Chain m (event ∷ lived) l.draws ds → OnRecord m (event ∷ lived) l.draws out ds → Chain m (event ∷ lived) l.draws (option_to_list out ++ ds)
  post_chain event None ds c o = c
  post_chain event (Some d) ds c o = (o, c)

  call_kept : (call : Call) (a : Answer call) (after : Book) → Made call a (book_of l) after → KeptBy m ((call, a) ∷ lived) (entered l call)
  call_kept (meter asset kwh) a after made = other_kept _ _ (λ _ _ _. refl) _ (λ _ c o. (c, o))
  call_kept (propose number source sink kwh) a after made = other_kept _ _ (λ _ _ _. refl) _ (λ _ c o. (c, o))
  call_kept (confirm number participant) a after made = other_kept _ _ (λ _ _ _. refl) _ (λ _ c o. (c, o))
  call_kept (withdraw number participant) a after made = other_kept _ _ (λ _ _ _. refl) _ (λ _ c o. (c, o))
  call_kept (draw shares law list) a after made = draw_kept shares law list a after made
  call_kept (post slip) a after made = other_kept (post slip, a) _ (λ _ _ _. refl) _ (λ _ c o. (post_chain (post slip, a) l.out l.posted c o, tt))
  call_kept (void slip) a after made = other_kept (void slip, a) _ (λ _ _ _. refl) _ (λ _ c o. (c, tt))

-- every list of calls keeps its draws on record
pub all_kept : (m : Market) → SoundMarket m → (lived : List Lived) (b : Book) → Leads m lived b → KeptBy m lived (ledger_of m (calls_of lived))
all_kept m closed [] b came = (tt, tt)
all_kept m closed (event ∷ earlier) b came =
    let l = ledger_of m (calls_of earlier) in
    let same = book_agrees m earlier came.0 came.1 in
    let sound = subst (SoundBook m) same (book_sound m closed earlier came.0 came.1) in
    call_kept m earlier l sound (all_kept m closed earlier came.0 came.1) event.0 event.1 b (subst (λ x. Made event.0 event.1 x b) same came.2)
