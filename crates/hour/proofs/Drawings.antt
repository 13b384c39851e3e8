-- What a draw answers and leaves, exit by exit. Assumes nothing.
use Rattle.std.proofs.Common.{◌≡◌, ℕ, ◌+◌, ◌≤◌, Bool, true, false, cond, ltb, leb, List, [], ◌∷◌, ◌++◌, map, length, drop, is_some, Some, None, Ok, Err, Result, unwrap_or, sym, refl, ap, ◌∙◌, arith}
use Rattle.std.proofs.lemmas.List.{length-map}
use Rattle.std.proofs.lemmas.Bool.{cond-true, cond-false, le-ltb}
use Rattle.splitting.specs.declared.fault.Fault as splitting
use Rattle.splitting.specs.declared.fault.Fault.TheVariants.{NothingWeighs, LimitPassed}
use Rattle.hour.specs.declared.fault.Fault.{Fault}
use Rattle.hour.specs.declared.fault.Fault.TheVariants as hour
use Rattle.hour.specs.declared.fault.Fault.TheVariants.{RunOut, ReadingMissing, Split, DrawsUsedUp, NetTooLarge}
use Rattle.hour.specs.Book.{run_number}
use Rattle.hour.specs.declared.line.Amounts.{Amounts}
use Rattle.hour.specs.declared.line.Line.{Line}
use Rattle.hour.specs.declared.slip.Slip.{Slip}
use Rattle.hour.specs.declared.run.Charges.{Charges}
use Rattle.hour.specs.declared.book.Book.{Book}
use Rattle.hour.specs.declared.charge.Charge.{Charge}
use Rattle.hour.specs.declared.charge.Charge.TheVariants.{Supply, Load}
use Rattle.hour.specs.Reason.{Reason, when, first_fitting}
use Rattle.hour.specs.Listing.{listing}
use Rattle.hour.specs.Figure.{figure_of}
use Rattle.hour.specs.Charge.{weighed, weights, stranded, over_limit, charge_reasons, both, charge_answer, charge_table}
use Rattle.hour.specs.Amounts.{instead, amounts_answer}
use Rattle.hour.specs.declared.market.Market.{Market}
use Rattle.hour.specs.Line.{new_amounts, line_of, lines_of, first_beyond}
use Rattle.hour.specs.Run.{price_of, first_unread, drawn_lines, draw_reasons, slip_of, Drawing}
use Rattle.hour.proofs.Listings.{listing_short}

-- a reason that does not fit is passed over, and one that fits decides
skip : {A : Type 0} (t : Bool) (fault : Fault) (rest : List Reason) (end : Result A Fault) → t ≡ false → first_fitting (when t fault ∷ rest) end ≡ first_fitting rest end
skip t fault rest end e = cond-false t (Err fault) (first_fitting rest end) e

hit : {A : Type 0} (t : Bool) (fault : Fault) (rest : List Reason) (end : Result A Fault) → t ≡ true → first_fitting (when t fault ∷ rest) end ≡ Err fault
hit t fault rest end e = cond-true t (Err fault) (first_fitting rest end) e

-- what a rule answers, by whether there is nothing that weighs and whether a limit is passed
abbrev told : Bool → Bool → List ℕ → Result (List ℕ) splitting.Fault
told s o table = cond s (Err NothingWeighs) (cond o (Err LimitPassed) (Ok table))

-- the reasons of both charges
abbrev four : Bool → Bool → Bool → Bool → List Reason → List Reason
four s t o p rest = when s (Split NothingWeighs) ∷ when t (Split NothingWeighs) ∷ when o (Split LimitPassed) ∷ when p (Split LimitPassed) ∷ rest

-- an answer of a rule as an answer of the hour
abbrev lifted : {A X : Type 0} → Result X splitting.Fault → Result A Fault → Result A Fault
lifted (Ok x) end = end
lifted (Err f) end = Err (Split f)

four_told : {A : Type 0} (s t o p : Bool) (x y : List ℕ) (rest : List Reason) (end : Result A Fault) → first_fitting (four s t o p rest) end ≡ lifted (both (told s o x) (told t p y)) (first_fitting rest end)
four_told true true true true x y rest end = refl
four_told true true true false x y rest end = refl
four_told true true false true x y rest end = refl
four_told true true false false x y rest end = refl
four_told true false true true x y rest end = refl
four_told true false true false x y rest end = refl
four_told true false false true x y rest end = refl
four_told true false false false x y rest end = refl
four_told false true true true x y rest end = refl
four_told false true true false x y rest end = refl
four_told false true false true x y rest end = refl
four_told false true false false x y rest end = refl
four_told false false true true x y rest end = refl
four_told false false true false x y rest end = refl
four_told false false false true x y rest end = refl
four_told false false false false x y rest end = refl

-- the lines of all that are listed are the lines of the run
pub all_lines : (news posted : List Amounts) (m : Market) (participants : List ℕ) → participants ≡ listing m → map (line_of news posted) participants ≡ lines_of news posted m
unfolding lines_of
all_lines news posted m participants same = ap (map (line_of news posted)) same

module _ (shares : ℕ → List ℕ → List ℕ) (price : ℕ) (b : Book) where
  few : (charge : Charge) → length (weights charge price b) ≤ 32
  unfolding weights
  few charge = omega (arith, length-map (listing b.market) (figure_of (weighed charge) price b), listing_short b.market 32)

  -- 32 places are enough for the shares
  charge_told : (charge : Charge) → charge_answer shares charge price b ≡ told (stranded charge price b) (over_limit charge price b) (charge_table shares charge price b)
  charge_told charge = cond-false (ltb 32 (length (weights charge price b))) _ _ (le-ltb 32 _ (few charge))

  instead_lifted : {A : Type 0} (a : Result Charges splitting.Fault) (amounts : List Amounts) (end : Result A Fault) → lifted a end ≡ lifted (instead a amounts) end
  instead_lifted (Ok x) amounts end = refl
  instead_lifted (Err f) amounts end = refl

  -- the reasons of the charges say what the rule says
  pub charges_told : {A : Type 0} (rest : List Reason) (end : Result A Fault) → first_fitting (charge_reasons price b ++ rest) end ≡ lifted (amounts_answer shares price b) (first_fitting rest end)
  charges_told rest end =
      four_told (stranded Supply price b) (stranded Load price b) (over_limit Supply price b) (over_limit Load price b) (charge_table shares Supply price b) (charge_table shares Load price b) rest end
      ∙ ap (λ a. lifted (both a (told (stranded Load price b) (over_limit Load price b) (charge_table shares Load price b))) (first_fitting rest end)) (sym (charge_told Supply))
      ∙ ap (λ a. lifted (both (charge_answer shares Supply price b) a) (first_fitting rest end)) (sym (charge_told Load))
      ∙ instead_lifted (both (charge_answer shares Supply price b) (charge_answer shares Load price b)) (new_amounts shares price b) (first_fitting rest end)

  same_value : (a : Result Charges splitting.Fault) (x y : List Amounts) → Ok x ≡ instead a y → x ≡ y
  same_value (Ok c) x y e = cc
  same_value (Err f) x y e = let z : ◌≡◌ {A = ℕ} 0 1 = cc in absurd (omega arith)

  -- amounts that the rule gives are the new amounts
  pub amounts_given : (amounts : List Amounts) → Ok amounts ≡ amounts_answer shares price b → amounts ≡ new_amounts shares price b
  amounts_given amounts e = same_value (both (charge_answer shares Supply price b) (charge_answer shares Load price b)) amounts (new_amounts shares price b) e

module _ (shares : ℕ → List ℕ → List ℕ) (b : Book) (list : List Line)
    (none_out : is_some b.out ≡ false) (room : length (listing b.market) ≤ length list) (read : first_unread b.market ≡ None) where
  abbrev end : Result Slip Fault
  end = Ok (slip_of b.market.label (b.draws + 1))

  abbrev last_one : List Reason
  last_one = when (is_some (first_beyond (drawn_lines shares b))) (NetTooLarge (unwrap_or (first_beyond (drawn_lines shares b)) 0)) ∷ []

  abbrev last_two : List Reason
  last_two = when (leb 1000000 b.draws) DrawsUsedUp ∷ last_one

  abbrev after_room : List Reason
  after_room = when (is_some (first_unread b.market)) (ReadingMissing (unwrap_or (first_unread b.market) 0)) ∷ charge_reasons (price_of b) b ++ last_two

  abbrev after_out : List Reason
  after_out = when (ltb (length list) (length (listing b.market))) (hour.ListTooShort (length (listing b.market))) ∷ after_room

  -- the first three reasons do not fit
  to_charges : first_fitting (draw_reasons shares b (length list)) end ≡ lifted (amounts_answer shares (price_of b) b) (first_fitting last_two end)
  to_charges =
      skip (is_some b.out) (RunOut (run_number b.out)) after_out end none_out
      ∙ skip (ltb (length list) (length (listing b.market))) (hour.ListTooShort (length (listing b.market))) after_room end (le-ltb (length list) _ room)
      ∙ skip (is_some (first_unread b.market)) (ReadingMissing (unwrap_or (first_unread b.market) 0)) (charge_reasons (price_of b) b ++ last_two) end (ap is_some read)
      ∙ charges_told shares (price_of b) b last_two end

  pub refused_by_rule : (fault : splitting.Fault) → Err fault ≡ amounts_answer shares (price_of b) b → Drawing shares b list (Err (Split fault)) b list
  refused_by_rule fault e = record {
    answer = sym (to_charges ∙ ap (λ a. lifted a (first_fitting last_two end)) (sym e));
    state = refl;
    writes = refl;
  }

  module _ (amounts : List Amounts) (given : Ok amounts ≡ amounts_answer shares (price_of b) b) where
    to_draws : first_fitting (draw_reasons shares b (length list)) end ≡ first_fitting last_two end
    to_draws = to_charges ∙ ap (λ a. lifted a (first_fitting last_two end)) (sym given)

    pub refused_draws : leb 1000000 b.draws ≡ true → Drawing shares b list (Err DrawsUsedUp) b list
    refused_draws full = record { answer = sym (to_draws ∙ hit (leb 1000000 b.draws) DrawsUsedUp last_one end full); state = refl; writes = refl }

    pub refused_net : (participant : ℕ) → leb 1000000 b.draws ≡ false → Some participant ≡ first_beyond (drawn_lines shares b) → Drawing shares b list (Err (NetTooLarge participant)) b list
    refused_net participant spare found = record {
      answer = sym (to_draws ∙ skip (leb 1000000 b.draws) DrawsUsedUp last_one end spare ∙ ap (λ o. first_fitting (when (is_some o) (NetTooLarge (unwrap_or o 0)) ∷ []) end) (sym found));
      state = refl;
      writes = refl;
    }

    pub accepted_draw : (left : List Line) → leb 1000000 b.draws ≡ false → None ≡ first_beyond (drawn_lines shares b) → left ≡ drawn_lines shares b ++ drop (length (listing b.market)) list →
        Drawing shares b list end (record { market = b.market; instructions = b.instructions; posted = b.posted; draws = b.draws + 1; out = Some (record { number = b.draws + 1; amounts = amounts }) }) left
    accepted_draw left spare fine written = record {
      answer = sym (to_draws ∙ skip (leb 1000000 b.draws) DrawsUsedUp last_one end spare ∙ ap (λ o. first_fitting (when (is_some o) (NetTooLarge (unwrap_or o 0)) ∷ []) end) (sym fine));
      state = ap (λ xs. record { market = b.market; instructions = b.instructions; posted = b.posted; draws = b.draws + 1; out = Some (record { number = b.draws + 1; amounts = xs }) }) (amounts_given shares (price_of b) b amounts given);
      writes = written;
    }
