-- What draw, post and void answer and change. Assumes nothing.
use Rattle.std.specs.Prelude.{◌≡◌, ℕ, suc, ◌+◌, Bool, true, cond, not, ◌&&◌, List, [], ◌∷◌, ◌++◌, length, drop, is_some, is_ok, Some, None, Ok, Err, Option, Result, ◌==◌, nat_le, nat_lt}
use Rattle.std.specs.Option.{unwrap_or, option_map}
use Rattle.prices.specs.Range.{first_place}
use Rattle.prices.specs.Schedule.{pool_price}
use Rattle.hour.specs.declared.fault.Fault.{Fault}
use Rattle.hour.specs.declared.fault.Fault.TheVariants.{ForeignSlip, ListTooShort, ReadingMissing, DrawsUsedUp, NetTooLarge}
use Rattle.hour.specs.declared.line.Amounts.{Amounts}
use Rattle.hour.specs.declared.line.Line.{Line}
use Rattle.hour.specs.declared.run.Run.{Run}
use Rattle.hour.specs.declared.slip.Slip.{Slip}
use Rattle.hour.specs.declared.slip.Returned.{Returned}
use Rattle.hour.specs.declared.market.Market.{Market}
use Rattle.hour.specs.declared.book.Book.{Book}
use Rattle.hour.specs.Reason.{Reason, when, first_fitting, Rising}
use Rattle.hour.specs.Market.{asset_at, record_at, outcome}
use Rattle.hour.specs.Book.{FullBook, out_reason, run_number}
use Rattle.hour.specs.Range.{Ranged}
use Rattle.hour.specs.Listing.{listing}
use Rattle.hour.specs.Charge.{charge_reasons}
use Rattle.hour.specs.Line.{AllWithin, new_amounts, lines_of, first_beyond}

-- the pool price of an hour
abbrev pub price_of : Book → ℕ
price_of b = pool_price b.market.schedule

-- whether the asset at a place is enrolled and has no reading
abbrev pub unread : Market → ℕ → Bool
unread m place = is_some (asset_at m place) && not (is_some (record_at m place).reading)

-- the lowest asset without a reading
unfoldable pub first_unread : Market → Option ℕ
first_unread m = option_map suc (first_place (unread m) 64)

-- the new amounts that a draw would enter
abbrev pub drawn_amounts : (ℕ → List ℕ → List ℕ) → Book → List Amounts
drawn_amounts shares b = new_amounts shares (price_of b) b

-- the lines that a draw would write
abbrev pub drawn_lines : (ℕ → List ℕ → List ℕ) → Book → List Line
drawn_lines shares b = lines_of (drawn_amounts shares b) b.posted b.market

abbrev pub draw_reasons : (ℕ → List ℕ → List ℕ) → Book → (places : ℕ) → List Reason
draw_reasons shares b places =
    out_reason b
    ∷ when (nat_lt places (length (listing b.market))) (ListTooShort (length (listing b.market)))
    ∷ when (is_some (first_unread b.market)) (ReadingMissing (unwrap_or (first_unread b.market) 0))
    ∷ charge_reasons (price_of b) b
    ++ when (nat_le 1000000 b.draws) DrawsUsedUp
    ∷ when (is_some (first_beyond (drawn_lines shares b))) (NetTooLarge (unwrap_or (first_beyond (drawn_lines shares b)) 0))
    ∷ []

-- the slip of a run
abbrev pub slip_of : ℕ → ℕ → Slip
slip_of label run = record { label = label; run = run }

-- a run more, which is out
abbrev pub drawn : (ℕ → List ℕ → List ℕ) → Book → Book
drawn shares b = record {
  market = b.market;
  instructions = b.instructions;
  posted = b.posted;
  draws = b.draws + 1;
  out = Some (record { number = b.draws + 1; amounts = drawn_amounts shares b });
}

-- draw: the lines stand in the leading places of the caller's list, and the run is out
pub record Drawing (shares : ℕ → List ℕ → List ℕ) (before : Book) (list : List Line) (r : Result Slip Fault) (after : Book) (left : List Line) : Type 0 where
  pub answer : r ≡ first_fitting (draw_reasons shares before (length list)) (Ok (slip_of before.market.label (before.draws + 1)))
  pub state : after ≡ outcome r (drawn shares before) before
  pub writes : left ≡ outcome r (drawn_lines shares before ++ drop (length (listing before.market)) list) list

-- what trading left and the instructions are as they were
pub record OnlyRuns (before after : Book) : Type 0 where
  pub market : after.market ≡ before.market
  pub instructions : after.instructions ≡ before.instructions

-- draw in words: its reasons stand by rising row; the run of the slip is then out with its amounts, one draw more is made, and what is posted is as it was
pub record DrawingInWords (shares : ℕ → List ℕ → List ℕ) (before : Book) (list : List Line) (r : Result Slip Fault) (after : Book) : Type 0 where
  pub topmost : Rising (draw_reasons shares before (length list))
  pub out_now : (slip : Slip) → r ≡ Ok slip → after.out ≡ Some (record { number = slip.run; amounts = drawn_amounts shares before })
  pub one_more : is_ok r ≡ true → after.draws ≡ before.draws + 1
  pub posted : after.posted ≡ before.posted
  pub others : OnlyRuns before after

-- whether a slip is that of the run out
abbrev pub slip_fits : Book → Slip → Bool
slip_fits b slip = is_some b.out && (slip.label == b.market.label && slip.run == run_number b.out)

-- the amounts of the run out
abbrev pub out_amounts : Option Run → List Amounts
out_amounts None = []
out_amounts (Some run) = run.amounts

-- a run that is out has the amounts of all 32 participants
abbrev pub full_run : Option Run → Bool
full_run None = true
full_run (Some run) = length run.amounts == 32

-- what a priced hour keeps true of its tables: their sizes and ranges, and the limits of what is posted and of what is out
abbrev pub PricedTables : Book → Type 0
PricedTables b = FullBook b × Ranged b × AllWithin b.posted × AllWithin (out_amounts b.out) × (full_run b.out ≡ true)

-- what a post or a void answers: a slip that does not fit comes back
abbrev pub slip_answer : Book → Slip → Result (Unit {0}) Returned
slip_answer b slip = cond (slip_fits b slip) (Ok tt) (Err (record { slip = slip; fault = ForeignSlip slip.run }))

-- no run is out any more
abbrev pub settled : Book → List Amounts → Book
settled b posted = record { market = b.market; instructions = b.instructions; posted = posted; draws = b.draws; out = None }

-- post: the amounts of the run out are posted
pub record Posting (before : Book) (slip : Slip) (r : Result (Unit {0}) Returned) (after : Book) : Type 0 where
  pub answer : r ≡ slip_answer before slip
  pub state : after ≡ cond (slip_fits before slip) (settled before (out_amounts before.out)) before

-- void: the run out is dropped
pub record Voiding (before : Book) (slip : Slip) (r : Result (Unit {0}) Returned) (after : Book) : Type 0 where
  pub answer : r ≡ slip_answer before slip
  pub state : after ≡ cond (slip_fits before slip) (settled before before.posted) before

-- post in words: the amounts of the run that was out are then posted, and no run is out
pub record PostingInWords (before : Book) (r : Result (Unit {0}) Returned) (after : Book) : Type 0 where
  pub posted_now : is_ok r ≡ true → after.posted ≡ out_amounts before.out
  pub none_out : is_ok r ≡ true → after.out ≡ None
  pub draws : after.draws ≡ before.draws
  pub others : OnlyRuns before after

-- void in words: no run is out then, and what is posted is as it was
pub record VoidingInWords (before : Book) (r : Result (Unit {0}) Returned) (after : Book) : Type 0 where
  pub none_out : is_ok r ≡ true → after.out ≡ None
  pub posted : after.posted ≡ before.posted
  pub draws : after.draws ≡ before.draws
  pub others : OnlyRuns before after
