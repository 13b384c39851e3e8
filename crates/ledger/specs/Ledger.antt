-- The ledger of an hour: kept from the calls' arguments alone, by the rules. Assumes nothing.
use Rattle.std.specs.Prelude.{ℕ, ◌+◌, cond, List, [], ◌∷◌, ◌++◌, length, replicate, Some, None, Option}
use Rattle.std.specs.Option.{option_map, option_to_list}
use Rattle.splitting.specs.Rule.{Lawful}
use Rattle.hour.specs.declared.instruction.Instruction.{Instruction}
use Rattle.hour.specs.declared.instruction.Instruction.TheVariants.{Free}
use Rattle.hour.specs.declared.line.Amounts.{Amounts}
use Rattle.hour.specs.declared.run.Run.{Run}
use Rattle.hour.specs.declared.market.Market.{Market}
use Rattle.hour.specs.declared.book.Book.{Book}
use Rattle.hour.specs.Book.{no_amounts, meter_reasons, metered, propose_reasons, proposed, confirm_reasons, confirmed, withdraw_reasons, withdrawn}
use Rattle.hour.specs.Run.{drawn_amounts, draw_reasons, slip_fits}
use Rattle.ledger.specs.Trade.{accepted}
use Rattle.ledger.specs.Call.{Call, meter, propose, confirm, withdraw, draw, post, void}

-- a draw that was made: its number, the meaning of its rule with the law that it keeps, and the tables as they stood
pub record Draw : Type 0 where
  pub number : ℕ
  pub shares : ℕ → List ℕ → List ℕ
  pub law : Lawful shares
  pub tables : Book

-- the new amounts of every participant at a draw
abbrev pub amounts_drawn : Draw → List Amounts
amounts_drawn d = drawn_amounts d.shares d.tables

-- the ledger: the tables, how many draws were made, the draw that is out, and the posted draws, the latest first
pub record Ledger : Type 0 where
  pub market : Market
  pub instructions : List Instruction
  pub draws : ℕ
  pub out : Option Draw
  pub posted : List Draw

-- the amounts that stand posted: those of the draw posted last, none before the first
abbrev pub amounts_posted : List Draw → List Amounts
amounts_posted [] = replicate 32 no_amounts
amounts_posted (d ∷ earlier) = amounts_drawn d

-- a draw as the hour keeps it while it is out
abbrev pub run_of : Draw → Run
run_of d = record { number = d.number; amounts = amounts_drawn d }

-- the tables that an hour with this ledger has
abbrev pub book_of : Ledger → Book
book_of l = record { market = l.market; instructions = l.instructions; posted = amounts_posted l.posted; draws = l.draws; out = option_map run_of l.out }

-- the ledger with other tables
abbrev pub with_tables : Ledger → Book → Ledger
with_tables l b = record { market = b.market; instructions = b.instructions; draws = l.draws; out = l.out; posted = l.posted }

-- the ledger with one draw more, which is out
abbrev pub with_draw : Ledger → (shares : ℕ → List ℕ → List ℕ) → Lawful shares → Ledger
with_draw l shares law = record {
  market = l.market;
  instructions = l.instructions;
  draws = l.draws + 1;
  out = Some (record { number = l.draws + 1; shares = shares; law = law; tables = book_of l });
  posted = l.posted;
}

-- the ledger with nothing out and these draws posted
abbrev pub with_posted : Ledger → List Draw → Ledger
with_posted l posted = record { market = l.market; instructions = l.instructions; draws = l.draws; out = None; posted = posted }

-- what a call does in the ledger: nothing if it is refused
abbrev pub entered : Ledger → Call → Ledger
entered l (meter asset kwh) = cond (accepted (meter_reasons (book_of l) asset kwh)) (with_tables l (metered (book_of l) asset kwh)) l
entered l (propose number source sink kwh) = cond (accepted (propose_reasons (book_of l) number source sink kwh)) (with_tables l (proposed (book_of l) number source sink kwh)) l
entered l (confirm number participant) = cond (accepted (confirm_reasons (book_of l) number participant)) (with_tables l (confirmed (book_of l) number)) l
entered l (withdraw number participant) = cond (accepted (withdraw_reasons (book_of l) number participant)) (with_tables l (withdrawn (book_of l) number)) l
entered l (draw shares law list) = cond (accepted (draw_reasons shares (book_of l) (length list))) (with_draw l shares law) l
entered l (post slip) = cond (slip_fits (book_of l) slip) (with_posted l (option_to_list l.out ++ l.posted)) l
entered l (void slip) = cond (slip_fits (book_of l) slip) (with_posted l l.posted) l

-- the ledger after a market is closed and a list of calls is made, the latest first
abbrev pub ledger_of : Market → List Call → Ledger
ledger_of m [] = record { market = m; instructions = replicate 64 Free; draws = 0; out = None; posted = [] }
ledger_of m (call ∷ before) = entered (ledger_of m before) call
