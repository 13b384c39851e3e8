-- The start of a file, the close of the hour, and the end of the file. Assumes nothing.
use Rattle.std.proofs.Common.{◌≡◌, ℕ, ◌≤◌, Bool, true, false, cond, ltb, List, [], ◌∷◌, length, Some, None, Ok, Err, sym, refl, subst, inl, arith}
use Rattle.std.proofs.lemmas.Bool.{both_ways, ltb-true, lt-ltb}
use Rattle.hour.specs.declared.market.Market.{Market}
use Rattle.hour.specs.declared.book.Book.{Book}
use Rattle.hour.specs.Book.{new_book}
use Rattle.ledger.proofs.Soundness.{market_sound}
use Rattle.file.specs.Key.{order_of}
use Rattle.file.specs.declared.item.ItemWith.TheVariants.{Rule}
use Rattle.file.specs.declared.item.RuleName.{RuleName}
use Rattle.file.proofs.Places.{nothing_stands}
use Rattle.hourfile.specs.Cursor.{BrokenHere, Behind, Trading, CameTo, EntryNext, Entering, Ruled}
use Rattle.hourfile.specs.Outcome.{FirstFault}
use Rattle.hourfile.specs.declared.cursor.Cursor.{Cursor}
use Rattle.hourfile.specs.declared.fault.Fault.TheVariants.{IllFormed}
use Rattle.hourfile.specs.declared.fault.LineFault.{LineFault}
use Rattle.hourfile.proofs.Passing.{stopped, broken_line}

-- nothing stands before the start
pub start_behind : (file : List ℕ) → Behind file [] (record { start = 0; line = 1; last = None })
start_behind file = record { stands = nothing_stands file 0 0 (omega arith) refl; counted = refl; last = refl }

-- an ill-formed first line
pub broken_first : (file : List ℕ) → length file ≤ 32768 → (cursor : Cursor) → cursor ≡ (record { start = 0; line = 1; last = None }) → (at : LineFault) → BrokenHere file cursor at → FirstFault file at
broken_first file few cursor is at h =
    broken_line file few [] tt (record { start = 0; line = 1; last = None }) (start_behind file) (λ e. let z : ◌≡◌ {A = ℕ} 0 1 = cc in absurd (omega arith)) at (subst (λ c. BrokenHere file c at) is h)

-- a closed hour takes the lines that follow the trading lines
pub closed : (file : List ℕ) (m : Market) (b : Book) (cursor : Cursor) → Trading file m cursor → EntryNext file cursor → b ≡ new_book m → Entering file b cursor
closed file m b cursor t entries is = record {
  items = t.items;
  key = t.key;
  through = t.through;
  unruled = lt-ltb (order_of t.key) 7 (omega (arith, ltb-true (order_of t.key) 5 t.early));
  entries = entries;
  came = subst (CameTo t.items) (sym is) (record {
    market = m;
    traded = t.traded;
    trading = t.trading;
    same_trades = t.same_trades;
    lived = [];
    since = refl;
    same_calls = sym t.uncalled;
    labelled = t.labelled;
    owners = λ k. refl;
    parties = (market_sound _ t.traded m t.trading).owners;
  });
}

module _ (file : List ℕ) (few : length file ≤ 32768) (b : Book) (cursor : Cursor) (rule : RuleName) (t : Ruled file b cursor rule) where
  -- something stands behind the line of the rule
  pub surplus : (at : LineFault) → Err at ≡ cond (ltb cursor.start (length file)) (Err (record { line = Some cursor.line; fault = IllFormed 1 })) (Ok (tt {0})) → FirstFault file at
  surplus at said = by (ltb cursor.start (length file)) refl said
    where
      by : (more : Bool) → ltb cursor.start (length file) ≡ more → Err at ≡ cond more (Err (record { line = Some cursor.line; fault = IllFormed 1 })) (Ok (tt {0})) → FirstFault file at
      by true e h =
          let same : at ≡ (record { line = Some cursor.line; fault = IllFormed 1 }) = cc in
          subst (FirstFault file) (sym same) (stopped file few (Rule rule ∷ t.items) t.passed cursor t.behind (IllFormed 1) (record {
            broken = inl (λ key found. both_ways false refl found.allowed, refl);
            more = λ _. ltb-true cursor.start (length file) e;
          }))
      by false e h = let z : ◌≡◌ {A = ℕ} 0 1 = cc in absurd (omega arith)
