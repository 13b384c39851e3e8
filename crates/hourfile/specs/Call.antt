-- What the call of a line answers, by the contract of the call that is made. Assumes nothing.
use Rattle.std.specs.Prelude.{◌≡◌, ℕ, ◌≤◌, true, is_some, Some, None, Ok, Err, Option, Result}
use Rattle.hour.specs.declared.fault.Fault as hour
use Rattle.hour.specs.declared.market.Market.{Market}
use Rattle.hour.specs.declared.book.Book.{Book}
use Rattle.hour.specs.Market.{asset_at, record_at}
use Rattle.hour.specs.Book.{owner_of}
use Rattle.hour.specs.Priced.{Metering, Proposal, Confirmation}
use Rattle.ledger.specs.Trade.{Trade, enrol, offer, order, shedding, TradeMade}
use Rattle.prices.specs.Block.{listed}
use Rattle.file.specs.Item.{Item}
use Rattle.file.specs.declared.item.ItemWith.TheVariants.{Hour, Asset, Offer, Order, Shed, Meter, Instruct, Rule}
use Rattle.file.specs.declared.item.RuleName.{RuleName}
use Rattle.hourfile.specs.declared.fault.Fault.{Fault}
use Rattle.hourfile.specs.declared.fault.Fault.TheVariants as of_file

-- every enrolled asset has a participant as its owner
abbrev pub Owners : Market → Type 0
Owners m = (k : ℕ) → is_some (asset_at m k) ≡ true → (1 ≤ (record_at m k).owner) × ((record_at m k).owner ≤ 32)

-- an answer of the hour passed on: with a value, or with the hour's fault whole
abbrev pub passed_on : {A : Type 0} → A → Result (Unit {0}) hour.Fault → Result A Fault
passed_on value (Ok u) = Ok value
passed_on value (Err fault) = Err (of_file.Hour fault)

-- a trading call was made, and its answer passed on
abbrev pub MadeTrade : Trade → Market → Option (Result (Unit {0}) hour.Fault) → Market → Type 0
MadeTrade trade before (Some said) after = TradeMade trade said before after
MadeTrade trade before None after = ⊥

-- a line without a trading call changes nothing
abbrev pub NoTrade : Market → Option (Result (Unit {0}) hour.Fault) → Market → Type 0
NoTrade before (Some said) after = ⊥
NoTrade before None after = after ≡ before

-- the trading call of a line
abbrev pub Traded : Item → Market → Option (Result (Unit {0}) hour.Fault) → Market → Type 0
Traded (Hour label) before r after = NoTrade before r after
Traded (Asset asset letter owner) before r after = MadeTrade (enrol asset letter owner) before r after
Traded (Offer asset blocks) before r after = MadeTrade (offer asset (listed blocks)) before r after
Traded (Order asset minute level) before r after = MadeTrade (order asset minute level) before r after
Traded (Shed first end) before r after = MadeTrade (shedding first end) before r after
Traded (Meter asset kwh) before r after = NoTrade before r after
Traded (Instruct number source sink kwh) before r after = NoTrade before r after
Traded (Rule name) before r after = NoTrade before r after

-- an instruction was proposed, and confirmed by the owner of its sink
pub record Joined (before : Book) (number source sink kwh : ℕ) (after : Book) : Type 0 where
  pub between : Book
  pub proposal : Proposal before number source sink kwh (Ok tt) between
  pub confirmation : Confirmation between number (owner_of before.market sink) (Ok tt) after

-- an instruction was joined, or its proposal was refused
abbrev pub Instructed : Book → (number source sink kwh : ℕ) → Result (Unit {0}) Fault → Book → Type 0
Instructed before number source sink kwh (Ok u) after = Joined before number source sink kwh after
Instructed before number source sink kwh (Err fault) after = (inner : hour.Fault) × (fault ≡ of_file.Hour inner) × Proposal before number source sink kwh (Err inner) after

-- a line whose call is on the priced hour, or that names the rule
abbrev pub EntryLine : Item → Type 0
EntryLine (Hour label) = ⊥
EntryLine (Asset asset letter owner) = ⊥
EntryLine (Offer asset blocks) = ⊥
EntryLine (Order asset minute level) = ⊥
EntryLine (Shed first end) = ⊥
EntryLine (Meter asset kwh) = Unit {0}
EntryLine (Instruct number source sink kwh) = Unit {0}
EntryLine (Rule name) = Unit {0}

-- an instruction was joined and no rule named, or its proposal was refused
abbrev pub InstructedLine : Book → (number source sink kwh : ℕ) → Result (Option RuleName) Fault → Book → Type 0
InstructedLine before number source sink kwh (Ok rule) after = (rule ≡ None) × Joined before number source sink kwh after
InstructedLine before number source sink kwh (Err fault) after = (inner : hour.Fault) × (fault ≡ of_file.Hour inner) × Proposal before number source sink kwh (Err inner) after

-- a reading was given, and the answer passed on
pub record MeteredLine (before : Book) (asset kwh : ℕ) (r : Result (Option RuleName) Fault) (after : Book) : Type 0 where
  pub said : Result (Unit {0}) hour.Fault
  pub made : Metering before asset kwh said after
  pub carried : r ≡ passed_on None said

-- the call of a line on the priced hour
abbrev pub Entered : Item → Book → Result (Option RuleName) Fault → Book → Type 0
Entered (Hour label) before r after = ⊥
Entered (Asset asset letter owner) before r after = ⊥
Entered (Offer asset blocks) before r after = ⊥
Entered (Order asset minute level) before r after = ⊥
Entered (Shed first end) before r after = ⊥
Entered (Meter asset kwh) before r after = MeteredLine before asset kwh r after
Entered (Instruct number source sink kwh) before r after = InstructedLine before number source sink kwh r after
Entered (Rule name) before r after = (r ≡ Ok (Some name)) × (after ≡ before)
