use Rattle.std.proofs.Common.{◌≡◌, ℕ, zero, suc, true, List, get_or, replicate, Option, sym, refl, subst}
use Rattle.prices.specs.declared.asset.Asset.{Asset}
use Rattle.hour.specs.declared.instruction.Instruction.TheVariants.{Free}
use Rattle.hour.specs.Book.{new_book, joins}
use Rattle.hour.specs.Run.{PricedTables}
use Rattle.hour.proofs.TradeSteps.{unread_small}
use Rattle.hour.proofs.Runs.{nothing_within, none_within}
use Rattle.hour.proofs.priced.PricedHour.open.Goals as goal

all_free : (assets : List (Option Asset)) (n k : ℕ) → joins assets (get_or (replicate n Free) k Free) ≡ true
all_free assets zero k = refl
all_free assets (suc n) zero = refl
all_free assets (suc n) (suc k) = all_free assets n k

pub invariant_of-result : goal.invariant_of-result
invariant_of-result c =
    let h = c.args.trading in
    let m = h.market in
    let kept : PricedTables (new_book m) = (
      (h.kept.0.0, h.kept.0.1, h.kept.0.2, refl, refl),
      (h.kept.1, λ k. unread_small _ (h.kept.2 k), λ k. all_free m.schedule.assets 64 k),
      none_within 32,
      λ k item. nothing_within item,
      refl,
    ) in
    record { kept = subst PricedTables (sym c.new.ensures) kept }
