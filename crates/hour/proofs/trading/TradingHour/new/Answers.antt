use Rattle.std.proofs.Common.{sym, subst}
use Rattle.hour.specs.Market.{OpenTables}
use Rattle.hour.proofs.TradeSteps.{empty_kept}
use Rattle.hour.proofs.trading.TradingHour.new.Goals as goal

pub invariant_of-result : goal.invariant_of-result
invariant_of-result c =
    record { kept = subst OpenTables (sym c.new.ensures) (empty_kept c.args.label) }
