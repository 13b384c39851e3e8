use Rattle.std.proofs.Common.{[], ◌∷◌, refl}
use Rattle.ledger.specs.Trade.{enrol, offer, order}
use Rattle.cases.specs.Worked.{block}
use Rattle.cases.proofs.late.trade_worked_hour.Goals as goal

pub returns : goal.returns
returns c = record {
  lived =
      (order 2 30 80, c.order-3.result)
      ∷ (order 2 0 50, c.order-2.result)
      ∷ (order 1 0 100, c.order.result)
      ∷ (offer 2 (block 50 3000 ∷ block 50 9000 ∷ []), c.offer-2.result)
      ∷ (offer 1 (block 100 2000 ∷ []), c.offer.result)
      ∷ (enrol 4 76 4, c.enrol-4.result)
      ∷ (enrol 3 76 3, c.enrol-3.result)
      ∷ (enrol 2 71 2, c.enrol-2.result)
      ∷ (enrol 1 71 1, c.enrol.result)
      ∷ [];
  came = (
    c.order-2.new.self.market,
    (
      c.order.new.self.market,
      (
        c.offer-2.new.self.market,
        (
          c.offer.new.self.market,
          (
            c.enrol-4.new.self.market,
            (
              c.enrol-3.new.self.market,
              (
                c.enrol-2.new.self.market,
                (
                  c.enrol.new.self.market,
                  (c.new-trading.result.market, c.new-trading.ensures, c.enrol.ensures),
                  c.enrol-2.ensures,
                ),
                c.enrol-3.ensures,
              ),
              c.enrol-4.ensures,
            ),
            c.offer.ensures,
          ),
          c.offer-2.ensures,
        ),
        c.order.ensures,
      ),
      c.order-2.ensures,
    ),
    c.order-3.ensures,
  );
  same = refl;
}
