use Rattle.std.proofs.Common.{Ok, List, ◌∷◌, sym, ap, ◌∙◌, to_z-of_z, w64, SFits}
use Rattle.ledger.specs.Call.{Lived, meter, draw, post, void}
use Rattle.ledger.specs.Law.{CameBy, nets_due, ledger_by}
use Rattle.cases.specs.Worked.{worked_label, worked_trades, worked_calls, worked_market, worked_book}
use Rattle.cases.proofs.LastPost.{draw_from, came_agrees, came_to, posted_last, draw_keeps, post_keeps, void_keeps}
use Rattle.cases.proofs.LateFigure.{read_late, nets_of, late_figure}
use Rattle.cases.proofs.late.settle_late_reading.Goals as goal

pub returns : goal.returns
unfolding worked_market worked_book
returns g c =
    let shares = g.R.Apportion.meaning c.args.rule.now in
    let law = g.met.R.Apportion.lawful c.args.rule.now in
    let start = c.in_ok-hour.ensures in
    let first = c.in_ok-_first.ensures.steps in
    let second = c.in_ok-_second.ensures.steps in
    let third = c.in_ok-_third.ensures.steps in
    let traded = start.traded in
    let read : List Lived =
    (void second.slip, Ok tt)
    ∷ (draw shares law c.draw_and_post.new.lines, (Ok second.slip, c.draw_and_void.new.lines))
    ∷ (meter 4 60000, c.meter.result)
    ∷ (post first.slip, Ok tt)
    ∷ (draw shares law c.args.lines.now, (Ok first.slip, c.draw_and_post.new.lines))
    ∷ start.lived in
    let before = c.draw_and_void.new.hour.book in
    let ready : CameBy worked_label traded read before = record {
      market = start.came.market;
      trading = start.came.trading;
      since = (
        second.drawn,
        (
          c.meter.new.self.book,
          (
            c.draw_and_post.new.hour.book,
            (
              first.drawn,
              (c.in_ok-hour.hour.book, start.came.since, first.drawing),
              first.posting,
            ),
            c.meter.ensures,
          ),
          second.drawing,
        ),
        second.voiding,
      );
    } in
    let lived : List Lived =
    (post third.slip, Ok tt)
    ∷ (draw shares law c.draw_and_void.new.lines, (Ok third.slip, c.draw_and_post-2.new.lines))
    ∷ read in
    let came : CameBy worked_label traded lived c.draw_and_post-2.new.hour.book = record {
      market = start.came.market;
      trading = start.came.trading;
      since = (third.drawn, (before, ready.since, third.drawing), third.posting);
    } in
    let last = posted_last worked_label traded read before ready shares law c.draw_and_void.new.lines third.slip _ _ third.drawing (Ok third.slip) (Ok tt) in
    let fits : SFits w64 c.posted_nets.result = record { sfits = c.posted_nets.type_inv } in
    let due = to_z-of_z fits ∙ (c.posted_nets.ensures.law worked_label traded lived came).posted_nets_equal_price_times_imbalance ∙ ap nets_due last in
    let first_market =
    post_keeps _ _ _ c.draw_and_post.new.hour.book first.posting
    ∙ draw_keeps _ _ _ _ first.drawn _ first.drawing
    ∙ ap (λ b. b.market) (came_to worked_label worked_trades worked_calls c.in_ok-hour.hour.book start) in
    let last_market =
    ap (λ b. b.market) (sym (came_agrees worked_label traded read before ready))
    ∙ void_keeps _ _ _ before second.voiding
    ∙ draw_keeps _ _ _ _ second.drawn _ second.drawing
    ∙ ap (λ b. b.market) c.in_ok-meter.ensures.state
    ∙ ap read_late first_market in
    record {
      settled = record {
        traded = traded;
        lived = lived;
        book = c.draw_and_post-2.new.hour.book;
        came = came;
        last = draw_from (ledger_by worked_label traded read) shares law;
        earlier = (ledger_by worked_label traded read).posted;
        posted_last = last;
        due = due;
      };
      figure = due ∙ ap nets_of last_market ∙ late_figure;
    }
