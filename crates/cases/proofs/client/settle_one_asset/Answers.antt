use Rattle.std.proofs.Common.{Ok, List, [], ◌∷◌, ap, ◌∙◌, to_z-of_z, w64, SFits}
use Rattle.ledger.specs.Trade.{LivedTrade, enrol}
use Rattle.ledger.specs.Call.{Lived, meter, draw, post}
use Rattle.ledger.specs.Law.{CameBy, nets_due, ledger_by}
use Rattle.cases.proofs.LastPost.{draw_from, posted_last}
use Rattle.cases.proofs.client.settle_one_asset.Goals as goal

pub returns : goal.returns
returns g c =
    let shares = g.R.Apportion.meaning c.args.rule.now in
    let law = g.met.R.Apportion.lawful c.args.rule.now in
    let run = c.in_ok-_run.ensures.steps in
    let traded : List LivedTrade = (enrol 1 71 1, c.enrol.result) ∷ [] in
    let lived : List Lived =
    (post run.slip, Ok tt)
    ∷ (draw shares law c.args.lines.now, (Ok run.slip, c.draw_and_post.new.lines))
    ∷ (meter 1 c.args.kwh, c.meter.result)
    ∷ [] in
    let came : CameBy c.args.label traded lived c.draw_and_post.new.hour.book = record {
      market = c.enrol.new.self.market;
      trading = (c.new-trading.result.market, c.new-trading.ensures, c.enrol.ensures);
      since = (run.drawn, (c.meter.new.self.book, (c.close-hour.result.book, c.close-hour.ensures.state, c.meter.ensures), run.drawing), run.posting);
    } in
    let fits : SFits w64 c.posted_nets.result = record { sfits = c.posted_nets.type_inv } in
    let before = c.meter.new.self.book in
    let read : List Lived = (meter 1 c.args.kwh, c.meter.result) ∷ [] in
    let ready : CameBy c.args.label traded read before = record {
      market = c.enrol.new.self.market;
      trading = (c.new-trading.result.market, c.new-trading.ensures, c.enrol.ensures);
      since = (c.close-hour.result.book, c.close-hour.ensures.state, c.meter.ensures);
    } in
    let last = posted_last c.args.label traded read before ready shares law c.args.lines.now run.slip _ _ run.drawing (Ok run.slip) (Ok tt) in
    let due = to_z-of_z fits ∙ (c.posted_nets.ensures.law c.args.label traded lived came).posted_nets_equal_price_times_imbalance in
    record {
      settled = record {
        traded = traded;
        lived = lived;
        book = c.draw_and_post.new.hour.book;
        came = came;
        due = due;
      };
      last = record {
        traded = traded;
        lived = lived;
        book = c.draw_and_post.new.hour.book;
        came = came;
        last = draw_from (ledger_by c.args.label traded read) shares law;
        earlier = (ledger_by c.args.label traded read).posted;
        posted_last = last;
        due = due ∙ ap nets_due last;
      };
    }
