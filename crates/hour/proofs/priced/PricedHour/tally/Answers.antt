use Rattle.std.proofs.Common.{◌≡◌, ◌+◌, ◌≤◌, ◌++◌, length, drop, sym, ap, ◌∙◌, rules}
use Rattle.std.proofs.lemmas.List.{length-take-le}
use Rattle.std.proofs.lemmas.Bool.{cond_above}
use Rattle.prices.specs.Setter.{minutes_set}
use Rattle.hour.specs.Table.{table}
use Rattle.hour.proofs.Tables.{table_all}
use Rattle.hour.proofs.priced.PricedHour.tally.Goals as goal

pub copy_from_slice-requires : goal.copy_from_slice-requires
copy_from_slice-requires c =
    let long : 64 ≤ length c.args.counts.now = search rules in
    let full : length c.tally-tally.result ≡ 64 = search rules in
    length-take-le 64 c.args.counts.now long ∙ sym full

pub returns : goal.returns
returns c =
    let long : 64 ≤ length c.args.counts.now = search rules in
    let full : length c.tally-tally.result ≡ 64 = search rules in
    let counted : c.copy_from_slice.new.self ≡ table (λ place. minutes_set c.args.self.now.book.market.schedule (place + 1)) 64 =
    c.copy_from_slice.ensures.after ∙ table_all _ _ 64 0 full c.tally-tally.ensures in
    record {
      answer = cond_above _ 64 _ _ _ long (search rules);
      left = cond_above _ 64 _ _ _ long (ap (λ xs. xs ++ drop 64 c.args.counts.now) counted);
    }
