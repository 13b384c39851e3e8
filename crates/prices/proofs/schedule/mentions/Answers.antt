use Rattle.std.proofs.Common.{◌≡◌, length, get_or, None, cond, ap, ◌∙◌, sym, rules}
use Rattle.std.specs.List.{count_by}
use Rattle.prices.specs.Range.{count}
use Rattle.prices.specs.Setter.{is_number}
use Rattle.prices.proofs.Ranges.{total_of_list}
use Rattle.prices.proofs.schedule.mentions.Goals as goal

pub returns : goal.returns
returns c =
    let counted : c.count.result ≡ count_by (λ name. is_number name c.args.number) c.args.names.now = search rules in
    let long : length c.args.names.now ≡ 60 = search rules in
    counted
    ∙ sym (total_of_list (λ name. cond (is_number name c.args.number) 1 0) c.args.names.now None)
    ∙ ap (count (λ k. is_number (get_or c.args.names.now k None) c.args.number)) long
