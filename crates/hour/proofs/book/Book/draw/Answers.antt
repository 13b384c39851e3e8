use Rattle.std.proofs.Common.{◌≡◌, ◌≤◌, false, ◌++◌, length, drop, is_some, None, Ok, sym, refl, ap, ◌∙◌, subst, arith}
use Rattle.std.proofs.lemmas.Result.{err_from_is_err_and}
use Rattle.std.proofs.lemmas.Bool.{le-leb, lt-leb}
use Rattle.hour.specs.Listing.{listing}
use Rattle.hour.specs.Amounts.{amounts_answer}
use Rattle.hour.specs.Line.{lines_of, first_beyond}
use Rattle.hour.specs.Run.{price_of, first_unread, drawn_lines}
use Rattle.hour.proofs.Limits.{pool_limit}
use Rattle.hour.proofs.Outcomes.{passed}
use Rattle.hour.proofs.Drawings.{all_lines, amounts_given, refused_by_rule, refused_draws, refused_net, accepted_draw}
use Rattle.hour.proofs.book.Book.draw.Goals as goal

pub invariant_of-valuation : goal.invariant_of-valuation
invariant_of-valuation g c = record {
  price_limit = subst (λ n. n ≤ 100000) (sym c.pool_price-price.ensures.value) (pool_limit c.args.self.now.market.schedule c.requires.ranged.0);
  ranged = c.requires.ranged;
  listed = c.as_slice.ensures.value ∙ c.list_participants-participants.ensures;
}

pub returns-in_err-amounts : goal.returns-in_err-amounts
returns-in_err-amounts g c =
    let b = c.args.self.now in
    let shares = g.R.Apportion.meaning c.args.rule.now in
    let none_out : is_some b.out ≡ false = passed _ _ _ _ c.in_ok-check_none_out.ensures in
    let room : length (listing b.market) ≤ length c.args.lines.now = omega (arith, ap length c.list_participants-participants.ensures, c.len-count.ensures.value, c.if-lines-count.false) in
    let read : first_unread b.market ≡ None = sym c.unread_asset.ensures ∙ c.in_default.is in
    let p = err_from_is_err_and c.from_residual-in_err-amounts.result c.from_residual-in_err-amounts.ensures.1 in
    let said = c.in_err-amounts.ensures.value ∙ ap (λ n. amounts_answer shares n b) c.pool_price-price.ensures.value in
    let done = refused_by_rule shares b c.args.lines.now none_out room read _ said in
    rw (p.1, p.2) (record { drawing = done; within = tt })

pub returns-then-self-ge-MOST_DRAWS : goal.returns-then-self-ge-MOST_DRAWS
returns-then-self-ge-MOST_DRAWS g c =
    let b = c.args.self.now in
    let shares = g.R.Apportion.meaning c.args.rule.now in
    let none_out : is_some b.out ≡ false = passed _ _ _ _ c.in_ok-check_none_out.ensures in
    let room : length (listing b.market) ≤ length c.args.lines.now = omega (arith, ap length c.list_participants-participants.ensures, c.len-count.ensures.value, c.if-lines-count.false) in
    let read : first_unread b.market ≡ None = sym c.unread_asset.ensures ∙ c.in_default.is in
    let said = c.in_ok-amounts.ensures.value ∙ ap (λ n. amounts_answer shares n b) c.pool_price-price.ensures.value in
    let done = refused_draws shares b c.args.lines.now none_out room read c.in_ok-amounts.amounts said (le-leb 1000000 _ c.if-self-ge-MOST_DRAWS.true) in
    record { drawing = done; within = tt }

pub returns-in-Some-beyond_limit : goal.returns-in-Some-beyond_limit
returns-in-Some-beyond_limit g c =
    let b = c.args.self.now in
    let shares = g.R.Apportion.meaning c.args.rule.now in
    let none_out : is_some b.out ≡ false = passed _ _ _ _ c.in_ok-check_none_out.ensures in
    let room : length (listing b.market) ≤ length c.args.lines.now = omega (arith, ap length c.list_participants-participants.ensures, c.len-count.ensures.value, c.if-lines-count.false) in
    let read : first_unread b.market ≡ None = sym c.unread_asset.ensures ∙ c.in_default.is in
    let said = c.in_ok-amounts.ensures.value ∙ ap (λ n. amounts_answer shares n b) c.pool_price-price.ensures.value in
    let given = amounts_given shares (price_of b) b c.in_ok-amounts.amounts said in
    let lines : c.lines-drawn.result.items ≡ drawn_lines shares b =
    c.lines-drawn.ensures ∙ all_lines c.in_ok-amounts.amounts b.posted b.market c.list_participants-participants.result.items c.list_participants-participants.ensures ∙ ap (λ xs. lines_of xs b.posted b.market) given in
    let part : c.as_slice-2.result.now ≡ drawn_lines shares b = c.as_slice-2.ensures.value ∙ lines in
    let spare = lt-leb 1000000 b.draws c.if-self-ge-MOST_DRAWS.false in
    let done = refused_net shares b c.args.lines.now none_out room read c.in_ok-amounts.amounts said c.in-Some-beyond_limit.participant spare (c.in-Some-beyond_limit.ensures ∙ ap first_beyond part) in
    record { drawing = done; within = tt }

pub returns : goal.returns
returns g c =
    let b = c.args.self.now in
    let shares = g.R.Apportion.meaning c.args.rule.now in
    let none_out : is_some b.out ≡ false = passed _ _ _ _ c.in_ok-check_none_out.ensures in
    let room : length (listing b.market) ≤ length c.args.lines.now = omega (arith, ap length c.list_participants-participants.ensures, c.len-count.ensures.value, c.if-lines-count.false) in
    let read : first_unread b.market ≡ None = sym c.unread_asset.ensures ∙ c.in_default.is in
    let said = c.in_ok-amounts.ensures.value ∙ ap (λ n. amounts_answer shares n b) c.pool_price-price.ensures.value in
    let given = amounts_given shares (price_of b) b c.in_ok-amounts.amounts said in
    let lines : c.lines-drawn.result.items ≡ drawn_lines shares b =
    c.lines-drawn.ensures ∙ all_lines c.in_ok-amounts.amounts b.posted b.market c.list_participants-participants.result.items c.list_participants-participants.ensures ∙ ap (λ xs. lines_of xs b.posted b.market) given in
    let part : c.as_slice-2.result.now ≡ drawn_lines shares b = c.as_slice-2.ensures.value ∙ lines in
    let spare = lt-leb 1000000 b.draws c.if-self-ge-MOST_DRAWS.false in
    let fine : None ≡ first_beyond (drawn_lines shares b) = c.in_default-beyond_limit.ensures ∙ ap first_beyond part in
    let count : c.len-count.result ≡ length (listing b.market) = c.len-count.ensures.value ∙ ap length c.list_participants-participants.ensures in
    let written : c.copy_from_slice.new.self ++ drop c.len-count.result c.args.lines.now ≡ drawn_lines shares b ++ drop (length (listing b.market)) c.args.lines.now =
    ap (λ xs. xs ++ drop c.len-count.result c.args.lines.now) (c.copy_from_slice.ensures.after ∙ c.as_slice-3.ensures.value ∙ lines)
    ∙ ap (λ n. drawn_lines shares b ++ drop n c.args.lines.now) count in
    let done = accepted_draw shares b c.args.lines.now none_out room read c.in_ok-amounts.amounts said (drawn_lines shares b ++ drop (length (listing b.market)) c.args.lines.now) spare fine refl in
    record {
      drawing = record { answer = ap Ok c.new.ensures ∙ done.answer; state = done.state; writes = written };
      within = c.in_ok-amounts.ensures.bound;
    }
