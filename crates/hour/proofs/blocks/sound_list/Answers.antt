use Rattle.std.proofs.Common.{◌≡◌, Bool, true, false, cond, ◌&&◌, leb, length, Some, None, sym, refl, ap, ◌∙◌, rules, tests}
use Rattle.std.specs.Bool.{then_some}
use Rattle.std.specs.List.{list_all}
use Rattle.std.proofs.lemmas.Bool.{both_ways}
use Rattle.std.proofs.lemmas.Option.{cond_some}
use Rattle.std.proofs.lemmas.Iterator.{YieldsList-from_slice}
use Rattle.std.proofs.lemmas.Iterator.Search.{all_from_yields_List}
use Rattle.prices.specs.Block.{ahead, block_list}
use Rattle.margins.specs.Order.{ordered_for}
use Rattle.hour.specs.Blocks.{fair_block, sound_blocks}
use Rattle.hour.proofs.Soundness.{sound_of_listed, unlisted}
use Rattle.hour.proofs.blocks.sound_list.Goals as goal
use Rattle.hour.proofs.blocks.sound_list.Goals.{then-all, else-all, then-total_size-le-MOST_TOGETHER, else-total_size-le-MOST_TOGETHER}

-- a test that goes on, and one that stops
goes_on : (test rest answer : Bool) → test ≡ true → answer ≡ rest → answer ≡ (test && rest)
goes_on true rest answer e same = same
goes_on false rest answer e same = absurd (both_ways _ refl e)

stops : (test rest answer : Bool) → test ≡ false → answer ≡ test → answer ≡ (test && rest)
stops true rest answer e same = absurd (both_ways _ e refl)
stops false rest answer e same = same

then_is : {A : Type 0} (test : Bool) (x : A) → then_some test x ≡ cond test (Some x) None
then_is true x = refl
then_is false x = refl

pub returns-in_err-list-clause-value : goal.returns-in_err-list-clause-value
returns-in_err-list-clause-value c = search (rules, unlisted)

pub returns-clause-value : goal.returns-clause-value
returns-clause-value c =
    let blocks = c.args.blocks.now in
    let fair : c.all.result ≡ list_all fair_block blocks = all_from_yields_List fair_block _ _ c.all.result c.all.ensures.ran (YieldsList-from_slice blocks cc) (λ x b q k. search (rules, tests)) in
    let small = leb (ahead blocks (length blocks)) 1000 in
    let held = cond_some _ (block_list blocks) c.in_ok-list.list (sym c.in_ok-list.ensures.value) in
    let so_far : c.if-all.value ≡ (c.all.result && small) =
    elim c.if-all.branch [
      | then-all v ↦ goes_on _ small _ v.if-all.true (v.value-is ∙ ap (λ n. leb n 1000) (v.total_size.ensures.value ∙ ap (λ xs. ahead xs (length xs)) c.in_ok-list.ensures.words))
      | else-all v ↦ stops _ small _ v.if-all.false v.value-is
    ] in
    let sound : c.if-total_size-le-MOST_TOGETHER.is_sound ≡ (c.if-all.value && ordered_for c.args.kind blocks) =
    elim c.if-total_size-le-MOST_TOGETHER.branch [
      | then-total_size-le-MOST_TOGETHER w ↦ goes_on _ (ordered_for c.args.kind blocks) _ w.if-total_size-le-MOST_TOGETHER.true (w.is_sound-is ∙ w.blocks_in_order-is_sound.ensures.value)
      | else-total_size-le-MOST_TOGETHER w ↦ stops _ (ordered_for c.args.kind blocks) _ w.if-total_size-le-MOST_TOGETHER.false w.is_sound-is
    ] in
    c.then_some.ensures
    ∙ ap (λ t. then_some t c.in_ok-list.list) (sound ∙ ap (λ t. t && ordered_for c.args.kind blocks) (so_far ∙ ap (λ t. t && small) fair) ∙ sym (sound_of_listed c.args.kind blocks held.0))
    ∙ ap (then_some (sound_blocks c.args.kind blocks)) (sym held.1)
    ∙ then_is (sound_blocks c.args.kind blocks) (block_list blocks)
