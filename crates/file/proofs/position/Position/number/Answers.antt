use Rattle.std.proofs.Common.{arith}
use Rattle.file.specs.Number.{Longest}
use Rattle.file.proofs.Numbers.{digits_started, one_more_before, digits_longest, number_found}
use Rattle.file.proofs.position.Position.number.Goals as goal
use Rattle.file.proofs.position.Position.number.Goals.{else-loop-digits-test, then-loop-digits-test+in_default}

pub next_value-requires : goal.next_value-requires
next_value-requires c = digits_started _ _ _ _ c.loop-digits.invariant.read

pub loop-digits-preserved : goal.loop-digits-preserved
loop-digits-preserved c =
    one_more_before _ _ _ _ _ _ c.loop-digits.next c.behind-next.result c.rest-byte-items.ensures c.loop-digits.invariant c.loop-digits-test.true c.in-Some.ensures c.behind-next.ensures

pub returns : goal.returns
returns c =
    let i = c.loop-digits.invariant in
    let longest : Longest c.args.self.file.now c.args.self.at c.loop-digits.value c.loop-digits.next.at =
    elim c.loop-digits-test.branch [
      | else-loop-digits-test w ↦ digits_longest _ _ _ _ _ _ c.rest-byte-items.ensures i.read i.at_is (λ inside. absurd (omega arith))
      | then-loop-digits-test+in_default w ↦ digits_longest _ _ _ _ _ _ c.rest-byte-items.ensures i.read i.at_is (λ inside. w.in_default.ensures)
    ] in
    number_found _ _ _ _ c.loop-digits.next _ i longest c.then_some.ensures
