use Rattle.std.proofs.Common.{[], rules}
use Rattle.hourbill.specs.Line.{none}
use Rattle.hourbill.proofs.Lines.{read_more}
use Rattle.hourbill.proofs.reader.read_hour.Goals as goal

pub loop-place-init : goal.loop-place-init
loop-place-init c = ([], search rules, none _)

pub loop-place-preserved : goal.loop-place-preserved
loop-place-preserved c =
    let so_far = c.loop-place.invariant in
    read_more _ _ _ _ _ _ _ _ _ so_far.1 c.in-Some.ensures.steps.0.1.0 so_far.2 c.in_default.ensures
