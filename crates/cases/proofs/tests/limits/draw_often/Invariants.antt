use Rattle.std.proofs.Common.{◌≡◌, ◌+◌}
use Rattle.cases.proofs.tests.limits.draw_often.Given as goal

abbrev pub invariant-loop-time : goal.invariant-loop-time
invariant-loop-time l = l.hour.book.draws ≡ l.initial.hour.book.draws + l._time
