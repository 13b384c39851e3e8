use Rattle.cases.proofs.tests.calls.make_all.Given as goal

abbrev pub invariant-loop-call : goal.invariant-loop-call
invariant-loop-call g l = g.C.Call.keeps l.initial.hour l.hour
