use Rattle.cases.proofs.tests.calls.make_all.Goals as goal

pub loop-call-init : goal.loop-call-init
loop-call-init g c = g.met.C.Call.keeps_itself _

pub loop-call-preserved : goal.loop-call-preserved
loop-call-preserved g c = g.met.C.Call.keeps_on _ _ _ c.loop-call.invariant c.made.ensures
