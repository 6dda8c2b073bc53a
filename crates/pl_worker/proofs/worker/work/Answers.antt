use Rattle.std.proofs.Common.{sym, ◌∙◌}
use Rattle.pl_worker.proofs.Sofar.{sofar_more, sofar_none, works_stopped}
use Rattle.pl_worker.proofs.worker.work.Goals as goal

pub loop-init : goal.loop-init
loop-init g c = sofar_none g.D.Desk.acts _ c.requires

pub returns-then-stops : goal.returns-then-stops
returns-then-stops g c =
    let told = rw c.in-Ok-Some.field-0-is at c.in-Ok-Some.ensures in
    works_stopped g.D.Desk.acts _ _ _ _ _ c.serve_one.result c.loop.invariant told.0 told.2
    c.serve_one.ensures (sym c.stops.ensures ∙ c.if-stops.true)

pub loop-preserved : goal.loop-preserved
loop-preserved g c =
    let told = rw c.in-Ok-Some.field-0-is at c.in-Ok-Some.ensures in
    sofar_more g.D.Desk.acts _ _ _ _ _ c.serve_one.result c.loop.invariant told.2
    c.serve_one.ensures (sym c.stops.ensures ∙ c.if-stops.false)
