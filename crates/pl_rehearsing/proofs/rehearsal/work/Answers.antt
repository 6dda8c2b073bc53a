use Rattle.std.proofs.Common.{arith}
use Rattle.pl_rehearsing.proofs.Parts.{works_last, works_more, works_none}
use Rattle.pl_rehearsing.proofs.rehearsal.work.Goals as goal

pub loop-jobs-init : goal.loop-jobs-init
loop-jobs-init g c = works_none g.D.Desk.acts c.args.desk.now c.args.asker.now

pub loop-jobs-preserved : goal.loop-jobs-preserved
loop-jobs-preserved g c =
    works_more g.D.Desk.acts c.args.desk.now c.args.asker.now c.loop-jobs.jobs
    c.in_ok-drawn.drawn c.loop-jobs.desk c.ask.new.desk c.report.new.desk c.loop-jobs.asker
    c.ask.new.self c.report.new.asker c.loop-jobs.invariant c.in_ok-drawn.ensures
    c.in_ok-report.ensures

pub returns-then-drawn-eq204 : goal.returns-then-drawn-eq204
returns-then-drawn-eq204 g c =
    works_last g.D.Desk.acts c.args.desk.now c.args.asker.now c.loop-jobs.desk c.ask.new.desk
    c.loop-jobs.asker c.ask.new.self c.loop-jobs.jobs c.in_ok-drawn.drawn
    (omega (arith, c.if-drawn-eq204.true)) c.loop-jobs.invariant c.in_ok-drawn.ensures
