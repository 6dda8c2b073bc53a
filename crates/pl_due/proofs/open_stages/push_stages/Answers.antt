use Rattle.std.proofs.Common.{sym}
use Rattle.std.proofs.lemmas.List.{append-nil}
use Rattle.pl_due.specs.Open.{runs, waits}
use Rattle.pl_due.proofs.Ranges.{passed}
use Rattle.pl_due.proofs.open_stages.push_stages.Goals as goal

pub loop-stage-init : goal.loop-stage-init
loop-stage-init c = record {
  running = sym (append-nil c.args.running.now);
  waiting = sym (append-nil c.args.waiting.now);
}

pub loop-stage-preserved : goal.loop-stage-preserved
loop-stage-preserved c =
    let facts = c.args.journal.now.facts in
    let stages = c.args.stages.now in
    let run = c.args.run in
    let stage = c.loop-stage.stage in
    record {
      running = passed (runs facts) stages run stage c.args.running.now c.loop-stage.running
          c.push_if.new.places c.is_running.result (sym c.is_running.ensures)
          c.loop-stage.invariant.running c.in_ok-push_if.ensures;
      waiting = passed (waits facts) stages run stage c.args.waiting.now c.loop-stage.waiting
          c.push_if-in-loop-stage.new.places c.waits_at.result (sym c.waits_at.ensures)
          c.loop-stage.invariant.waiting c.in_ok-push_if-2.ensures;
    }
