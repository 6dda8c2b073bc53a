use Rattle.std.proofs.Common.{rules, ◌<◌, ◌^◌, IfOk}
use Rattle.pl_keeper.specs.Rows.{IsKept}
use Rattle.pl_kept.specs.Kept.{run_record}
use Rattle.pl_spots.proofs.Mapped.{list_mapped}
use Rattle.pl_spots.proofs.QueuedRuns.{ok_both, run_fits, BodyFits}
use Rattle.pl_spots.proofs.runs.told_row.Goals as goal

pub returns-clause-row : goal.returns-clause-row
returns-clause-row c = search (rules, list_mapped, c.written.ensures.row)

pub returns-clause-fits : goal.returns-clause-fits
returns-clause-fits c =
    let key : IfOk c.written.result (λ _. c.args.run < 2 ^ 64) =
    search (rules, c.written.ensures.key_fits) in
    let body : IfOk c.written.result
    (λ _. BodyFits c.args.canceled c.args.moment c.args.queued.now) =
    search (rules, c.written.ensures.body_fits) in
    ok_both c.written.result (c.args.run < 2 ^ 64)
    (BodyFits c.args.canceled c.args.moment c.args.queued.now)
    (IsKept (run_record c.args.run c.args.canceled c.args.moment c.args.queued.now)) key body
    (run_fits c.args.run c.args.canceled c.args.moment c.args.queued.now)
