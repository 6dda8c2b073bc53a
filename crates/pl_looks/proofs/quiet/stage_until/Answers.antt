use Rattle.std.proofs.Common.{◌<◌, subst, sym}
use Rattle.std.specs.Option.{IfSome}
use Rattle.pl_wakes.proofs.Staying.{before_first, before_second, later_both}
use Rattle.pl_wakes.specs.Steady.{IsBefore}
use Rattle.pl_looks.proofs.quiet.stage_until.Goals as goal

pub returns-clause-later : goal.returns-clause-later
returns-clause-later c =
    let moment = c.args.at.now.moment in
    subst (λ both. IfSome both (λ until. moment < until)) (sym c.sooner.ensures)
    (later_both moment c.running_until.result c.waiting_until.result c.running_until.ensures.later
    c.waiting_until.ensures.later)

pub returns-clause-quiet : goal.returns-clause-quiet
returns-clause-quiet c = λ later behind before.
    let soon = subst (IsBefore later) c.sooner.ensures before in
    record {
      jobs = c.running_until.ensures.quiet later behind
          (before_first later c.running_until.result c.waiting_until.result soon);
      checks = c.waiting_until.ensures.quiet later behind
          (before_second later c.running_until.result c.waiting_until.result soon);
    }
