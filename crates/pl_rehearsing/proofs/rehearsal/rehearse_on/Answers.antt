use Rattle.std.proofs.Common.{refl}
use Rattle.pl_rehearsing.proofs.Parts.{rehearsed}
use Rattle.pl_rehearsing.specs.Rehearsal.{first_moment}
use Rattle.pl_rehearsing.specs.declared.asking.Asker.{Asker}
use Rattle.pl_rehearsing.proofs.rehearsal.rehearse_on.Goals as goal

pub returns : goal.returns
returns g c =
    let asker : Asker = record { caller = c.args.caller; moment = first_moment } in
    rehearsed g.D.Desk.acts c.args.desk.now asker c.begin.new.desk c.work.new.desk
    c.begin.new.asker c.work.new.asker c.in_ok-jobs.jobs c.args.runs refl c.in_ok-begin.ensures
    c.in_ok-jobs.ensures
