use Rattle.pl_rehearsing.proofs.Parts.{begins_once}
use Rattle.pl_rehearsing.proofs.rehearsal.set_pool.Goals as goal

pub returns : goal.returns
returns g c =
    begins_once g.D.Desk.acts c.args.desk.now c.args.asker.now c.args.desk.now c.ask.new.desk
    c.args.asker.now c.ask.new.self c.in_ok-request.request c.in_ok-ask.field-0
    c.in_ok-request.ensures.request c.in_ok-ask.ensures
