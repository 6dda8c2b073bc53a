use Rattle.std.proofs.Common.{refl}
use Rattle.pl_rehearsing.proofs.Behind.{asks_one}
use Rattle.pl_rehearsing.proofs.asking.Asker.ask.Goals as goal

pub returns-in-Reply : goal.returns-in-Reply
returns-in-Reply g c =
    asks_one g.D.Desk.acts c.args.desk.now c.act.new.self c.args.self.now _ c.args.request
    c.in-Reply.reply c.in-Reply.ensures refl
