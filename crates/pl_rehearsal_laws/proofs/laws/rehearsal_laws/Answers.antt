use Rattle.pl_rehearsal_laws.proofs.Alike.{one_summary}
use Rattle.pl_rehearsal_laws.proofs.laws.rehearsal_laws.Goals as goal

pub returns : goal.returns
returns c = record { one = one_summary c.reply_laws.ensures.act }
