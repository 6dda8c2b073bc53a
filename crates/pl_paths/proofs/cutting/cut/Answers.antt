use Rattle.std.proofs.Common.{lit<}
use Rattle.pl_paths.proofs.Cuts.{cut_none, cut_some}
use Rattle.pl_paths.proofs.cutting.cut.Goals as goal

pub returns-in-None : goal.returns-in-None
returns-in-None c = rw (cut_none 64 c.args.text.now (lit< tt) c.in-None.ensures.cases)
    c.alone.ensures

pub returns-in-Some : goal.returns-in-Some
returns-in-Some c = rw (cut_some 64 c.args.text.now _ _ (lit< tt) c.in-Some.ensures.cases)
    c.both.ensures
