use Rattle.std.proofs.Common.{lit<, sym, ◌∙◌}
use Rattle.pl_paths.proofs.Cuts.{cut_none, cut_some}
use Rattle.pl_paths.proofs.resolving.merge.Goals as goal

pub returns-in-None : goal.returns-in-None
returns-in-None c =
    rw (sym c.is_absolute.ensures ∙ c.if-is_absolute.false)
    (rw (cut_none 47 c.args.file.now (lit< tt) c.in-None.ensures.cases) c.from_str-in-None.ensures)

pub returns-in-Some : goal.returns-in-Some
returns-in-Some c =
    rw (sym c.is_absolute.ensures ∙ c.if-is_absolute.false)
    (rw (cut_some 47 c.args.file.now _ _ (lit< tt) c.in-Some.ensures.cases) c.behind.ensures)
