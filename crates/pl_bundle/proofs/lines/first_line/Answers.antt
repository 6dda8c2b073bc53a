use Rattle.pl_bundle.proofs.Cutting.{line_all, line_at}
use Rattle.pl_bundle.proofs.lines.first_line.Goals as goal

pub returns-in-Some-clause-lines : goal.returns-in-Some-clause-lines
returns-in-Some-clause-lines c =
    line_at c.args.bytes.now c.in-Some.line.now c.in-Some._rest.now _ _ c.in-Some.ensures
    c.split_at.ensures.front c.split_at.ensures.back

pub returns-in-None-clause-lines : goal.returns-in-None-clause-lines
returns-in-None-clause-lines c =
    line_all c.args.bytes.now _ _ c.requires c.in-None.ensures c.split_at-in-None.ensures.front
    c.split_at-in-None.ensures.back
