use Rattle.std.proofs.Common.{sym}
use Rattle.pl_line.specs.Characters.{all_of}
use Rattle.pl_line.proofs.Laws.Ends.{content_all}
use Rattle.pl_line.proofs.scan.content.Goals as goal

pub returns-else-ends_with_blank : goal.returns-else-ends_with_blank
returns-else-ends_with_blank c =
    content_all (all_of c.args.text) c.as_str-whole.result.now c.args.len
    (all_of c.front-front.result) c.front-front.ensures c.as_str-whole.ensures
    (sym c.if-ends_with_blank.ensures)
