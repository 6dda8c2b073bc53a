use Rattle.std.proofs.Common.{rules}
use Rattle.pl_line.specs.Lines.{row}
use Rattle.std.specs.Prelude.{string_bytes}
use Rattle.pl_yaml.proofs.Laws.Plain.{word_reads}
use Rattle.pl_yaml.proofs.scalar.word.Goals as goal

pub returns-clause-gives : goal.returns-clause-gives
returns-clause-gives c =
    word_reads c.args.file.now c.args.parent (row c.args.line.now) c.args.len c.args.reader.now
    c.behind_line.new.reader (string_bytes c.push_part.new.text)
    (string_bytes c.behind_line.new.text) c.in_ok-node.node
    c.in_ok-line_end.ensures (search rules) c.in_ok-behind_line.ensures.gives (search rules)
