use Rattle.std.proofs.Common.{◌≡◌, ap, sym, ◌∙◌}
use Rattle.pl_printing.specs.Levels.{is_inline}
use Rattle.pl_printing.specs.Printed.{written_body}
use Rattle.pl_printing.proofs.Nodes.{sequence_inline, mapping_inline, sequence_written}
use Rattle.pl_printing.proofs.Nodes.{mapping_written}
use Rattle.pl_printing.proofs.printing.is_inline.Goals as goal

pub returns-in-Seq : goal.returns-in-Seq
returns-in-Seq c = sequence_inline c.in-Seq.items c.is_empty.result c.is_empty.ensures ∙
    ap is_inline (sym (ap written_body c.in-Seq.is ∙ sequence_written c.in-Seq.items))

pub returns-in-Map : goal.returns-in-Map
returns-in-Map c =
    mapping_inline c.in-Map.pairs c.is_empty-in-Map.result c.is_empty-in-Map.ensures ∙
    ap is_inline (sym (ap written_body c.in-Map.is ∙ mapping_written c.in-Map.pairs))
