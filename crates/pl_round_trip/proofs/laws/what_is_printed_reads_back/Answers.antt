use Rattle.std.proofs.Common.{◌≡◌, ◌≤◌, true, Ok, length, chars, refl, ap, sym, subst, ◌∙◌}
use Rattle.std.specs.Str.{is_utf8}
use Rattle.std.proofs.lemmas.Bool.{le-ltb}
use Rattle.pl_base.specs.declared.place.FileKey.{FileKey}
use Rattle.pl_base.specs.declared.node.Node.{Node}
use Rattle.pl_line.specs.Rows.{rows_of}
use Rattle.pl_printing.specs.Printed.{printed}
use Rattle.pl_yaml.specs.Spells.{document, spells}
use Rattle.pl_round_trip.specs.Trees.{depth, keys_differ, without_places, ReadsAs}
use Rattle.pl_round_trip.proofs.Texts.{decoded, printed_is_text, printed_chars, encoded_decoded}
use Rattle.pl_round_trip.proofs.Rows.{rows_of_printed}
use Rattle.pl_round_trip.proofs.TreeReads.{document_reads}
use Rattle.pl_round_trip.proofs.laws.what_is_printed_reads_back.Goals as goal

-- a text of at most so many bytes spells the node of its rows
spelled :
    (file : FileKey) (node made : Node) → length (printed node) ≤ 262144 →
    is_utf8 (printed node) ≡ true → document file (rows_of (chars (printed node))) ≡ Ok made →
    spells file (printed node) ≡ Ok made
unfolding spells
spelled file node made short text read = rw (
  le-ltb 262144 (length (printed node)) short,
  text,
  read,
) refl

pub returns : goal.returns
returns c = λ shallow differ short.
    let file = c.args.file.now in
    let node = c.args.node.now in
    let texts = c.node_is_text.ensures in
    let back = encoded_decoded node texts in
    let read = document_reads file (decoded node) (subst (λ tree. depth tree ≤ 64) (sym back)
    shallow) (ap keys_differ back ∙ differ) in
    let rows = ap rows_of (printed_chars node texts) ∙ rows_of_printed (decoded node) in
    let is = spelled file node read.0 short (printed_is_text node texts) (ap (document file) rows ∙
    read.1) in
    subst (ReadsAs file node) (sym is) (read.2 ∙ ap (without_places file) back)
