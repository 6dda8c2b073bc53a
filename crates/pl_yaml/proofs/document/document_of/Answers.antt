use Rattle.std.proofs.Common.{◌≡◌, length, ap, arith}
use Rattle.std.specs.Prelude.{chars}
use Rattle.pl_line.specs.Rows.{without_mark}
use Rattle.pl_yaml.proofs.Laws.Texts.{few_characters}
use Rattle.pl_yaml.proofs.document.document_of.Goals as goal

pub of-requires : goal.of-requires
of-requires c =
    let is : length (chars c.without_mark.result.now) ≡
    length (without_mark (chars c.args.text.now)) =
    ap length c.without_mark.ensures
    in
    omega (arith, is, few_characters c.args.text.now c.utf8.text)
