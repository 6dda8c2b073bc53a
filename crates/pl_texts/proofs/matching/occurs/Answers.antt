use Rattle.std.proofs.lemmas.Str.Pattern.{contains_text}
use Rattle.pl_texts.proofs.Contained.{contained}
use Rattle.pl_texts.proofs.matching.occurs.Goals as goal

pub returns : goal.returns
returns c = contained c.contains.result c.args.text.now c.args.sought.now
    (contains_text c.contains.result _ _ c.contains.ensures.cases)
