use Rattle.pl_literal.proofs.Texts.{spelled}
use Rattle.pl_literal.proofs.booleans.spells.Goals as goal

pub returns : goal.returns
returns c = spelled c.args.text.now c.args.word.now c.eq_ignore_ascii_case.result
    c.eq_ignore_ascii_case.ensures.test
