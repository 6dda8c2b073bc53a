use Rattle.std.proofs.Common.{◌∙◌, ap}
use Rattle.pl_words.specs.Options.{joined_in}
use Rattle.pl_words.specs.Parameters.{given}
use Rattle.pl_words.proofs.Fronts.{one_word}
use Rattle.pl_words.proofs.options.first.Goals as goal

pub returns-in-Some-clause-front : goal.returns-in-Some-clause-front
returns-in-Some-clause-front c =
    one_word c.args.words.now c.word-item.result (given c.in-Some.option)
    c.in-len1-up.len_at_least c.word-item.is
    (c.in-Some.ensures ∙ ap joined_in c.as_str.ensures.value)
