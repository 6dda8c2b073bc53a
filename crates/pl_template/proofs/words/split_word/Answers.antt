use Rattle.pl_template.proofs.Blanks.{behind_word_boundary}
use Rattle.pl_template.proofs.words.split_word.Goals as goal

pub split_at-requires : goal.split_at-requires
split_at-requires c =
    behind_word_boundary _ _ c.count_word.ensures.within c.count_word.ensures.value
