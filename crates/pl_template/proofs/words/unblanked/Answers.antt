use Rattle.pl_template.proofs.Blanks.{behind_blanks}
use Rattle.pl_template.proofs.words.unblanked.Goals as goal

pub split_at-requires : goal.split_at-requires
split_at-requires c =
    behind_blanks _ _ c.utf8.text c.count_blanks.ensures.within c.count_blanks.ensures.value
