use Rattle.pl_template.proofs.Closing.{may_cut_behind}
use Rattle.pl_template.proofs.ends.skip_closing.Goals as goal

pub split_at-requires : goal.split_at-requires
split_at-requires c = may_cut_behind _ c.requires c.utf8.text
