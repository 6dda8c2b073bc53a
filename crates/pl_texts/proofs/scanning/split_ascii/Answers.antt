use Rattle.pl_texts.proofs.Bytes.{boundary_behind_ascii}
use Rattle.pl_texts.proofs.scanning.split_ascii.Goals as goal

pub split_at-requires : goal.split_at-requires
split_at-requires c = boundary_behind_ascii _ _ c.utf8.text c.requires.within c.requires.ascii
