use Rattle.pl_texts.proofs.Bytes.{boundary_before_brace}
use Rattle.pl_texts.proofs.scanning.split_plain.Goals as goal

pub split_at-requires : goal.split_at-requires
split_at-requires c = boundary_before_brace _ _ c.count_plain.ensures.value
