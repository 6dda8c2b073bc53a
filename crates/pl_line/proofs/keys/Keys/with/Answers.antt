use Rattle.pl_line.proofs.keys.Keys.with.Goals as goal

pub numbered_with-requires : goal.numbered_with-requires
numbered_with-requires c = rw c.in-Numbered.is at c.requires
