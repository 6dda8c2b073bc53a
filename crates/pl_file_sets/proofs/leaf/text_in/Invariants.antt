use Rattle.std.proofs.Common.{◌≡◌, drop}
use Rattle.pl_file_sets.specs.Tries.{text_in}
use Rattle.pl_file_sets.proofs.leaf.text_in.Given as goal

abbrev pub invariant-loop-file : goal.invariant-loop-file
invariant-loop-file l = text_in l.key l.files ≡ text_in l.key (drop l.file-index l.files)
