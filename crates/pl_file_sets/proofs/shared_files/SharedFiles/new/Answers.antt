use Rattle.std.specs.FinMap as finite
use Rattle.pl_file_sets.proofs.Sets.{files_are, none_told}
use Rattle.pl_file_sets.proofs.shared_files.SharedFiles.new.Goals as goal

pub invariant_of-result : goal.invariant_of-result
invariant_of-result c = ((finite.empty, none_told c.new.result c.new.ensures), tt)

pub returns : goal.returns
returns c = files_are _ c.result-1.given.0 finite.empty (none_told c.new.result c.new.ensures)
