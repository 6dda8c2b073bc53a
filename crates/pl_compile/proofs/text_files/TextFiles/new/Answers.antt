use Rattle.pl_compile.proofs.Reading.{none_yet}
use Rattle.pl_compile.proofs.text_files.TextFiles.new.Goals as goal

pub invariant_of-result : goal.invariant_of-result
invariant_of-result c = none_yet c.args.texts.now c.new.result c.new.ensures
