use Rattle.std.proofs.Common.{length}
use Rattle.pl_words.specs.Options.{options_of, value_of}
use Rattle.pl_words.proofs.Fronts.{Keeps, bytes_of}
use Rattle.pl_words.proofs.options.value_of.Given as goal

abbrev pub invariant-loop-name : goal.invariant-loop-name
invariant-loop-name l =
    Keeps (value_of l.name) (options_of (bytes_of l.words)) (options_of (bytes_of l.rest))

abbrev pub decreases-loop-name : goal.decreases-loop-name
decreases-loop-name l = length l.rest
