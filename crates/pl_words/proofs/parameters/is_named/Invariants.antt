use Rattle.std.proofs.Common.{length}
use Rattle.pl_words.proofs.Fronts.{bytes_of}
use Rattle.pl_words.specs.Words.{arguments_of}
use Rattle.pl_words.proofs.Rests.{Keeps}
use Rattle.pl_words.proofs.parameters.is_named.Given as goal

abbrev pub invariant-loop-name : goal.invariant-loop-name
invariant-loop-name l =
    Keeps l.name (arguments_of (bytes_of l.words)) (arguments_of (bytes_of l.rest))

abbrev pub decreases-loop-name : goal.decreases-loop-name
decreases-loop-name l = length l.rest
