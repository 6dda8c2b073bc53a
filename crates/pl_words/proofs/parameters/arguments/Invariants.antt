use Rattle.std.proofs.Common.{length}
use Rattle.pl_words.proofs.Fronts.{bytes_of}
use Rattle.pl_words.specs.Words.{arguments_of}
use Rattle.pl_words.proofs.Rests.{Gathers}
use Rattle.pl_words.proofs.parameters.arguments.Given as goal

abbrev pub invariant-loop-rest : goal.invariant-loop-rest
invariant-loop-rest l =
    Gathers (arguments_of (bytes_of l.words)) l.arguments (arguments_of (bytes_of l.rest))

abbrev pub decreases-loop-rest : goal.decreases-loop-rest
decreases-loop-rest l = length l.rest
