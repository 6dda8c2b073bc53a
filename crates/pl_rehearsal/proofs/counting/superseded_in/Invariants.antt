use Rattle.std.proofs.Common.{◌≡◌, take}
use Rattle.pl_alone.specs.Below.pl_history.specs.History.{facts_of}
use Rattle.pl_rehearsal.specs.Summary.{superseded_among}
use Rattle.pl_rehearsal.proofs.counting.superseded_in.Given as goal

-- those of the entries so far
abbrev pub invariant-loop-entry : goal.invariant-loop-entry
invariant-loop-entry l = l.count ≡ superseded_among (facts_of (take l.entry-index l.entries))
