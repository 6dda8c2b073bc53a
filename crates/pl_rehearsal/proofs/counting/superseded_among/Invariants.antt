use Rattle.std.proofs.Common.{◌≡◌, ◌≤◌, take}
use Rattle.pl_rehearsal.specs.Summary.{superseded_among}
use Rattle.pl_rehearsal.proofs.counting.superseded_among.Given as goal

-- those of the facts so far
abbrev pub invariant-loop-fact : goal.invariant-loop-fact
invariant-loop-fact l = record {
  counted : l.count ≡ superseded_among (take l.fact-index l.facts);
  within : l.count ≤ l.fact-index;
}
