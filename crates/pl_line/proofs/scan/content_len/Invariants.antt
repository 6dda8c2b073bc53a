use Rattle.std.proofs.Common.{◌≡◌, ◌+◌, ◌≤◌, ◌==◌, length, cond}
use Rattle.pl_line.specs.Characters.{all_of}
use Rattle.pl_line.specs.Scanning.{content_len}
use Rattle.pl_line.proofs.scan.content_len.Given as goal

abbrev pub invariant-loop-c : goal.invariant-loop-c
invariant-loop-c l = record {
  value : cond (content_len (all_of l.rest) == 0) l.len (l.at + content_len (all_of l.rest)) ≡
      content_len (all_of l.text);
  within : l.at + length (all_of l.rest) ≡ length (all_of l.text);
  most : l.len ≤ l.at;
}

abbrev pub decreases-loop-c : goal.decreases-loop-c
decreases-loop-c l = length (all_of l.rest)
