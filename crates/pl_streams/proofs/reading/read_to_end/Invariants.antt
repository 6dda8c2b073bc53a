use Rattle.std.proofs.Common.{◌≡◌, ◌≤◌, ◌-◌, length}
use Rattle.pl_base.specs.Streams.{with_front}
use Rattle.pl_streams.specs.Whole.{taken_limit}
use Rattle.pl_streams.proofs.reading.read_to_end.Given as goal

abbrev pub invariant-loop-piece : goal.invariant-loop-piece
invariant-loop-piece g l = record {
  within : length l.bytes.items ≤ taken_limit;
  gave : g.S.Source.left l.fn.source ≡ with_front l.bytes.items (g.S.Source.left l.source);
  quiet : g.S.Source.faults l.source ≡ g.S.Source.faults l.fn.source;
}

abbrev pub decreases-loop-piece : goal.decreases-loop-piece
decreases-loop-piece g l = taken_limit - length l.bytes.items
