use Rattle.std.proofs.Common.{◌≡◌, ◌≤◌, ◌-◌, length, take}
use Rattle.pl_base.specs.Streams.{with_end}
use Rattle.pl_sessions.proofs.serving.write_all.Given as goal

abbrev pub invariant-loop-written : goal.invariant-loop-written
invariant-loop-written g l = record {
  within : l.written ≤ length l.bytes;
  wrote : g.L.Link.held l.link ≡ with_end (g.L.Link.held l.fn.link) (take l.written l.bytes);
  quiet : g.L.Link.write_faults l.link ≡ g.L.Link.write_faults l.fn.link;
  left : g.L.Link.left l.link ≡ g.L.Link.left l.fn.link;
  ended : g.L.Link.ended l.link ≡ g.L.Link.ended l.fn.link;
  read_faults : g.L.Link.read_faults l.link ≡ g.L.Link.read_faults l.fn.link;
}

abbrev pub decreases-loop-written : goal.decreases-loop-written
decreases-loop-written g l = length l.bytes - l.written
