use Rattle.std.proofs.Common.{◌≡◌, ◌-◌, vec_len}
use Rattle.pl_wire.specs.Waiting.{Awaits}
use Rattle.pl_sessions.specs.Session.{point}
use Rattle.pl_sessions.proofs.Endings.{Serving}
use Rattle.pl_sessions.proofs.session.serve_by.Given as goal

-- what was served so far
abbrev pub invariant-pieces : goal.invariant-pieces
invariant-pieces g l = record {
  serving : Serving g.D.Desk.acts l.fn.heeds
      (point g.L.Link g.C.Clock l.fn.link l.fn.clock l.fn.desk)
      (point g.L.Link g.C.Clock l.link l.clock l.desk) l.buffer l.taken;
  piece_len : vec_len l.piece ≡ 65536;
  waits : Awaits l.waiting l.buffer;
}

abbrev pub decreases-pieces : goal.decreases-pieces
decreases-pieces g l = 67108864 - l.taken
