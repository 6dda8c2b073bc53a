use Rattle.std.proofs.Common.{◌≡◌, false, [], length}
use Rattle.pl_sessions.specs.Parts.{Advances}
use Rattle.pl_sessions.specs.Session.{point}
use Rattle.pl_sessions.specs.Told.{told, SameReading}
use Rattle.pl_sessions.proofs.serving.answer_all.Given as goal

-- what was answered so far
abbrev pub invariant-messages : goal.invariant-messages
invariant-messages g l = record {
  answered : Advances g.D.Desk.acts l.fn.heeds false
      (point g.L.Link g.C.Clock l.fn.link l.fn.clock l.fn.desk) l.fn.buffer []
      (point g.L.Link g.C.Clock l.link l.clock l.desk) l.buffer;
  quiet : g.L.Link.write_faults l.link ≡ g.L.Link.write_faults l.fn.link;
  reading : SameReading (told g.L.Link l.fn.link) (told g.L.Link l.link);
}

abbrev pub decreases-messages : goal.decreases-messages
decreases-messages g l = length l.buffer
