use Rattle.std.proofs.Common.{◌<◌, ℕ}
use Rattle.std.specs.Option.{IfSome}
use Rattle.pl_looks.specs.Quiet.{PlaceIsQuiet, StaysUntil}
use Rattle.pl_looks.proofs.quiet.queued_until.Given as goal

abbrev pub invariant-loop-stage : goal.invariant-loop-stage
invariant-loop-stage l = record {
  later : IfSome l.until (λ until. l.fn.moment < until);
  quiet : StaysUntil (λ later. (stage : ℕ) → stage < l.stage → PlaceIsQuiet l.journal.facts
      l.fn.moment l.fn.run l.queued stage later) l.fn.moment l.until;
}
