use Rattle.std.proofs.Common.{◌<◌, ℕ}
use Rattle.std.specs.Option.{IfSome}
use Rattle.pl_due.specs.Asked.{facts_of}
use Rattle.pl_looks.specs.Quiet.{JobIsQuiet, StaysUntil}
use Rattle.pl_looks.proofs.quiet.jobs_until.Given as goal

abbrev pub invariant-loop-job : goal.invariant-loop-job
invariant-loop-job l = record {
  later : IfSome l.until (λ until. l.at.moment < until);
  quiet : StaysUntil (λ later. (job : ℕ) → job < l.job → JobIsQuiet (facts_of l.at) l.at.moment
      later l.at.planned.now l.at.run l.at.stage job) l.at.moment l.until;
}
