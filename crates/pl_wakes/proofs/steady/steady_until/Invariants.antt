use Rattle.std.proofs.Common.{◌<◌, take}
use Rattle.std.specs.Option.{IfSome}
use Rattle.pl_wakes.specs.Steady.{AreSteady}
use Rattle.pl_wakes.proofs.steady.steady_until.Given as goal

abbrev pub invariant-loop-check : goal.invariant-loop-check
invariant-loop-check l = record {
  later : IfSome l.until (λ until. l.fn.moment < until);
  steady : AreSteady (take l.check-index l.checks) l.fn.ready l.fn.moment l.until;
}
