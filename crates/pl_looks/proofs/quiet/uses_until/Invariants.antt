use Rattle.std.proofs.Common.{◌<◌, flat_map, take}
use Rattle.std.specs.Option.{IfSome}
use Rattle.pl_due.specs.Checked.{checks_on}
use Rattle.pl_wakes.specs.Steady.{AreSteady}
use Rattle.pl_looks.proofs.quiet.uses_until.Given as goal

abbrev pub invariant-loop-key : goal.invariant-loop-key
invariant-loop-key l = record {
  later : IfSome l.until (λ until. l.fn.moment < until);
  steady : AreSteady (flat_map (checks_on l.journal.facts) (take l.key-index l.uses)) l.fn.ready
      l.fn.moment l.until;
}
