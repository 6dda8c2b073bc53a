use Rattle.std.proofs.Common.{◌<◌, ℕ, get_or}
use Rattle.pl_checks.specs.declared.view.StepMark.{StepMark}
use Rattle.pl_checks.specs.Provenance.{IsLiteral}
use Rattle.pl_checks.proofs.provenance.first_unwritten.Given as goal

-- every step before this one is literal
abbrev pub invariant-loop-place : goal.invariant-loop-place
invariant-loop-place l = (k : ℕ) (d : StepMark) → k < l.place →
    IsLiteral l.file (get_or l.steps k d)
