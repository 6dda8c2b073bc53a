use Rattle.std.proofs.Common.{◌<◌, ℕ, get_or}
use Rattle.pl_base.specs.declared.repo_ref.RepoRef.{RepoRef}
use Rattle.pl_checks.specs.Branches.{IsAllowed}
use Rattle.pl_checks.proofs.branch.first_refused.Given as goal

-- every ref before this one is allowed
abbrev pub invariant-loop-place : goal.invariant-loop-place
invariant-loop-place l = (k : ℕ) (d : RepoRef) → k < l.place →
    IsAllowed l.check (get_or l.linked k d)
