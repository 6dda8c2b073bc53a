use Rattle.std.proofs.Common.{◌≡◌, ◌+◌, ◌≤◌, drop, count_by}
use Rattle.std.specs.Set.{unique_keys}
use Rattle.pl_checks.specs.Approvals.{has_approved, same_name}
use Rattle.pl_checks.proofs.approval.approvals.Given as goal

-- the approvals so far and those to come are all
abbrev pub invariant-loop-place : goal.invariant-loop-place
invariant-loop-place l = record {
  all : l.count + count_by (has_approved l.check l.view) (unique_keys same_name (drop l.place
      l.approvers)) ≡ count_by (has_approved l.check l.view) (unique_keys same_name l.approvers);
  few : l.count ≤ l.place;
}
