-- Approvals (Microsoft Learn, Azure Pipelines, "Define approvals and checks", Approvals).
use Rattle.std.specs.Prelude.{◌≡◌, ℕ, ◌+◌, ◌*◌, ◌<◌, ◌≤◌, ◌⊎◌, nat_eq, Bool, true, false, not}
use Rattle.std.specs.Prelude.{◌||◌, ◌&&◌, List, All, count_by, if◌then◌else◌}
use Rattle.std.specs.List.{list_any}
use Rattle.std.specs.Cmp.Lexicographic.{pointwise}
use Rattle.std.specs.Set.{unique_keys}
use Rattle.pl_rules.specs.declared.rule.Rule.TheVariants as rules
use Rattle.pl_checks.specs.declared.check.Approval.{Approval}
use Rattle.pl_checks.specs.declared.view.CheckView.{CheckView}
use Rattle.pl_checks.specs.declared.view.Verdict.{Verdict}
use Rattle.pl_checks.specs.declared.view.Verdict.TheVariants.{Pass, Wait, Fail}
use Rattle.pl_base.specs.Firsts.{IsFirst}

-- whether two names are one
abbrev pub same_name : List ℕ → List ℕ → Bool
same_name = pointwise nat_eq

-- whether a decision was made by this name
abbrev pub has_decided : CheckView → List ℕ → Bool → Bool
has_decided view name approve = list_any (λ decision. same_name decision.0 name && (if approve
    then decision.1 else not decision.1)) view.decisions

-- whether a listed approver counts: the one who queued the run does only where the check says so
abbrev pub counts : Approval → CheckView → List ℕ → Bool
counts check view name = check.requester || not (same_name name view.requester)

abbrev pub has_approved : Approval → CheckView → List ℕ → Bool
has_approved check view name = counts check view name && has_decided view name true

abbrev pub has_rejected : Approval → CheckView → List ℕ → Bool
has_rejected check view name = counts check view name && has_decided view name false

-- how many have approved of those who are listed and count, each name once
abbrev pub approvals : Approval → CheckView → ℕ
approvals check view = count_by (has_approved check view) (unique_keys same_name check.approvers)

-- nobody who is listed and counts has rejected
abbrev pub IsUnrejected : Approval → CheckView → Type 0
IsUnrejected check view = All (λ name. has_rejected check view name ≡ false) check.approvers

-- the moment at which a check that was ready then has waited long enough
abbrev pub deadline : ℕ → ℕ → ℕ
deadline ready minutes = ready + 60 * minutes

-- Pass: as many distinct listed approvers as are needed have approved, and none has rejected. Wait:
-- too few have, and there is time. Fail: the rule tells the first listed one who counts and has
-- rejected, or, where none has, too few have approved and the time is over.
abbrev pub IsApprovalVerdict : Approval → CheckView → ℕ → Verdict → Type 0
IsApprovalVerdict check view moment Pass = IsUnrejected check view
    × (check.least ≤ approvals check view)
IsApprovalVerdict check view moment (Wait rule) =
    (rule ≡ rules.ApprovalOpen (approvals check view) check.least) × IsUnrejected check view
    × (approvals check view < check.least) × (moment < deadline view.ready check.minutes)
IsApprovalVerdict check view moment (Fail rule) =
    ((name : List ℕ) × (rule ≡ rules.ApprovalRejected name)
    × IsFirst (λ n. has_rejected check view n ≡ true) check.approvers name)
    ⊎ ((rule ≡ rules.ApprovalTimeout) × IsUnrejected check view
    × (approvals check view < check.least) × (deadline view.ready check.minutes ≤ moment))
