-- What a rehearsal comes to, counted from its replies and its facts.
use Rattle.std.specs.Prelude.{◌≡◌, ◌++◌, ℕ, Bool, true, false, List, [], Option, Some, length}
use Rattle.std.specs.Prelude.{codes, decimal}
use Rattle.std.specs.List.{count_by}
use Rattle.pl_alone.specs.Below.pl_history.specs.History.{facts_of, opened}
use Rattle.pl_alone.specs.Desk.{Act, Parts}
use Rattle.pl_base.specs.declared.digest.Digest.{Digest}
use Rattle.pl_facts.specs.declared.fact.Event.{Event}
use Rattle.pl_facts.specs.declared.fact.Event.TheVariants.{StageEnded}
use Rattle.pl_facts.specs.declared.fact.Fact.{Fact}
use Rattle.pl_rehearsal.specs.declared.summary.Summary.{Summary}
use Rattle.pl_rehearsing.specs.Rehearsal.{Rehearsal}
use Rattle.pl_rules.specs.declared.rule.Rule.{Rule}
use Rattle.pl_rules.specs.declared.rule.Rule.TheVariants.{LockSuperseded}

-- ---- stages that gave way to later runs

abbrev pub is_lock_superseded : Option Rule → Bool
is_lock_superseded (Some (LockSuperseded run)) = true
is_lock_superseded other = false

abbrev pub ends_superseded : Event → Bool
ends_superseded (StageEnded run stage outcome rule) = is_lock_superseded rule
ends_superseded other = false

abbrev pub superseded_among : List Fact → ℕ
superseded_among facts = count_by (λ fact. ends_superseded fact.event) facts

-- ---- the summary

-- a service that was just opened, over a keeper that has no row and hasn't failed
abbrev pub start : Digest → Parts
start admin = record { opening = opened admin; seen = []; rows = Some []; faults = 0 }

-- a rehearsal of so many runs on a service that was just opened: how many jobs were reported, and
-- how many stages gave way
pub record IsSummary (admin : Digest) (runs : ℕ) (summary : Summary) : Type 0 where
  pub desk : Parts
  pub rehearsal : Rehearsal Act admin runs (start admin) desk
  pub runs_are : summary.runs ≡ runs
  pub jobs_are : summary.jobs ≡ length rehearsal.worked
  pub superseded_are : summary.superseded ≡ superseded_among (facts_of desk.seen)

abbrev pub line_of : Summary → List ℕ
line_of summary = codes "runs " ++ decimal summary.runs ++ codes " jobs " ++ decimal summary.jobs
    ++ codes " superseded " ++ decimal summary.superseded ++ codes "\n"
