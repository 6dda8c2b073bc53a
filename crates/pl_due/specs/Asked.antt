-- A stage that is asked about.
use Rattle.std.specs.Prelude.{ℕ, ◌≤◌, List}
use Rattle.pl_facts.specs.declared.fact.Event.{Event}
use Rattle.pl_facts.specs.declared.fact.Fact.{Fact}
use Rattle.pl_judgement.specs.Said.{IsJudgement}
use Rattle.pl_judgement.specs.declared.judgement.Judgement.{Judgement}
use Rattle.pl_views.specs.CheckViews.{check_view}
use Rattle.pl_due.specs.declared.stage_at.StageAt.{StageAt}
use Rattle.pl_due.specs.Checked.{all_checks}
use Rattle.pl_due.specs.Contention.{InRun}
use Rattle.pl_due.specs.Fit.{AreFit, last_moment}
use Rattle.pl_due.specs.Least.{InStage}
use Rattle.pl_due.specs.Nodes.{IsStageOf}

abbrev pub facts_of : StageAt → List Fact
facts_of at = at.journal.now.facts

-- the journal's facts are fit, the moment is one that clocks tell, and the stage is there
pub record IsAsked (at : StageAt) : Type 0 where
  pub moment : at.moment ≤ last_moment
  pub fit : AreFit (facts_of at)
  pub there : IsStageOf (facts_of at) at.run at.stage at.queued.now at.planned.now

-- what is kept of what all checks say of it
abbrev pub IsJudged : StageAt → Judgement → Type 0
IsJudged at judgement = IsJudgement (all_checks (facts_of at) at.planned.now.uses)
    (check_view at.queued.now at.planned.now at.run at.stage (facts_of at)) at.moment judgement

-- what is due in it
abbrev pub in_it : InStage → StageAt → ℕ → Event → Type 0
in_it kind at job event = kind at.queued.now at.planned.now at.run at.stage job event

-- what holds of it
abbrev pub of_it : InRun → StageAt → Type 0
of_it P at = P at.queued.now at.planned.now at.run at.stage
