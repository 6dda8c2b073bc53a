-- Tests of the jobs of a stage that is asked about, by their places.
use Rattle.std.specs.Prelude.{ℕ, Bool, not, ◌&&◌}
use Rattle.pl_results.specs.declared.members.PlanNode.TheVariants.{Job}
use Rattle.pl_due.specs.declared.stage_at.StageAt.{StageAt}
use Rattle.pl_due.specs.Asked.{facts_of}
use Rattle.pl_due.specs.Nodes.{awaits_agent, condition, is_out_of_time}

abbrev pub is_over : StageAt → ℕ → Bool
is_over at job = is_out_of_time at.moment at.planned.now at.run at.stage job (facts_of at)

abbrev pub awaits : StageAt → ℕ → Bool
awaits at job = awaits_agent at.planned.now at.run at.stage job (facts_of at)

abbrev pub is_passed_over : StageAt → ℕ → Bool
is_passed_over at job =
    awaits at job && not (condition at.queued.now at.run (Job at.stage job) (facts_of at))
