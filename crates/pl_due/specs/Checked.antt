-- What guards the resources that a stage uses, and what it says of the stage at a moment (Microsoft
-- Learn, Azure Pipelines, "Define approvals and checks"; "Pipeline permissions").
use Rattle.std.specs.Prelude.{ℕ, ◌==◌, Bool, true, false, List, [], flat_map, filter}
use Rattle.std.specs.Prelude.{length}
use Rattle.std.specs.List.{list_all, list_any}
use Rattle.std.specs.Option.{option_map_or}
use Rattle.std.specs.Ordering.{is_eq}
use Rattle.pl_base.specs.Files.{text_cmp}
use Rattle.pl_base.specs.declared.resource.ResourceKey.{ResourceKey}
use Rattle.pl_checks.specs.declared.check.Check.{Check}
use Rattle.pl_checks.specs.declared.view.Verdict.{Verdict}
use Rattle.pl_facts.specs.declared.fact.Fact.{Fact}
use Rattle.pl_facts.specs.declared.fact.QueuedRun.{QueuedRun}
use Rattle.pl_judgement.specs.Kinds.{by_kind}
use Rattle.pl_judgement.specs.Said.{AreVerdicts}
use Rattle.pl_plan.specs.declared.plan.PlanStage.{PlanStage}
use Rattle.pl_journal.specs.Settings.{resource}
use Rattle.pl_views.specs.CheckViews.{check_view}

-- ---- resources as they are set now

-- one stage at a time uses it; not so where it was never set
abbrev pub is_exclusive : List Fact → ResourceKey → Bool
is_exclusive facts key = option_map_or (λ told. told.exclusive) (resource key facts) false

abbrev pub exclusive_uses : List Fact → PlanStage → List ResourceKey
exclusive_uses facts one = filter (is_exclusive facts) one.uses

abbrev pub is_among : List (List ℕ) → List ℕ → Bool
is_among names name = list_any (λ one. is_eq (text_cmp one name)) names

-- all pipelines where no list names them; none where the resource was never set
abbrev pub permits : List Fact → List ℕ → ResourceKey → Bool
permits facts pipeline key = option_map_or
    (λ told. option_map_or (λ names. is_among names pipeline) told.pipelines true)
    (resource key facts) false

-- the pipeline may use all that the stage uses
abbrev pub is_permitted : List Fact → QueuedRun → PlanStage → Bool
is_permitted facts told one = list_all (permits facts told.pipeline) one.uses

-- ---- checks

abbrev pub checks_on : List Fact → ResourceKey → List Check
checks_on facts key = option_map_or (λ told. told.checks) (resource key facts) []

-- nothing guards them
abbrev pub are_unguarded : List Fact → List ResourceKey → Bool
are_unguarded facts uses = list_all (λ key. length (checks_on facts key) == 0) uses

-- all checks of what a stage uses: by kind, then by use, then by place
abbrev pub all_checks : List Fact → List ResourceKey → List Check
all_checks facts uses = by_kind (flat_map (checks_on facts) uses)

-- what they say of a stage at a moment, in this order
abbrev pub AreVerdictsOf : List Fact → ℕ → QueuedRun → PlanStage → ℕ → ℕ → List Verdict → Type 0
AreVerdictsOf facts moment told one run stage verdicts = AreVerdicts (all_checks facts one.uses)
    (check_view told one run stage facts) moment verdicts
