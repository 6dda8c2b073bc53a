-- Stages that run on one exclusive resource.
use Rattle.std.specs.Prelude.{Bool, false, ◌&&◌, List, is_none, is_some}
use Rattle.std.specs.List.{list_any}
use Rattle.std.specs.Option.{option_map_or}
use Rattle.std.specs.Ordering.{is_eq}
use Rattle.pl_base.specs.declared.resource.ResourceKey.{ResourceKey}
use Rattle.pl_keeper.specs.declared.records.KeptStage.{KeptStage}
use Rattle.pl_plan.specs.declared.plan.PlanStage.{PlanStage}
use Rattle.pl_torn.specs.Looking.{planned_stage, resource_told}
use Rattle.pl_torn.specs.Seen.{stage_of}
use Rattle.pl_torn.specs.declared.seen.Seen.{Seen}
use Rattle.pl_base.specs.contracts.resource.ResourceKeyOrd.TheImpl as resource

-- started, and not ended
abbrev pub is_running : KeptStage → Bool
is_running told = is_some told.started && is_none told.ended

-- a resource that was never set isn't exclusive
abbrev pub is_exclusive : List Seen → ResourceKey → Bool
is_exclusive all key = option_map_or (λ told. told.exclusive) (resource_told key all) false

abbrev pub is_used : List ResourceKey → ResourceKey → Bool
is_used uses key = list_any (λ other. is_eq ((resource.ghosts).cmp other key)) uses

-- whether both use one that is exclusive
abbrev pub share : List Seen → List ResourceKey → List ResourceKey → Bool
share all uses others = list_any (λ key. is_used others key && is_exclusive all key) uses

-- whether it is the row of a stage that runs and uses one of these with it
abbrev pub is_sharing : List Seen → List ResourceKey → KeptStage → Bool
is_sharing all uses told = is_running told && option_map_or
    (λ planned. share all uses planned.uses) (planned_stage told.run told.position all) false

abbrev pub runs_on : List Seen → List ResourceKey → Seen → Bool
runs_on all uses one = option_map_or (is_sharing all uses) (stage_of one) false

-- it runs, and one in front does on a resource that both use alone
abbrev pub is_held : List Seen → List Seen → PlanStage → KeptStage → Bool
is_held all before planned told = is_running told && list_any (runs_on all planned.uses) before
