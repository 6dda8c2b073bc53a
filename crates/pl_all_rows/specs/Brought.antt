-- The places at which facts can bring a row to be.
use Rattle.std.specs.Prelude.{ℕ, List, [], ◌∷◌, slice_get}
use Rattle.std.specs.List.{flat_map}
use Rattle.std.specs.Option.{option_map_or}
use Rattle.pl_facts.specs.declared.fact.Event.{Event}
use Rattle.pl_facts.specs.declared.fact.Event.TheVariants as event
use Rattle.pl_facts.specs.declared.fact.Fact.{Fact}
use Rattle.pl_kept.specs.Kept.{Where, File, Pipeline, Resource, Principal, Agent, Run, Decision}
use Rattle.pl_touched.specs.Touched.{stage_places}

-- what becomes of a run, a stage or a job changes rows that the queued run brought
abbrev pub brought : Event → List Where
brought (event.FilePut file) = File file.key ∷ []
brought (event.PipelineSet told) = Pipeline told.name ∷ []
brought (event.ResourceSet told) = Resource told.key ∷ []
brought (event.PrincipalSet told) = Principal told.name ∷ []
brought (event.AgentSet told) = Agent told.name ∷ []
brought (event.RunQueued told) =
    Run told.run ∷ stage_places told.run 0 told.compiled.plan.stages
brought (event.DecisionMade run stage approver approve) = Decision run stage approver ∷ []
brought _ = []

abbrev pub brought_by : List Fact → List Where
brought_by facts = flat_map (λ fact. brought fact.event) facts

-- those of the fact at a place, if there is one
abbrev pub brought_at : ℕ → List Fact → List Where
brought_at at facts = option_map_or (λ fact. brought fact.event) (slice_get facts at) []
