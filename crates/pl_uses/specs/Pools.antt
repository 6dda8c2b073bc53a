-- Where a job runs, and what it asks of an agent there (Microsoft Learn, "YAML schema reference",
-- pool; pool.demands; "Demands").
use Rattle.std.specs.Prelude.{ℕ, List, [], ◌∷◌, ◌++◌, drop, length, map, nat_eq, codes, Option}
use Rattle.std.specs.Prelude.{Some, None, unwrap_or, if◌then◌else◌}
use Rattle.std.specs.List.{starts_with}
use Rattle.std.specs.Option.{option_map, option_and_then, option_or}
use Rattle.pl_schema_parts.specs.declared.pipeline.JobSpec.{JobSpec}
use Rattle.pl_schema_parts.specs.declared.pipeline.Pipeline.{Pipeline}
use Rattle.pl_schema_parts.specs.declared.pipeline.PoolSpec.{PoolSpec}
use Rattle.pl_schema_parts.specs.declared.pipeline.StageSpec.{StageSpec}
use Rattle.pl_uses.specs.declared.demand.Demand.{Demand}

-- a job's own pool, else its stage's, else the pipeline's
abbrev pub pool_of : Pipeline → StageSpec → JobSpec → Option PoolSpec
pool_of pipeline stage job = option_or job.pool (option_or stage.pool pipeline.pool)

-- a pool that isn't named is `Default`
abbrev pub pool_name : Option PoolSpec → List ℕ
pool_name pool = unwrap_or (option_and_then (λ written. written.name) pool) (codes "Default")

-- ---- demands

-- what stands before and behind the first place at which a text stands in another one
abbrev pub cut_at : List ℕ → List ℕ → Option (List ℕ × List ℕ)
cut_at sought [] = None
cut_at sought (byte ∷ text) =
    if starts_with nat_eq (byte ∷ text) sought
    then Some ([], drop (length sought) (byte ∷ text))
    else option_map (λ parts. (byte ∷ parts.0, parts.1)) (cut_at sought text)

-- a capability that is there
abbrev pub demand_of_one : List ℕ → Demand
demand_of_one name = record { name = name; value = None }

-- a capability with its value
abbrev pub demand_of_two : List ℕ → List ℕ → Demand
demand_of_two name value = record { name = name; value = Some value }

abbrev pub demand_from : List ℕ → Option (List ℕ × List ℕ) → Demand
demand_from text None = demand_of_one text
demand_from text (Some parts) = demand_of_two parts.0 parts.1

-- `name -equals value`, or a name alone
abbrev pub demand_of : List ℕ → Demand
demand_of text = demand_from text (cut_at (codes " -equals ") text)

-- an image is asked for where no pool is named
abbrev pub image_demands : Option (List ℕ) → Option (List ℕ) → List Demand
image_demands None (Some image) = demand_of_two (codes "vmImage") image ∷ []
image_demands name image = []

abbrev pub demands_of : Option PoolSpec → List Demand
demands_of None = []
demands_of (Some pool) = map demand_of pool.demands ++ image_demands pool.name pool.vm_image
