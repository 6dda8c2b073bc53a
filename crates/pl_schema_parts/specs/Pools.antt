-- Pools and environments (Microsoft Learn, "YAML schema reference", pool;
-- jobs.deployment.environment).
use Rattle.std.specs.Prelude.{ℕ, List, [], ◌∷◌, codes, None, Result, Ok}
use Rattle.pl_base.specs.declared.value.Value.{out-Value}
use Rattle.pl_base.specs.declared.value.Value.TheOpen as layer
use Rattle.pl_base.specs.declared.value.MarkedNode.{MarkedNode}
use Rattle.pl_literal.specs.Items.{Opened}
use Rattle.pl_schema_parts.specs.declared.pipeline.PoolSpec.{PoolSpec}
use Rattle.pl_schema_parts.specs.Gives.{Fault}
use Rattle.pl_schema_parts.specs.Rows.{reads, passed}
use Rattle.pl_schema_parts.specs.Rows.{Row, read_pair, in_order, has, read_object}
use Rattle.pl_reading.specs.Steps.{◌>>=◌}
use Rattle.pl_schema_parts.specs.Scalars.{text_in, filled_in, some_text, demands_in}

abbrev pub no_pool : PoolSpec
no_pool = record { name = None; demands = []; vm_image = None }

abbrev pub pool_row : Row PoolSpec
pool_row =
    reads (codes "name") text_in (λ pool name. record pool { name = some_text name })
    ∷ reads (codes "demands") demands_in (λ pool demands. record pool { demands = demands })
    ∷ reads (codes "vmImage") text_in (λ pool image. record pool { vm_image = some_text image })
    ∷ []

-- a scalar is the pool's name
abbrev pub pool_from : MarkedNode → Opened → Result PoolSpec Fault
pool_from node (layer.Object pairs) = in_order (read_pair pool_row) no_pool pairs
pool_from node value = text_in node >>= λ name. Ok (record no_pool { name = some_text name })

unfoldable pub pool_in : MarkedNode → Result PoolSpec Fault
pool_in node = pool_from node (out-Value node.value)

abbrev pub environment_row : Row (List ℕ)
environment_row =
    reads (codes "name") filled_in (λ before name. name)
    ∷ passed (codes "resourceName")
    ∷ passed (codes "resourceType")
    ∷ passed (codes "resourceId")
    ∷ passed (codes "tags")
    ∷ []

-- a scalar is the environment's name
abbrev pub environment_from : MarkedNode → Opened → Result (List ℕ) Fault
environment_from node (layer.Object pairs) = read_object node (has pairs (codes "name"))
    environment_row [] pairs
environment_from node value = filled_in node

unfoldable pub environment_in : MarkedNode → Result (List ℕ) Fault
environment_in node = environment_from node (out-Value node.value)
