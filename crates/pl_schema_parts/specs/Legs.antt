-- The legs of a job (Microsoft Learn, "YAML schema reference", jobs.job.strategy).
use Rattle.std.specs.Prelude.{ℕ, Bool, true, false, List, [], ◌∷◌, codes, Option, Some, None}
use Rattle.std.specs.Prelude.{Result, Ok}
use Rattle.pl_base.specs.declared.value.Value.{out-Value}
use Rattle.pl_base.specs.declared.value.Value.TheOpen as layer
use Rattle.pl_base.specs.declared.value.MarkedNode.{MarkedNode}
use Rattle.pl_base.specs.declared.value.MarkedPair.{MarkedPair}
use Rattle.pl_expr.specs.Conversions.{text_of}
use Rattle.pl_literal.specs.Items.{Opened}
use Rattle.pl_schema_parts.specs.declared.fault.SchemaCode.TheVariants.{WrongShape}
use Rattle.pl_schema_parts.specs.declared.legs.Legs.{Legs}
use Rattle.pl_schema_parts.specs.declared.pipeline.LegSpec.{LegSpec}
use Rattle.pl_schema_parts.specs.declared.pipeline.LegSpec.TheVariants.{One, Parallel, Matrix}
use Rattle.pl_schema_parts.specs.Gives.{Fault}
use Rattle.pl_schema_parts.specs.Rows.{reads}
use Rattle.pl_schema_parts.specs.Rows.{Reading, Row, sets, alone, read_pair, in_order}
use Rattle.pl_reading.specs.Steps.{◌>>=◌}
use Rattle.pl_schema_parts.specs.Scalars.{pairs_in, limited_in}
use Rattle.pl_schema_parts.specs.Variables.{late_in}

-- ---- a matrix is kept as it is written; of its legs the values that are expressions alone are
-- judged here

abbrev pub judge_scalar : MarkedNode → Option (List ℕ) → Result (Unit {0}) Fault
judge_scalar node None = Ok tt
judge_scalar node (Some text) = late_in node text >>= λ late. Ok tt

abbrev pub judge_text : MarkedNode → Result (Unit {0}) Fault
judge_text node = judge_scalar node (text_of node.value)

abbrev pub judge_value : Unit {0} → MarkedPair → Result (Unit {0}) Fault
judge_value done pair = judge_text pair.item

abbrev pub judge_values : Opened → Result (Unit {0}) Fault
judge_values (layer.Object pairs) = in_order judge_value tt pairs
judge_values value = Ok tt

abbrev pub judge_leg : Unit {0} → MarkedPair → Result (Unit {0}) Fault
judge_leg done pair = judge_values (out-Value pair.item.value)

unfoldable pub matrix_in : MarkedNode → Result MarkedNode Fault
matrix_in node = pairs_in node >>= λ legs. in_order judge_leg tt legs >>= λ done. Ok node

-- ---- the strategy

abbrev pub no_legs : Legs
no_legs = record { legs = One; max_parallel = None }

abbrev pub is_cut : LegSpec → Bool
is_cut One = false
is_cut legs = true

-- legs are made in one way alone
abbrev pub set_matrix : Reading Legs
set_matrix = alone (λ made. is_cut made.legs) WrongShape (sets matrix_in
    (λ made matrix. record made { legs = Matrix matrix }))

abbrev pub set_parallel : Reading Legs
set_parallel = alone (λ made. is_cut made.legs) WrongShape (sets (limited_in 1 100)
    (λ made count. record made { legs = Parallel count }))

-- how many legs may run at once; this number and the one of `parallel` are this project's own
abbrev pub most_in : MarkedNode → Result ℕ Fault
most_in node = limited_in 1 256 node

abbrev pub legs_row : Row Legs
legs_row =
    (codes "matrix", set_matrix)
    ∷ (codes "parallel", set_parallel)
    ∷ reads (codes "maxParallel") most_in (λ made n. record made { max_parallel = Some n })
    ∷ []

unfoldable pub legs_in : MarkedNode → Result Legs Fault
legs_in node = pairs_in node >>= in_order (read_pair legs_row) no_legs
