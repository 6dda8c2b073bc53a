-- What a pipeline compiles to, step by step.
use Rattle.std.proofs.Common.{◌≡◌, Ok, Err, List, inl, inr}
use Rattle.std.specs.Prelude.{Result}
use Rattle.pl_base.specs.declared.expanded.Argument.{Argument}
use Rattle.pl_base.specs.declared.expanded.Expanded.{Expanded}
use Rattle.pl_base.specs.declared.place.FileKey.{FileKey}
use Rattle.pl_plan.specs.declared.plan.Plan.{Plan}
use Rattle.pl_schema.specs.Pipelines.{pipeline_of}
use Rattle.pl_schema_parts.specs.declared.pipeline.Pipeline.{Pipeline}
use Rattle.pl_compile.specs.Compiling.{Compiles, Expands, Plans, PlansTree, Reads}
use Rattle.pl_compile.specs.Reading.{Texts}
use Rattle.pl_compile.specs.declared.fault.CompileFault.{CompileFault}
use Rattle.pl_compile.specs.declared.fault.CompileFault.TheVariants as told

pub tree_planned :
    (whole : Expanded) (pipeline : Pipeline) (planned : Result Plan CompileFault) →
    pipeline_of whole ≡ Ok pipeline → Plans pipeline planned → PlansTree whole planned
tree_planned whole pipeline (Ok plan) reads plans =
    record { pipeline = pipeline; reads = reads; plans = plans }
tree_planned whole pipeline (Err (told.Refused refusal)) reads (fault, plans, is) =
    inr (pipeline, reads, fault, plans, is)
tree_planned whole pipeline (Err told.Memory) reads plans = tt

pub tree_misread :
    (whole : Expanded) (fault : CompileFault) → Reads whole (Err fault) →
    PlansTree whole (Err fault)
tree_misread whole (told.Refused refusal) refused = inl refused
tree_misread whole told.Memory free = tt

pub unplanned :
    (texts : Texts) (root : FileKey) (arguments : List Argument) (whole : Expanded) →
    Expands texts root arguments whole → (fault : CompileFault) → PlansTree whole (Err fault) →
    Compiles texts root arguments (Err fault)
unplanned texts root arguments whole expands (told.Refused refusal) refused =
    inr (whole, expands, refused)
unplanned texts root arguments whole expands told.Memory free = tt
