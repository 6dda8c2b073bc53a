-- What a pipeline compiles to: it is expanded, read by the schema and planned, and the first
-- refusal of these is the answer.
use Rattle.std.specs.Prelude.{◌≡◌, ◌⊎◌, ℕ, List, [], ◌∷◌, flat_map, Option, Some, None, Result, Ok}
use Rattle.std.specs.Prelude.{Err}
use Rattle.std.specs.FinMap as finite
use Rattle.pl_base.specs.declared.expanded.Argument.{Argument}
use Rattle.pl_base.specs.declared.expanded.Expanded.{Expanded}
use Rattle.pl_base.specs.declared.expanded.Refusal.{Refusal}
use Rattle.pl_base.specs.declared.place.FileKey.{FileKey}
use Rattle.pl_base.specs.declared.place.Place.{Place}
use Rattle.pl_depends.specs.Codes.{code_of as plan_code}
use Rattle.pl_depends.specs.declared.fault.PlanCode.{PlanCode}
use Rattle.pl_depends.specs.declared.fault.PlanCode.TheVariants.{Cycle}
use Rattle.pl_directives.specs.declared.fault.Complaint.{Complaint}
use Rattle.pl_directives.specs.declared.fault.ExpandFault.TheVariants.{Refused}
use Rattle.pl_plan.specs.Plans.{IsPlanOf}
use Rattle.pl_plan.specs.declared.plan.Compiled.{Compiled}
use Rattle.pl_plan.specs.declared.plan.Plan.{Plan}
use Rattle.pl_plan.specs.declared.plan.Sources.{Sources}
use Rattle.pl_schema_parts.specs.Codes.{code_of as schema_code}
use Rattle.pl_schema.specs.Pipelines.{pipeline_of}
use Rattle.pl_schema_parts.specs.declared.fault.SchemaCode.{SchemaCode}
use Rattle.pl_schema_parts.specs.declared.pipeline.Pipeline.{Pipeline}
use Rattle.pl_compile.specs.Reading.{Texts, tree_of}
use Rattle.pl_compile.specs.Refusals.{refusal_of}
use Rattle.pl_compile.specs.declared.fault.CompileFault.{CompileFault}
use Rattle.pl_compile.specs.declared.fault.CompileFault.TheVariants as told

-- ---- refusals of the schema and of the plan; of a cycle the names are told

abbrev pub schema_refusal : SchemaCode × Place → Refusal
schema_refusal fault =
    record { code = schema_code fault.0; place = fault.1; detail = [] }

abbrev pub names_of : PlanCode → List (List ℕ)
names_of (Cycle names) = names
names_of code = []

abbrev pub plan_refusal : PlanCode × Place → Refusal
plan_refusal fault =
    record { code = plan_code fault.0; place = fault.1; detail = names_of fault.0 }

-- ---- what a plan was compiled from: the files that were used, in the order in which they were

abbrev pub text_at : FileKey → Option (List ℕ) → List (FileKey × List ℕ)
text_at key None = []
text_at key (Some text) = (key, text) ∷ []

abbrev pub texts_of : Texts → List FileKey → List (FileKey × List ℕ)
texts_of texts keys = flat_map (λ key. text_at key (finite.get texts key)) keys

abbrev pub sources_of : Texts → FileKey → List Argument → List FileKey → Sources
sources_of texts root arguments used =
    record { root = root; arguments = arguments; files = texts_of texts used }

-- ---- what comes of it

-- the pipeline expands to this tree
abbrev pub Expands : Texts → FileKey → List Argument → Expanded → Type 0
Expands texts root arguments whole = tree_of texts root arguments ≡ Ok whole

pub record IsCompiledOf (texts : Texts) (root : FileKey) (arguments : List Argument)
    (compiled : Compiled) : Type 0 where
  pub whole : Expanded
  pub expands : Expands texts root arguments whole
  pub pipeline : Pipeline
  pub reads : pipeline_of whole ≡ Ok pipeline
  pub plans : IsPlanOf pipeline (Ok compiled.plan)
  pub sources : compiled.sources ≡ sources_of texts root arguments whole.used

-- the expansion is refused
abbrev pub IsUnexpanded : Texts → FileKey → List Argument → Refusal → Type 0
IsUnexpanded texts root arguments refusal =
    (complaint : Complaint)
    × (tree_of texts root arguments ≡ Err (Refused complaint))
    × (refusal ≡ refusal_of complaint)

-- or the schema refuses the tree
abbrev pub IsMisread : Expanded → Refusal → Type 0
IsMisread whole refusal =
    (fault : SchemaCode × Place) × (pipeline_of whole ≡ Err fault)
    × (refusal ≡ schema_refusal fault)

-- or the pipeline has no plan
abbrev pub IsUnplanned : Expanded → Refusal → Type 0
IsUnplanned whole refusal =
    (pipeline : Pipeline) × (pipeline_of whole ≡ Ok pipeline)
    × (fault : PlanCode × Place) × IsPlanOf pipeline (Err fault)
    × (refusal ≡ plan_refusal fault)

abbrev pub IsRefusalOf : Texts → FileKey → List Argument → Refusal → Type 0
IsRefusalOf texts root arguments refusal =
    IsUnexpanded texts root arguments refusal
    ⊎ ((whole : Expanded) × Expands texts root arguments whole
    × (IsMisread whole refusal ⊎ IsUnplanned whole refusal))

-- want of memory is free
abbrev pub Compiles : Texts → FileKey → List Argument → Result Compiled CompileFault → Type 0
Compiles texts root arguments (Ok compiled) = IsCompiledOf texts root arguments compiled
Compiles texts root arguments (Err (told.Refused refusal)) =
    IsRefusalOf texts root arguments refusal
Compiles texts root arguments (Err told.Memory) = Unit {0}

-- ---- the steps behind the expansion

abbrev pub Reads : Expanded → Result Pipeline CompileFault → Type 0
Reads whole (Ok pipeline) = pipeline_of whole ≡ Ok pipeline
Reads whole (Err (told.Refused refusal)) = IsMisread whole refusal
Reads whole (Err told.Memory) = Unit {0}

abbrev pub Plans : Pipeline → Result Plan CompileFault → Type 0
Plans pipeline (Ok plan) = IsPlanOf pipeline (Ok plan)
Plans pipeline (Err (told.Refused refusal)) =
    (fault : PlanCode × Place) × IsPlanOf pipeline (Err fault) × (refusal ≡ plan_refusal fault)
Plans pipeline (Err told.Memory) = Unit {0}

-- the tree is read as a pipeline, and the plan is this pipeline's
pub record IsPlanOfTree (whole : Expanded) (plan : Plan) : Type 0 where
  pub pipeline : Pipeline
  pub reads : pipeline_of whole ≡ Ok pipeline
  pub plans : IsPlanOf pipeline (Ok plan)

abbrev pub PlansTree : Expanded → Result Plan CompileFault → Type 0
PlansTree whole (Ok plan) = IsPlanOfTree whole plan
PlansTree whole (Err (told.Refused refusal)) = IsMisread whole refusal ⊎ IsUnplanned whole refusal
PlansTree whole (Err told.Memory) = Unit {0}
