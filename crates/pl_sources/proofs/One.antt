-- A pipeline compiles to one thing.
use Rattle.std.proofs.Common.{◌≡◌, Ok, Err, List, sym, ap, subst, ◌∙◌, inl, inr}
use Rattle.pl_base.specs.declared.expanded.Argument.{Argument}
use Rattle.pl_base.specs.declared.expanded.Expanded.{Expanded}
use Rattle.pl_base.specs.declared.expanded.Refusal.{Refusal}
use Rattle.pl_base.specs.declared.place.FileKey.{FileKey}
use Rattle.pl_compile.specs.Compiling.{Expands, IsCompiledOf, IsRefusalOf, sources_of}
use Rattle.pl_compile.specs.Reading.{Texts}
use Rattle.pl_compile.specs.declared.fault.CompileFault.TheVariants as told
use Rattle.pl_plan.proofs.OneAnswer.{one_answer}
use Rattle.pl_plan.specs.Plans.{IsPlanOf}
use Rattle.pl_plan.specs.declared.plan.Compiled.{Compiled}
use Rattle.pl_schema.specs.Pipelines.{pipeline_of}
use Rattle.pl_schema_parts.specs.declared.pipeline.Pipeline.{Pipeline}
use Rattle.pl_sources.specs.Again.{CompilesToOne}

module _ (texts : Texts) (root : FileKey) (arguments : List Argument) (compiled : Compiled)
    (is : IsCompiledOf texts root arguments compiled) where
  tree_is : (whole : Expanded) → Expands texts root arguments whole → is.whole ≡ whole
  tree_is whole expands = let e = sym is.expands ∙ expands in cc

  read_is : (whole : Expanded) (pipeline : Pipeline) → is.whole ≡ whole →
      pipeline_of whole ≡ Ok pipeline → is.pipeline ≡ pipeline
  read_is whole pipeline same reads =
      let e = sym is.reads ∙ (ap pipeline_of same ∙ reads) in cc

  same : (other : Compiled) → IsCompiledOf texts root arguments other → other ≡ compiled
  same other so =
      let whole : is.whole ≡ so.whole = tree_is so.whole so.expands in
      let pipeline : is.pipeline ≡ so.pipeline = read_is so.whole so.pipeline whole so.reads in
      let answers = one_answer so.pipeline (Ok other.plan) (Ok compiled.plan) so.plans
      (subst (λ pipeline. IsPlanOf pipeline (Ok compiled.plan)) pipeline is.plans) in
      let plan : other.plan ≡ compiled.plan = cc in
      let sources : other.sources ≡ compiled.sources =
      so.sources
      ∙ (ap (λ (whole : Expanded). sources_of texts root arguments whole.used) (sym whole)
      ∙ sym is.sources) in
      λ i. record { plan = plan i; sources = sources i }

  unrefused : (refusal : Refusal) → IsRefusalOf texts root arguments refusal → ⊥
  unrefused refusal (inl (complaint, so, told)) = absurd (let e = sym is.expands ∙ so in cc)
  unrefused refusal (inr (whole, expands, inl (fault, reads, told))) =
      absurd (let e = sym is.reads ∙ (ap pipeline_of (tree_is whole expands) ∙ reads) in cc)
  unrefused refusal (inr (whole, expands, inr (pipeline, reads, fault, plans, told))) =
      let one : is.pipeline ≡ pipeline =
      read_is whole pipeline (tree_is whole expands) reads in
      let answers = one_answer pipeline (Ok compiled.plan) (Err fault)
      (subst (λ pipeline. IsPlanOf pipeline (Ok compiled.plan)) one is.plans) plans in
      absurd (cc)

pub one : CompilesToOne
one texts root arguments compiled (Ok other) is so = same texts root arguments compiled is other so
one texts root arguments compiled (Err (told.Refused refusal)) is so =
    unrefused texts root arguments compiled is refusal so
one texts root arguments compiled (Err told.Memory) is so = tt
