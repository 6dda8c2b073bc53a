-- Where the steps of a plan come from, by the jobs of its tree.
use Rattle.std.proofs.Common.{◌≡◌, Ok, Some, List, sym, ◌∙◌}
use Rattle.std.specs.List.{AllByRecursion as Each}
use Rattle.pl_base.specs.declared.expanded.Argument.{Argument}
use Rattle.pl_base.specs.declared.expanded.Expanded.{Expanded}
use Rattle.pl_base.specs.declared.place.FileKey.{FileKey}
use Rattle.pl_eval_laws.specs.Marks.{marks_of}
use Rattle.pl_eval_laws.specs.Trees.{origins_of}
use Rattle.pl_step_origins.specs.Below.pl_origins.specs.Through.{IsThrough}
use Rattle.pl_plan.specs.Plans.{IsPlanOf}
use Rattle.pl_plan.specs.declared.plan.Compiled.{Compiled}
use Rattle.pl_step_origins.specs.Below.pl_provenance.specs.Closure.{ArePairsFromClosure}
use Rattle.pl_step_origins.specs.Below.pl_provenance.specs.Closure.{IsFromClosure}
use Rattle.pl_step_origins.specs.Below.pl_provenance.specs.Known.{home_in, IsKnown}
use Rattle.pl_step_origins.specs.Below.pl_provenance.specs.Roots.{IsPairThrough, jobs_of}
use Rattle.pl_step_origins.specs.Below.pl_provenance.specs.Texts.{IsSaid, Says}
use Rattle.pl_step_origins.specs.Below.pl_provenance.specs.Written.{ArePairsWhereTold, IsWhereTold}
use Rattle.pl_schema.specs.Pipelines.{pipeline_of}
use Rattle.pl_schema_parts.specs.declared.pipeline.Pipeline.{Pipeline}
use Rattle.pl_step_origins.proofs.Planned.{extend_same, jobs_hold, steps_hold, steps_say}
use Rattle.pl_compile.specs.Compiling.{Expands, texts_of}
use Rattle.pl_compile.specs.Reading.{Texts, read_all}
use Rattle.pl_compile.specs.Tracing.{AreKnown, AreSaid, AreWritten, ComeFromClosure}
use Rattle.pl_compile.specs.Tracing.{ComeThrough}

module _ (texts : Texts) (whole : Expanded) (pipeline : Pipeline) (compiled : Compiled)
    (reads : pipeline_of whole ≡ Ok pipeline) (plans : IsPlanOf pipeline (Ok compiled.plan)) where
  pub come_through :
      (file : FileKey) →
      (whole.extends ≡ Some file → Each (IsPairThrough file) (jobs_of whole.tree)) →
      ComeThrough file compiled
  come_through file through extends =
      steps_hold (IsThrough file) whole pipeline compiled.plan reads plans
      (through (sym (extend_same whole pipeline compiled.plan reads plans) ∙ extends))

  pub are_written :
      (file : FileKey) →
      (whole.extends ≡ Some file → ArePairsWhereTold (read_all texts) (jobs_of whole.tree)) →
      AreWritten texts file compiled
  are_written file written extends =
      steps_hold (IsWhereTold (read_all texts)) whole pipeline compiled.plan reads plans
      (written (sym (extend_same whole pipeline compiled.plan reads plans) ∙ extends))

  pub come_from_closure :
      (root : FileKey) (arguments : List Argument) (file : FileKey) →
      Expands texts root arguments whole →
      (whole.extends ≡ Some file → ArePairsFromClosure (read_all texts) whole.tree file) →
      ComeFromClosure texts root arguments file compiled
  come_from_closure root arguments file expands written extends = record {
    whole = whole;
    expands = expands;
    steps = steps_hold (IsFromClosure (read_all texts) whole.tree file) whole pipeline
        compiled.plan reads plans
        (written (sym (extend_same whole pipeline compiled.plan reads plans) ∙ extends));
  }

  pub are_known :
      (root : FileKey) (arguments : List Argument) → Expands texts root arguments whole →
      compiled.sources.files ≡ texts_of texts whole.used →
      Each (IsKnown (read_all texts) (home_in root whole) whole.used arguments)
      (origins_of whole.tree) →
      AreKnown texts root arguments compiled
  are_known root arguments expands sources known = record {
    whole = whole;
    expands = expands;
    sources = sources;
    known = steps_hold (IsKnown (read_all texts) (home_in root whole) whole.used arguments) whole
        pipeline compiled.plan reads plans
        (jobs_hold (IsKnown (read_all texts) (home_in root whole) whole.used arguments)
        whole.tree known);
  }

  pub are_said : Each (IsSaid (read_all texts)) (marks_of whole.tree) → AreSaid texts compiled
  are_said all = steps_say (Says (read_all texts)) whole pipeline compiled.plan reads plans all
