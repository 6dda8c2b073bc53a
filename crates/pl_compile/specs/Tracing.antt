-- Where the steps of a compiled plan come from (Microsoft Learn, Azure Pipelines, "Security through
-- templates").
use Rattle.std.specs.Prelude.{◌≡◌, List, Some}
use Rattle.pl_base.specs.declared.expanded.Argument.{Argument}
use Rattle.pl_base.specs.declared.expanded.Expanded.{Expanded}
use Rattle.pl_base.specs.declared.place.FileKey.{FileKey}
use Rattle.pl_step_origins.specs.Below.pl_origins.specs.Through.{IsThrough}
use Rattle.pl_plan.specs.declared.plan.Compiled.{Compiled}
use Rattle.pl_step_origins.specs.Below.pl_provenance.specs.Closure.{IsFromClosure}
use Rattle.pl_step_origins.specs.Below.pl_provenance.specs.Known.{home_in, IsKnown}
use Rattle.pl_step_origins.specs.Below.pl_provenance.specs.Texts.{IsSaid}
use Rattle.pl_step_origins.specs.Below.pl_provenance.specs.Written.{IsWhereTold}
use Rattle.pl_step_origins.specs.Steps.{AreStepsFrom, AreStepsSaying}
use Rattle.pl_compile.specs.Compiling.{Expands, texts_of}
use Rattle.pl_compile.specs.Reading.{Texts, read_all}

-- Where the plan extends a template, the mapping of each step and each node and key in it came
-- through that template.
abbrev pub ComeThrough : FileKey → Compiled → Type 0
ComeThrough file compiled =
    compiled.plan.extends ≡ Some file → AreStepsFrom (IsThrough file) compiled.plan

-- And what of these no argument and no expression gave is written where its origin tells it.
abbrev pub AreWritten : Texts → FileKey → Compiled → Type 0
AreWritten texts file compiled =
    compiled.plan.extends ≡ Some file → AreStepsFrom (IsWhereTold (read_all texts)) compiled.plan

-- And it is written in the template, or in a file that it calls, itself or by files that it calls.
pub record AreFromClosure (texts : Texts) (root : FileKey) (arguments : List Argument)
    (file : FileKey) (compiled : Compiled) : Type 0 where
  pub whole : Expanded
  pub expands : Expands texts root arguments whole
  pub steps : AreStepsFrom (IsFromClosure (read_all texts) whole.tree file) compiled.plan

abbrev pub ComeFromClosure :
    Texts → FileKey → List Argument → FileKey → Compiled → Type 0
ComeFromClosure texts root arguments file compiled =
    compiled.plan.extends ≡ Some file → AreFromClosure texts root arguments file compiled

-- Each origin in a step tells places of used files or of run arguments, and what no argument and no
-- expression gave stands where its borders lead; the used files are those among the plan's sources.
pub record AreKnown (texts : Texts) (root : FileKey) (arguments : List Argument)
    (compiled : Compiled) : Type 0 where
  pub whole : Expanded
  pub expands : Expands texts root arguments whole
  pub sources : compiled.sources.files ≡ texts_of texts whole.used
  pub known :
      AreStepsFrom (IsKnown (read_all texts) (home_in root whole) whole.used arguments)
      compiled.plan

-- And each scalar and key in a step that no argument gave and no expression made says what is
-- written where it stands.
abbrev pub AreSaid : Texts → Compiled → Type 0
AreSaid texts compiled = AreStepsSaying (IsSaid (read_all texts)) compiled.plan
