-- Jobs come through the template that the root extends.
use Rattle.std.proofs.Common.{◌≡◌, Some, List, [], ◌∷◌, ◌++◌, refl, ◌∙◌}
use Rattle.std.specs.FinMap as finite
use Rattle.std.specs.List.{AllByRecursion as Each}
use Rattle.pl_base.specs.declared.expanded.Argument.{Argument as RunArgument}
use Rattle.pl_base.specs.declared.expanded.Expanded.{Expanded}
use Rattle.pl_base.specs.declared.origin.Crossing.{Crossing}
use Rattle.pl_base.specs.declared.origin.Crossing.TheVariants.{Extends, Include, Argument, Made}
use Rattle.pl_base.specs.declared.place.FileKey.{FileKey}
use Rattle.pl_base.specs.declared.place.Place.{Place}
use Rattle.pl_yaml.specs.Spells as yaml
use Rattle.pl_calls.specs.Reaching.{opens as opens_of}
use Rattle.pl_eval_laws.proofs.Lists.{each_of, each_implies}
use Rattle.pl_eval_laws.proofs.Trees.{Asked as Wanted, PairFrom}
use Rattle.pl_origins.specs.Through.{extended_in}
use Rattle.pl_origins.proofs.Kept.{any_ok, NoPlace, NoFile, opens_anything, extended_last}
use Rattle.pl_origins.proofs.Kept.{Extending, IsExtending, kept, silent_reads}
use Rattle.pl_origins.proofs.Nodes.{Site, site, NodeIn, anywhere, nothing_said}
use Rattle.pl_origins.proofs.Steps.{ok_then}
use Rattle.pl_expand.specs.Below.pl_root.specs.Arguments.{argument_file}
use Rattle.pl_expand.specs.Tree.{root_node, tree_of}
use Rattle.pl_provenance.specs.Roots.{jobs_of, IsPairThrough, StepsComeThrough}
use Rattle.pl_provenance.proofs.Extended.{ExtendsBorder}
use Rattle.pl_provenance.proofs.Rooted.{RootBorder, ArgumentIn}
use Rattle.pl_provenance.proofs.Whole.{TreeFrom, tree_jobs}

pub extends_one :
    (crossings : List Crossing) (file : FileKey) → extended_in crossings ≡ [] →
    extended_in (crossings ++ Extends file ∷ []) ≡ file ∷ []
extends_one [] file none = refl
extends_one (Extends other ∷ crossings) file none = absurd (cc)
extends_one (Include other at ∷ crossings) file none = extends_one crossings file none
extends_one (Argument name at ∷ crossings) file none = extends_one crossings file none
extends_one (Made ∷ crossings) file none = extends_one crossings file none

abbrev pub Before : Wanted
Before = Extending []

abbrev pub Behind : FileKey → Wanted
Behind file = Extending (file ∷ [])

-- across the border `extends`, whatever K and R say
pub crosses : (R : FileKey → Site) → ExtendsBorder Before Behind R NoFile
crosses R = record {
  literal = λ key at text path place known own here. extends_one path.crossings key own;
  made =
      λ key at text path place known own here.
      extended_last (path.crossings ++ Extends key ∷ []) Made refl
      ∙ extends_one path.crossings key own;
  argument =
      λ key from text one name place known own here.
      let is =
      extended_last (one.crossings ++ Extends key ∷ []) (Argument name place) refl
      ∙ extends_one one.crossings key own in
      (is, λ at stands. is);
  reads = λ key. silent_reads (R key) (IsExtending (key ∷ []));
}

abbrev pub AnyArgument : RunArgument → Place → Type 0
AnyArgument argument place = Unit {0}

pub any_arguments : (arguments : List RunArgument) → Each (ArgumentIn AnyArgument) arguments
any_arguments arguments =
    each_of (ArgumentIn AnyArgument)
    (λ argument. (
      tt,
      any_ok (NodeIn (site (AnyArgument argument)))
          (anywhere (site (AnyArgument argument)) (λ place. tt)
          (nothing_said (AnyArgument argument)))
          (yaml.spells (argument_file argument.name) argument.text),
    ))
    arguments

pub begins : (R : Site) → RootBorder Before R AnyArgument
begins R = record {
  literal = λ place here. refl;
  made = λ place here. refl;
  argument = λ argument source stands parameter place here. (refl, λ at stands. refl);
  reads = silent_reads R (IsExtending []);
}

pub steps_through : StepsComeThrough
unfolding PairFrom
steps_through files root arguments file =
    ok_then
    (TreeFrom Before Behind NoPlace NoFile (crosses NoPlace) (λ file. kept (file ∷ [])) (kept [])
    files (λ home. opens_anything (opens_of files home)) root AnyArgument (begins (NoPlace root)))
    (λ (one : Expanded). one.extends ≡ Some file → Each (IsPairThrough file) (jobs_of one.tree))
    (tree_of files root arguments) _
    (tree_jobs Before Behind NoPlace NoFile (crosses NoPlace) (λ file. kept (file ∷ [])) (kept [])
    files (λ home. opens_anything (opens_of files home)) root AnyArgument (begins (NoPlace root))
    arguments (any_arguments arguments)
    (any_ok (NodeIn (NoPlace root)) (anywhere (NoPlace root) (λ place. tt)
    (nothing_said (λ place. Unit {0})))
    (root_node root (finite.get files root))))
    (λ one through extends. each_implies (PairFrom (Behind file) (Behind file))
    (IsPairThrough file) (λ pair all. all.0) (jobs_of one.expanded.tree) (through file extends))
