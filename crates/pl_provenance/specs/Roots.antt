-- Where the steps of an expanded pipeline come from (Microsoft Learn, Azure Pipelines, "Security
-- through templates": extend from a template).
use Rattle.std.specs.Prelude.{◌≡◌, List, [], filter, Some, IfOk}
use Rattle.std.specs.List.{AllByRecursion}
use Rattle.pl_base.specs.declared.expanded.Argument.{Argument}
use Rattle.pl_base.specs.declared.place.FileKey.{FileKey}
use Rattle.pl_base.specs.declared.value.Value.{Value, out-Value}
use Rattle.pl_base.specs.declared.value.Value.TheOpen.{Value-F}
use Rattle.pl_base.specs.declared.value.Value.TheOpen as layer
use Rattle.pl_base.specs.declared.value.MarkedNode.{MarkedNode}
use Rattle.pl_base.specs.declared.value.MarkedPair.{MarkedPair}
use Rattle.pl_eval_laws.specs.Trees.{origins_in}
use Rattle.pl_origins.specs.Through.{IsThrough}
use Rattle.pl_expand.specs.Below.pl_extends.specs.Forms.{is_form}
use Rattle.pl_expand.specs.Tree.{Set, expansion}

-- the pairs of a tree, where it is a mapping
abbrev pub pairs_of : Value-F Value MarkedNode MarkedPair → List MarkedPair
pairs_of (layer.Object pairs) = pairs
pairs_of other = []

-- those of its jobs: under the keys `stages`, `jobs` and `steps`
abbrev pub jobs_of : MarkedNode → List MarkedPair
jobs_of tree = filter (λ pair. is_form pair.key) (pairs_of (out-Value tree.value))

-- the key and each node and key under it came through the template
abbrev pub IsPairThrough : FileKey → MarkedPair → Type 0
IsPairThrough file pair = AllByRecursion (IsThrough file) (origins_in pair)

-- Where the root file extends a template, all that stands under these keys came through it, for
-- every set of files and every run argument.
abbrev pub StepsComeThrough : Type 0
StepsComeThrough =
    (files : Set) (root : FileKey) (arguments : List Argument) (file : FileKey) →
    IfOk (expansion files root arguments)
    (λ whole. whole.extends ≡ Some file → AllByRecursion (IsPairThrough file) (jobs_of whole.tree))
