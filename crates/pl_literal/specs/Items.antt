-- Which kind of item a mapping is, by its first key (Microsoft Learn, Azure Pipelines, "YAML schema
-- reference": the pages of steps, jobs.job, jobs.deployment, stages.stage, and of the templates of
-- these).
use Rattle.std.specs.Prelude.{ℕ, List, [], ◌∷◌, Option, Some, None, codes}
use Rattle.std.specs.Prelude.{if◌then◌else◌}
use Rattle.std.specs.List.{list_any}
use Rattle.pl_base.specs.Texts.{is}
use Rattle.pl_base.specs.declared.value.Value.{Value, out-Value}
use Rattle.pl_base.specs.declared.value.Value.TheOpen.{Value-F}
use Rattle.pl_base.specs.declared.value.Value.TheOpen as layer
use Rattle.pl_base.specs.declared.value.MarkedNode.{MarkedNode}
use Rattle.pl_base.specs.declared.value.MarkedPair.{MarkedPair}
use Rattle.pl_literal.specs.declared.items.ItemKind.{ItemKind}
use Rattle.pl_literal.specs.declared.items.ItemKind.TheVariants.{Step, Job, Deployment, Stage}
use Rattle.pl_literal.specs.declared.items.ItemKind.TheVariants.{Template}

-- the keys with which a step begins
abbrev pub step_keys : List (List ℕ)
step_keys =
    codes "task" ∷ codes "script" ∷ codes "bash" ∷ codes "pwsh" ∷ codes "powershell" ∷
    codes "checkout"
    ∷ codes "publish" ∷ codes "download" ∷ []

-- the kind of the items that begin with that key
abbrev pub kind_of_key : List ℕ → Option ItemKind
kind_of_key key =
    if list_any (is key) step_keys then Some Step
    else if is key (codes "job") then Some Job
    else if is key (codes "deployment") then Some Deployment
    else if is key (codes "stage") then Some Stage
    else if is key (codes "template") then Some Template
    else None

-- a value as far as one level
abbrev pub Opened : Type 0
Opened = Value-F Value MarkedNode MarkedPair

-- the kind of a mapping, by its first key
abbrev pub kind_of_opened : Opened → Option ItemKind
kind_of_opened (layer.Object (pair ∷ pairs)) = kind_of_key pair.key
kind_of_opened value = None

abbrev pub kind_of_item : Value → Option ItemKind
kind_of_item value = kind_of_opened (out-Value value)
