-- Where items of lists call templates (Microsoft Learn, Azure Pipelines, "Templates": templates of
-- stages, jobs, steps and variables).
use Rattle.std.specs.Prelude.{ℕ, Bool, true, false, ◌&&◌, List, [], ◌∷◌, codes, Option, Some, None}
use Rattle.std.specs.Prelude.{if◌then◌else◌}
use Rattle.std.specs.List.{list_any}
use Rattle.pl_base.specs.declared.value.Value.{Value, out-Value}
use Rattle.pl_base.specs.declared.value.Value.TheOpen.{Value-F}
use Rattle.pl_base.specs.declared.value.Value.TheOpen as layer
use Rattle.pl_base.specs.declared.value.MarkedNode.{MarkedNode}
use Rattle.pl_base.specs.declared.value.MarkedPair.{MarkedPair}
use Rattle.pl_base.specs.Texts.{is}
use Rattle.pl_directives.specs.declared.progress.Content.{Content}
use Rattle.pl_directives.specs.declared.progress.Content.TheVariants.{Pairs}
use Rattle.pl_directives.specs.declared.region.Form.{Form}
use Rattle.pl_directives.specs.declared.region.Form.TheVariants.{Stages, Jobs, Steps, Variables}
use Rattle.pl_directives.specs.declared.region.Region.{Region}
use Rattle.pl_directives.specs.declared.region.Region.TheVariants.{Free, Calls, Item, Extends}
use Rattle.pl_directives.specs.declared.region.Region.TheVariants.{Quiet}

-- the keys whose lists may call templates
abbrev pub form_named : List ℕ → Option Form
form_named key =
    if is key (codes "stages") then Some Stages
    else if is key (codes "jobs") then Some Jobs
    else if is key (codes "steps") then Some Steps
    else if is key (codes "variables") then Some Variables
    else None

-- the keys under which nothing calls a template
abbrev pub is_quiet : List ℕ → Bool
is_quiet key =
    list_any (is key)
    (codes "parameters" ∷ codes "inputs" ∷ codes "env" ∷ codes "matrix" ∷ [])

abbrev pub region_of_form : Option Form → Region
region_of_form None = Free
region_of_form (Some form) = Calls form

abbrev pub region_of_key : List ℕ → Region
region_of_key key = if is_quiet key then Quiet else region_of_form (form_named key)

-- the region of a key's value, in a mapping that stands in a region
abbrev pub under : List ℕ → Region → Region
under key Quiet = Quiet
under key region = region_of_key key

-- the region of a list that is an item of a list: its items stand in no list of calls directly
abbrev pub inside : Region → Region
inside Quiet = Quiet
inside region = Free

-- the region of the pairs of a mapping that is an item of a list
abbrev pub of_item : Region → Region
of_item (Calls form) = Item form
of_item region = region

-- ---- calls

abbrev pub is_template : Value-F Value MarkedNode MarkedPair → Bool
is_template (layer.Object (pair ∷ pairs)) = is pair.key (codes "template")
is_template value = false

-- what the items of a list in a region may call: what a directive puts in an item's place stands in
-- the list like any item
abbrev pub form_at : Region → Option Form
form_at (Calls form) = Some form
form_at (Item form) = Some form
form_at region = None

-- an item of such a list is a call where its first key is `template`
abbrev pub call_form : Region → MarkedNode → Option Form
call_form region node =
    if is_template (out-Value node.value) then form_at region else None

-- ---- The path of a call is the value of the first key of an item that may be one. That of
-- `extends` may stand anywhere in its mapping.

abbrev pub is_begun : Content → Bool
is_begun (Pairs []) = true
is_begun content = false

abbrev pub is_path : Region → Content → List ℕ → Bool
is_path (Item form) content key = is_begun content && is key (codes "template")
is_path Extends content key = is key (codes "template")
is_path region content key = false
