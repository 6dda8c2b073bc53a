-- What may stand in a template (Microsoft Learn, Azure Pipelines, "Templates": template types).
use Rattle.std.specs.Prelude.{ℕ, Bool, true, false, not, ◌||◌, List, find, codes}
use Rattle.std.specs.Prelude.{Option, Some, None, Result, Ok, if◌then◌else◌}
use Rattle.std.specs.Option.{option_map}
use Rattle.pl_base.specs.declared.node.Node.{Node}
use Rattle.pl_base.specs.declared.node.NodeBody.TheOpen.{Scalar, Seq, Map}
use Rattle.pl_base.specs.declared.node.NodePair.{NodePair}
use Rattle.pl_base.specs.declared.place.Place.{Place}
use Rattle.pl_base.specs.Texts.{is}
use Rattle.pl_template.specs.Forms.{form_of}
use Rattle.pl_template.specs.declared.forms.ScalarForm.{ScalarForm}
use Rattle.pl_template.specs.declared.forms.ScalarForm.TheVariants.{Whole, Unclosed}
use Rattle.pl_directives.specs.declared.fault.ExpandFault.{ExpandFault}
use Rattle.pl_directives.specs.declared.fault.ExpandProblem.{ExpandProblem}
use Rattle.pl_directives.specs.declared.fault.ExpandProblem.TheVariants.{ExtendsInTemplate}
use Rattle.pl_directives.specs.declared.fault.ExpandProblem.TheVariants.{WrongKind}
use Rattle.pl_directives.specs.declared.region.Form.{Form}
use Rattle.pl_directives.specs.declared.region.Form.TheVariants.{Stages, Jobs, Steps, Variables}
use Rattle.pl_directives.specs.Complaints.{refused}
use Rattle.pl_reading.specs.Steps.{◌>>=◌}
use Rattle.pl_calls.specs.Parts.{Body, body_of, key_place_of}
use Rattle.pl_params.specs.Nodes.{under}

abbrev pub form_key : Form → List ℕ
form_key Stages = codes "stages"
form_key Jobs = codes "jobs"
form_key Steps = codes "steps"
form_key Variables = codes "variables"

-- a problem that stands at a place, where there is one
abbrev pub unless_at : {X : Type 0} → ExpandProblem → Option Place → X → Result X ExpandFault
unless_at problem None value = Ok value
unless_at problem (Some place) value = refused problem place

-- the first key that may not stand there, as it is written: a directive is none that may
abbrev pub stray : (List ℕ → Bool) → List NodePair → Option Place
stray may pairs =
    option_map (λ pair. pair.key_place) (find (λ pair. not (may pair.key)) pairs)

-- ---- a template is a mapping that extends nothing

abbrev pub mapping_in : Body → Place → Result (List NodePair) ExpandFault
mapping_in (Map pairs) place = Ok pairs
mapping_in other place = refused WrongKind place

abbrev pub template_in : Node → Result (List NodePair) ExpandFault
template_in node =
    mapping_in (body_of node) node.place >>= λ pairs.
    unless_at ExtendsInTemplate (key_place_of (codes "extends") pairs) pairs

-- ---- one that an item of a list calls holds that list's key, and `parameters` alone beside it

abbrev pub may_stand : Form → List ℕ → Bool
may_stand form key = is key (codes "parameters") || is key (form_key form)

abbrev pub held : Place → Option Node → Result Node ExpandFault
held place None = refused WrongKind place
held place (Some body) = Ok body

abbrev pub body_in : Form → Place → List NodePair → Result Node ExpandFault
body_in form place pairs =
    held place (under (form_key form) pairs) >>= λ body.
    unless_at WrongKind (stray (may_stand form) pairs) body

-- ---- The value of that key is a list, for variables also a mapping, or an expression that may
-- give one. What is written as another kind is refused before anything in it is expanded.

-- an expression without an end is refused as a scalar
abbrev pub may_give : ScalarForm → Bool
may_give (Whole inside) = true
may_give Unclosed = true
may_give other = false

abbrev pub takes_mapping : Form → Bool
takes_mapping Variables = true
takes_mapping other = false

abbrev pub fits : Form → Body → Bool
fits form (Scalar text) = may_give (form_of text)
fits form (Seq items) = true
fits form (Map pairs) = takes_mapping form

abbrev pub body_fits : Form → Node → Result (Unit {0}) ExpandFault
body_fits form body = if fits form (body_of body) then Ok tt else refused WrongKind body.place
