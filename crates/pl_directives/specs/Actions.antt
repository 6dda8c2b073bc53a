-- What a key asks for (Microsoft Learn, Azure Pipelines, "Template expressions"): one case a
-- directive. A condition is evaluated only where no branch before it was taken.
use Rattle.std.specs.Prelude.{ℕ, Bool, true, false, List, [], map, Result, Ok}
use Rattle.std.specs.Prelude.{if◌then◌else◌}
use Rattle.pl_base.specs.declared.place.Place.{Place}
use Rattle.pl_base.specs.declared.value.Value.{Value, out-Value}
use Rattle.pl_base.specs.declared.value.Value.TheOpen.{Value-F}
use Rattle.pl_base.specs.declared.value.Value.TheOpen as layer
use Rattle.pl_base.specs.declared.value.MarkedNode.{MarkedNode}
use Rattle.pl_base.specs.declared.value.MarkedPair.{MarkedPair}
use Rattle.pl_frame.specs.Names.{pair_object}
use Rattle.pl_frame.specs.Origins.{literal_at}
use Rattle.pl_frame.specs.declared.frame.Frame.{Frame}
use Rattle.pl_template.specs.Keys.{key_form_of}
use Rattle.pl_template.specs.declared.forms.ScalarForm.{ScalarForm}
use Rattle.pl_template.specs.declared.forms.KeyForm.{KeyForm}
use Rattle.pl_template.specs.declared.forms.KeyForm.TheVariants as form
use Rattle.pl_directives.specs.declared.action.Action.{Action}
use Rattle.pl_directives.specs.declared.action.Turns.{Turns}
use Rattle.pl_directives.specs.declared.action.Action.TheVariants.{Put, Run, Pass, Repeat, Insert}
use Rattle.pl_directives.specs.declared.fault.ExpandFault.{ExpandFault}
use Rattle.pl_directives.specs.declared.fault.ExpandProblem.TheVariants.{BadDirective, ElseAlone}
use Rattle.pl_directives.specs.declared.fault.ExpandProblem.TheVariants.{EachOverScalar}
use Rattle.pl_directives.specs.declared.progress.Chain.{Chain}
use Rattle.pl_directives.specs.declared.progress.Chain.TheVariants.{Closed, Waiting, Taken}
use Rattle.pl_directives.specs.declared.progress.Counted.{Counted}
use Rattle.pl_directives.specs.Complaints.{refused}
use Rattle.pl_directives.specs.Scalars.{truth_at, counted_value_at}
use Rattle.pl_directives.specs.Keys.{key_by}
use Rattle.pl_reading.specs.Steps.{◌>>=◌}

-- if: the value in its place where the condition is true
abbrev pub branch : Bool → Action
branch true = Run Taken
branch false = Pass Waiting

abbrev pub if_asks : Frame → Place → List ℕ → Result Action ExpandFault
if_asks frame place text = truth_at frame place text >>= λ truth. Ok (branch truth)

-- elseif: the same, unless a branch was taken
abbrev pub elseif_asks : Chain → Frame → Place → List ℕ → Result Action ExpandFault
elseif_asks Closed frame place text = refused ElseAlone place
elseif_asks Waiting frame place text = if_asks frame place text
elseif_asks Taken frame place text = Ok (Pass Taken)

-- else: the value in its place, unless a branch was taken
abbrev pub else_asks : Chain → Place → Result Action ExpandFault
else_asks Closed place = refused ElseAlone place
else_asks Waiting place = Ok (Run Closed)
else_asks Taken place = Ok (Pass Closed)

-- each: the value once for each item of an array, or for each pair of an object
abbrev pub turns_of : List ℕ → List MarkedNode → Turns
turns_of name items = record { name = name; items = items }

abbrev pub items_for :
    Value-F Value MarkedNode MarkedPair → Frame → Place → List ℕ → ℕ → Result Action ExpandFault
items_for (layer.Array items) frame place name count = Ok (Repeat (turns_of name items) count)
items_for (layer.Object pairs) frame place name count =
    Ok (Repeat (turns_of name (map (pair_object frame place) pairs)) count)
items_for atom frame place name count = refused EachOverScalar place

abbrev pub each_asks : Frame → Place → List ℕ → List ℕ → ℕ → Result Action ExpandFault
each_asks frame place name text count =
    counted_value_at frame place text count >>= λ one.
    items_for (out-Value one.node.value) frame place name one.count

-- a pair whose key expressions give
abbrev pub computed_asks : ScalarForm → Frame → Place → Result Action ExpandFault
computed_asks form frame place =
    key_by form frame place >>= λ made. Ok (Put made.key made.origin)

-- a key of that form, behind a chain of branches and at a count
abbrev pub asks : KeyForm → List ℕ → Frame → Place → Chain → ℕ → Result Action ExpandFault
asks form.Plain key frame place chain count = Ok (Put key (literal_at frame place))
asks (form.Computed made) key frame place chain count = computed_asks made frame place
asks (form.If text) key frame place chain count = if_asks frame place text
asks (form.ElseIf text) key frame place chain count = elseif_asks chain frame place text
asks form.Else key frame place chain count = else_asks chain place
asks (form.Each name text) key frame place chain count = each_asks frame place name text count
asks form.Insert key frame place chain count = Ok Insert
asks form.Bad key frame place chain count = refused BadDirective place

-- a key
abbrev pub key_asks : List ℕ → Frame → Place → Chain → ℕ → Result Action ExpandFault
key_asks key frame place chain count = asks (key_form_of key) key frame place chain count
