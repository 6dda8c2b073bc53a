-- A scalar in a region, and the path of a call (Microsoft Learn, Azure Pipelines, "Template
-- expressions").
use Rattle.std.specs.Prelude.{ℕ, List, Result, Ok}
use Rattle.pl_base.specs.declared.place.FileKey.{FileKey}
use Rattle.pl_base.specs.declared.place.Place.{Place}
use Rattle.pl_base.specs.declared.value.Value.{Str}
use Rattle.pl_eval.specs.LookUps.{made}
use Rattle.pl_frame.specs.Origins.{literal_at}
use Rattle.pl_frame.specs.declared.frame.Frame.{Frame}
use Rattle.pl_template.specs.Forms.{form_of}
use Rattle.pl_template.specs.declared.forms.ScalarForm.{ScalarForm}
use Rattle.pl_template.specs.declared.forms.ScalarForm.TheVariants.{Plain}
use Rattle.pl_directives.specs.declared.fault.ExpandFault.{ExpandFault}
use Rattle.pl_directives.specs.declared.keys.MadeKey.{MadeKey}
use Rattle.pl_directives.specs.declared.progress.Counted.{Counted}
use Rattle.pl_directives.specs.Counting.{entered}
use Rattle.pl_directives.specs.Keys.{key_by}
use Rattle.pl_directives.specs.Scalars.{scalar_value}
use Rattle.pl_reading.specs.Steps.{◌>>=◌}
use Rattle.pl_recursion.specs.Following.{Scope}
use Rattle.pl_recursion.specs.Settling.{node_settling}

-- ---- a scalar in a region: its value, in which calls are followed

abbrev pub scalar_at :
    List ℕ → Scope → Place → ℕ → List FileKey → Result (Counted × List FileKey) ExpandFault
scalar_at text scope place count used =
    scalar_value text scope.frame place count >>= λ one.
    node_settling one.node scope one.count used

-- ---- the path of a call: a text, and what its expressions yield isn't counted

abbrev pub path_by : ScalarForm → List ℕ → Frame → Place → Result MadeKey ExpandFault
path_by Plain text frame place =
    Ok (record { key = text; origin = literal_at frame place })
path_by form text frame place = key_by form frame place

abbrev pub path_at : List ℕ → Frame → Place → ℕ → Result Counted ExpandFault
path_at text frame place count =
    entered place count >>= λ count.
    path_by (form_of text) text frame place >>= λ path.
    Ok (record { node = made path.origin (Str path.key); count = count })
