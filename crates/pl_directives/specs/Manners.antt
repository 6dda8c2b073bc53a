-- How a mapping stands in its sequence (Microsoft Learn, Azure Pipelines, "Template expressions":
-- conditional and iterative insertion), by the forms of its keys and the kinds of its values.
-- Nothing is evaluated for it.
use Rattle.std.specs.Prelude.{ℕ, Bool, true, false, List, [], ◌∷◌, map, Option, Some, None}
use Rattle.std.specs.Prelude.{if◌then◌else◌}
use Rattle.std.specs.List.{list_all, list_any, filter_map}
use Rattle.std.specs.Option.{option_or}
use Rattle.pl_base.specs.declared.place.Place.{Place}
use Rattle.pl_template.specs.Keys.{form_of_key}
use Rattle.pl_template.specs.declared.forms.KeyForm.{KeyForm}
use Rattle.pl_template.specs.declared.forms.KeyForm.TheVariants as form
use Rattle.pl_template.specs.declared.forms.ScalarForm.{ScalarForm}
use Rattle.pl_template.specs.declared.forms.ScalarForm.TheVariants as text
use Rattle.pl_directives.specs.declared.manner.Kind.{Kind}
use Rattle.pl_directives.specs.declared.manner.Kind.TheVariants.{Unknown, Items, Pairs}
use Rattle.pl_directives.specs.declared.manner.Manner.{Manner}
use Rattle.pl_directives.specs.declared.manner.Manner.TheVariants.{Empty, Stays, Splices, Mixed}
use Rattle.pl_directives.specs.declared.manner.Manner.TheVariants.{Unclosed}

-- a pair as far as its manner goes: how expressions stand in its key, where that stands, its
-- value's kind where that is written there, and where the value stands
pub record Facet : Type 0 where
  pub key : ScalarForm
  pub key_place : Place
  pub kind : Kind
  pub place : Place

-- a directive, also one out of its form
abbrev pub is_directive : KeyForm → Bool
is_directive form.Plain = false
is_directive (form.Computed made) = false
is_directive directive = true

abbrev pub is_insert : KeyForm → Bool
is_insert form.Insert = true
is_insert other = false

-- whether a value is written as a collection of the other kind
abbrev pub is_other : Kind → Kind → Bool
is_other Items Pairs = true
is_other Pairs Items = true
is_other kind found = false

-- the kind of the first value that is written as a collection
abbrev pub known_or : Kind → Kind → Kind
known_or Unknown next = next
known_or kind next = kind

abbrev pub first_kind : List Facet → Kind
first_kind [] = Unknown
first_kind (facet ∷ facets) = known_or facet.kind (first_kind facets)

-- the first value of the other kind than that
abbrev pub first_other : Kind → List Facet → Option Place
first_other kind [] = None
first_other kind (facet ∷ facets) =
    if is_other kind facet.kind then Some facet.place else first_other kind facets

-- the first key in which an expression has no end
abbrev pub is_unclosed : ScalarForm → Bool
is_unclosed text.Unclosed = true
is_unclosed other = false

abbrev pub first_unclosed : List Facet → Option Place
first_unclosed [] = None
first_unclosed (facet ∷ facets) =
    if is_unclosed facet.key then Some facet.key_place else first_unclosed facets

-- directives alone: with `insert` among them they give pairs
abbrev pub spliced_by : Bool → Kind → Option Place → Manner
spliced_by inserts kind (Some place) = Mixed place
spliced_by true kind None = Splices Pairs
spliced_by false kind None = Splices kind

-- a mapping of keys that have their ends
abbrev pub closed_manner : List Facet → Manner
closed_manner facets =
    if list_all (λ one. is_directive (form_of_key one.key)) facets then
    spliced_by (list_any (λ one. is_insert (form_of_key one.key)) facets) (first_kind facets)
    (first_other (first_kind facets) facets)
    else Stays

-- a mapping that has a key: all of its keys are read before anything is told of it
abbrev pub filled_by : Option Place → List Facet → Manner
filled_by None facets = closed_manner facets
filled_by (Some place) facets = Unclosed place

abbrev pub filled_manner : List Facet → Manner
filled_manner facets = filled_by (first_unclosed facets) facets

abbrev pub manner_of : List Facet → Manner
manner_of [] = Empty
manner_of (facet ∷ facets) = filled_manner (facet ∷ facets)
