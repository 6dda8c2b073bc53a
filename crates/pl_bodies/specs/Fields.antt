-- Objects and their fields, lists and their items.
use Rattle.std.specs.Prelude.{ℕ, List, [], ◌∷◌, ◌++◌, Option, Some, None, Result, Ok, Err}
use Rattle.std.specs.Prelude.{if◌then◌else◌}
use Rattle.serde_json.specs.Data.{Data, Items, no_items, item, Members, no_members, member}
use Rattle.serde_json.specs.Find.{as_array, as_object, get}
use Rattle.pl_base.specs.declared.expanded.Argument.{Argument}
use Rattle.pl_reading.specs.Steps.{◌>>=◌}
use Rattle.pl_trees.specs.Trees.{has_only}
use Rattle.pl_bodies.specs.declared.fault.BodyFault.{BodyFault}
use Rattle.pl_bodies.specs.declared.fault.BodyFault.TheVariants.{Bad}
use Rattle.pl_bodies.specs.Atoms.{text_of}
use Rattle.pl_bodies.specs.Meaning.{wanted}

-- what a value says, if it says anything
abbrev pub Meant : Type 0 → Type 0
Meant X = Data → Result X BodyFault

-- an object that has no other fields than those of these names
abbrev pub only : List (List ℕ) → Meant (Unit {0})
only names value = if has_only names value then Ok tt else Err Bad

-- a field that must be there
abbrev pub field : {X : Type 0} → Meant X → List ℕ → Meant X
field meant name value = wanted (get name value) >>= meant

abbrev pub given_or : {X : Type 0} → Meant X → X → Option Data → Result X BodyFault
given_or meant default None = Ok default
given_or meant default (Some value) = meant value

-- a field with a default
abbrev pub field_or : {X : Type 0} → Meant X → X → List ℕ → Meant X
field_or meant default name value = given_or meant default (get name value)

-- each item of a list
abbrev pub each : {X : Type 0} → Meant X → Items → Result (List X) BodyFault
each meant no_items = Ok []
each meant (item value more) =
    meant value >>= λ first. each meant more >>= λ rest. Ok (first ∷ rest)

-- items behind those that are there
abbrev pub behind : {X : Type 0} → List X → Result (List X) BodyFault → Result (List X) BodyFault
behind front rest = rest >>= λ more. Ok (front ++ more)

abbrev pub list_of : {X : Type 0} → Meant X → Meant (List X)
list_of meant value = wanted (as_array value) >>= each meant

-- an object of texts, made into a list by their names: in byte order, since an object is
abbrev pub each_named :
    {X : Type 0} → (List ℕ → List ℕ → X) → Members → Result (List X) BodyFault
each_named make no_members = Ok []
each_named make (member name value more) =
    text_of value >>= λ text. each_named make more >>= λ rest. Ok (make name text ∷ rest)

abbrev pub texts_by_name : {X : Type 0} → (List ℕ → List ℕ → X) → Meant (List X)
texts_by_name make value = wanted (as_object value) >>= each_named make

-- the items of texts that stand by names: pairs, and arguments of a run
abbrev pub pair : List ℕ → List ℕ → List ℕ × List ℕ
pair name text = (name, text)

abbrev pub argument : List ℕ → List ℕ → Argument
argument name text = record { name = name; text = text }
