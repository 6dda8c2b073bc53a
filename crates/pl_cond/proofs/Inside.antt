-- Look-ups in objects that are made from lists, and in atoms.
use Rattle.std.proofs.Common.{◌≡◌, ◌≢◌, ℕ, Bool, true, false, cond, Option, Some, None, List, []}
use Rattle.std.proofs.Common.{◌∷◌}
use Rattle.std.proofs.Common.{◌++◌, ◌-◌, ◌<◌, ◌≤◌, drop, get_or, map, take, refl, ap, sym, ◌∙◌}
use Rattle.std.proofs.Common.{arith, rules}
use Rattle.std.specs.Prelude.{find, length, unwrap_or, ◌==◌, Ok}
use Rattle.std.proofs.lemmas.Bool.{false≢true}
use Rattle.std.proofs.lemmas.List.{take_all}
use Rattle.std.specs.Option.{option_map, option_map_or, option_or, option_and_then}
use Rattle.pl_base.specs.declared.origin.Origin.{Origin}
use Rattle.pl_base.specs.declared.outcome.Outcome.{Outcome}
use Rattle.pl_base.specs.declared.value.Value.{Value, Null, Str, Object, out-Value, the_lemmas}
use Rattle.pl_base.specs.declared.value.Value.TheOpen as layer
use Rattle.pl_base.specs.declared.value.MarkedNode.{MarkedNode}
use Rattle.pl_base.specs.declared.value.MarkedPair.{MarkedPair}
use Rattle.pl_expr.specs.Conversions.{text_of}
use Rattle.pl_eval.specs.Known.{same_name}
use Rattle.pl_eval.specs.LookUps.{found, found_in, looked_up, made, property}
use Rattle.pl_eval.specs.Means.{Meaning, answer}
use Rattle.pl_cond.specs.Objects.{outcome_name, pair, result_value}
use Rattle.pl_cond.specs.Paths.{IsAtom, along, inside}

-- ---- in an object

in_object : (pairs : List MarkedPair) (name : List ℕ) →
    found (Object pairs) (Str name) ≡ property pairs name
in_object pairs name =
    let opened : out-Value (Object pairs) ≡ layer.Object pairs = search (rules, the_lemmas) in
    let converts : text_of (Str name) ≡ Some name = search (rules, the_lemmas) in
    ap (λ value. found_in value (Str name)) opened
    ∙ ap (option_and_then (property pairs)) converts

pub looked_in : (here : Origin) (pairs : List MarkedPair) (name : List ℕ) →
    looked_up here (Object pairs) (Str name) ≡ unwrap_or (property pairs name) (made here Null)
looked_in here pairs name = ap (λ node. unwrap_or node (made here Null)) (in_object pairs name)

find_made : {X : Type 0} (make : X → MarkedPair) (xs : List X) (name : List ℕ) →
    property (map make xs) name ≡ option_map (λ x. (make x).item)
    (find (λ x. same_name name (make x).key) xs)
find_made make [] name = refl
find_made make (x ∷ xs) name = by (same_name name (make x).key) (find_made make xs name)
  where
    by : (b : Bool) → property (map make xs) name ≡ option_map (λ x. (make x).item)
        (find (λ x. same_name name (make x).key) xs) →
        option_map (λ (pair : MarkedPair). pair.item)
        (cond b (Some (make x)) (find (λ pair. same_name name pair.key) (map make xs))) ≡
        option_map (λ x. (make x).item)
        (cond b (Some x) (find (λ x. same_name name (make x).key) xs))
    by true later = refl
    by false later = later

pub property_made : {X : Type 0} (here : Origin) (key : X → List ℕ) (value : X → Value)
    (xs : List X) (name : List ℕ) →
    property (map (λ x. pair here (key x) (value x)) xs) name ≡
    option_map (λ x. made here (value x)) (find (λ x. same_name name (key x)) xs)
property_made here key value xs name = find_made (λ x. pair here (key x) (value x)) xs name

or_null : {X : Type 0} (here : Origin) (value : X → Value) (x : Option X) →
    unwrap_or (option_map (λ x. made here (value x)) x) (made here Null) ≡
    made here (option_map_or value x Null)
or_null here value None = refl
or_null here value (Some x) = refl

-- what a name finds among properties that are made from a list
pub looked_made : {X : Type 0} (here : Origin) (key : X → List ℕ) (value : X → Value) (xs : List X)
    (name : List ℕ) → looked_up here (Object (map (λ x. pair here (key x) (value x)) xs)) (Str name)
    ≡ made here (option_map_or value (find (λ x. same_name name (key x)) xs) Null)
looked_made here key value xs name =
    looked_in here (map (λ x. pair here (key x) (value x)) xs) name
    ∙ ap (λ node. unwrap_or node (made here Null)) (property_made here key value xs name)
    ∙ or_null here value (find (λ x. same_name name (key x)) xs)

-- ---- one name, and those behind it

pub goes_in : (here : Origin) (of to : Value) (name : List ℕ) (names : List (List ℕ)) →
    looked_up here of (Str name) ≡ made here to → inside here of (name ∷ names) ≡
    inside here to names
goes_in here of to name names is = ap (λ node. along here (Ok node) names) is

-- ---- atoms

pub null_is_atom : IsAtom Null
null_is_atom at =
    let opened : out-Value Null ≡ layer.Null = search (rules, the_lemmas) in
    ap (λ value. found_in value at) opened

pub text_is_atom : (text : List ℕ) → IsAtom (Str text)
text_is_atom text at =
    let opened : out-Value (Str text) ≡ layer.Str text = search (rules, the_lemmas) in
    ap (λ value. found_in value at) opened

pub result_is_atom : (ended : Option Outcome) → IsAtom (result_value ended)
result_is_atom None = null_is_atom
result_is_atom (Some outcome) = text_is_atom (outcome_name outcome)

no_member : (here : Origin) (value at : Value) → IsAtom value →
    looked_up here value at ≡ made here Null
no_member here value at atom = ap (λ node. unwrap_or node (made here Null)) (atom at)

pub in_null : (here : Origin) (names : List (List ℕ)) → inside here Null names ≡ answer here Null
in_null here [] = refl
in_null here (name ∷ names) =
    goes_in here Null Null name names (no_member here Null (Str name) null_is_atom)
    ∙ in_null here names

pub in_atom : (here : Origin) (value : Value) (names : List (List ℕ)) → IsAtom value → names ≢ [] →
    inside here value names ≡ answer here Null
in_atom here value [] atom some = absurd (some refl)
in_atom here value (name ∷ names) atom some =
    goes_in here value Null name names (no_member here value (Str name) atom)
    ∙ in_null here names

-- ---- what a name finds, where the rest is looked up in that

pub through : {X : Type 0} (here : Origin) (key : X → List ℕ) (value : X → Value) (xs : List X)
    (name : List ℕ) (names : List (List ℕ)) (x : X) (result : Value) →
    Some x ≡ find (λ x. same_name name (key x)) xs → inside here (value x) names ≡
    answer here result →
    inside here (Object (map (λ x. pair here (key x) (value x)) xs)) (name ∷ names) ≡
    answer here result
through here key value xs name names x result is rest =
    goes_in here (Object (map (λ x. pair here (key x) (value x)) xs)) (value x) name names
    (looked_made here key value xs name
    ∙ ap (λ x. made here (option_map_or value x Null)) (sym is))
    ∙ rest

pub nowhere : {X : Type 0} (here : Origin) (key : X → List ℕ) (value : X → Value) (xs : List X)
    (name : List ℕ) (names : List (List ℕ)) →
    None ≡ find (λ x. same_name name (key x)) xs →
    inside here (Object (map (λ x. pair here (key x) (value x)) xs)) (name ∷ names) ≡
    answer here Null
nowhere here key value xs name names none =
    goes_in here (Object (map (λ x. pair here (key x) (value x)) xs)) Null name names
    (looked_made here key value xs name
    ∙ ap (λ x. made here (option_map_or value x Null)) (sym none))
    ∙ in_null here names

pub in_atom_else : (here : Origin) (value : Value) (names : List (List ℕ)) → IsAtom value →
    false ≡ (length names == 0) → inside here value names ≡ answer here Null
in_atom_else here value [] atom some = absurd (false≢true some)
in_atom_else here value (name ∷ names) atom some =
    goes_in here value Null name names (no_member here value (Str name) atom)
    ∙ in_null here names

-- ---- names that are at least one, or exactly one

-- the names behind the first one
abbrev pub rest_of : List (List ℕ) → List (List ℕ)
rest_of names = take (length names - 1) (drop 1 names)

pub first_is : (names : List (List ℕ)) (name : List ℕ) → 1 ≤ length names →
    name ≡ get_or names 0 name → names ≡ name ∷ rest_of names
first_is [] name some is = absurd (omega (arith, some))
first_is (first ∷ rest) name some is =
    ap (λ n. n ∷ rest) (sym is)
    ∙ ap (λ names. name ∷ names) (sym (take_all (length (first ∷ rest) - 1) rest (omega arith)))

pub only_is : (names : List (List ℕ)) (name : List ℕ) → 1 ≤ length names → length names < 2 →
    name ≡ get_or names 0 name → names ≡ name ∷ []
only_is [] name some few is = absurd (omega (arith, some))
only_is (first ∷ []) name some few is = ap (λ n. n ∷ []) (sym is)
only_is (first ∷ second ∷ rest) name some few is = absurd (omega (arith, few))
