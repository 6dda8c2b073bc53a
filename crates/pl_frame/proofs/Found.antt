-- What an index finds in an object that is made from a list.
use Rattle.std.proofs.Common.{◌≡◌, ℕ, Option, Some, None, List, ◌∷◌, map, refl, ap, sym, ◌∙◌, rules}
use Rattle.std.specs.Prelude.{find}
use Rattle.std.specs.Option.{option_map, option_and_then}
use Rattle.pl_base.specs.declared.origin.Origin.{Origin}
use Rattle.pl_base.specs.declared.value.Value.{Value, Object, out-Value, the_lemmas}
use Rattle.pl_base.specs.declared.value.Value.TheOpen as layer
use Rattle.pl_base.specs.declared.value.MarkedPair.{MarkedPair}
use Rattle.pl_expr.specs.Conversions.{text_of}
use Rattle.pl_eval.specs.Known.{same_name}
use Rattle.pl_eval.specs.LookUps.{found, found_behind, found_in, made, part_of, property}
use Rattle.pl_frame.proofs.Named.{find_made}

in_object : (pairs : List MarkedPair) (at : Value) →
    found (Object pairs) at ≡ option_and_then (property pairs) (text_of at)
in_object pairs at =
    let opened : out-Value (Object pairs) ≡ layer.Object pairs = search (rules, the_lemmas) in
    ap (λ value. found_in value at) opened

module _ {X : Type 0} (make : X → MarkedPair) (xs : List X) where
  by_name : (path : List Value) (name : Option (List ℕ)) →
      option_and_then (found_behind path) (option_and_then (property (map make xs)) name)
      ≡ option_and_then (λ x. found_behind path (make x).item)
      (option_and_then (λ name. find (λ x. same_name name (make x).key) xs) name)
  by_name path None = refl
  by_name path (Some name) =
      ap (option_and_then (found_behind path)) (find_made make xs name)
      ∙ mapped (find (λ x. same_name name (make x).key) xs)
    where
      mapped : (one : Option X) →
          option_and_then (found_behind path) (option_map (λ x. (make x).item) one)
          ≡ option_and_then (λ x. found_behind path (make x).item) one
      mapped None = refl
      mapped (Some x) = refl

  -- the first index finds what is of its name, and the others go on in that
  pub part_made : (here : Origin) (at : Value) (rest path : List Value) (sought : Option X) →
      path ≡ at ∷ rest →
      sought ≡ option_and_then (λ name. find (λ x. same_name name (make x).key) xs) (text_of at) →
      part_of (Some (option_and_then (λ x. found_behind rest (make x).item) sought))
      ≡ part_of (Some (found_behind path (made here (Object (map make xs)))))
  part_made here at rest path sought path_is is =
      ap (λ one. part_of (Some one)) (ap (option_and_then (λ x. found_behind rest (make x).item)) is
      ∙ (sym (by_name rest (text_of at))
      ∙ (ap (option_and_then (found_behind rest)) (sym (in_object (map make xs) at))
      ∙ ap (λ path. found_behind path (made here (Object (map make xs)))) (sym path_is))))
