-- A path of indices with one index more.
use Rattle.std.proofs.Common.{◌≡◌, List, [], ◌∷◌, ◌++◌, Option, Some, None, Ok, refl, ap, sym, ◌∙◌}
use Rattle.std.proofs.Common.{rules}
use Rattle.std.specs.Prelude.{unwrap_or}
use Rattle.std.specs.Option.{option_map, option_and_then}
use Rattle.pl_base.specs.declared.origin.Origin.{Origin}
use Rattle.pl_base.specs.declared.value.Value.{Value, Null, out-Value, the_lemmas}
use Rattle.pl_base.specs.declared.value.Value.TheOpen as layer
use Rattle.pl_base.specs.declared.value.MarkedNode.{MarkedNode}
use Rattle.pl_eval.specs.Held.{parted}
use Rattle.pl_eval.specs.LookUps.{found, found_in, found_behind, part_of, made}
use Rattle.pl_eval.specs.Means.{indexed, rooted}

-- an empty path finds the root's value
pub whole :
    (here : Origin) (root : Option MarkedNode) →
    rooted root ≡ parted here (part_of (option_map (found_behind []) root))
whole here None = refl
whole here (Some node) = refl

none_behind : (found : Option MarkedNode) → option_and_then (found_behind []) found ≡ found
none_behind None = refl
none_behind (Some node) = refl

behind_longer :
    (path : List Value) (at : Value) (node : MarkedNode) →
    found_behind (path ++ at ∷ []) node ≡ option_and_then (λ one. found one.value at)
    (found_behind path node)
behind_longer [] at node = none_behind (found node.value at)
behind_longer (first ∷ path) at node = by (found node.value first) (behind_longer path at)
  where
    by :
        (one : Option MarkedNode) →
        ((one : MarkedNode) → found_behind (path ++ at ∷ []) one ≡
        option_and_then (λ one. found one.value at) (found_behind path one)) →
        option_and_then (found_behind (path ++ at ∷ [])) one ≡
        option_and_then (λ one. found one.value at) (option_and_then (found_behind path) one)
    by None longer = refl
    by (Some one) longer = longer one

in_null : (at : Value) → found Null at ≡ None
in_null at =
    let opened : out-Value Null ≡ layer.Null = search (rules, the_lemmas) in
    ap (λ value. found_in value at) opened

looked_up_found :
    (here : Origin) (found : Option MarkedNode) →
    Ok (unwrap_or found (made here Null)) ≡ parted here (part_of (Some found))
looked_up_found here None = refl
looked_up_found here (Some node) = refl

indexed_found :
    (here : Origin) (at : MarkedNode) (one : Option MarkedNode) →
    indexed here (parted here (part_of (Some one))) (Ok at) ≡
    parted here (part_of (Some (option_and_then (λ one. found one.value at.value) one)))
indexed_found here at None = ap (λ found. Ok (unwrap_or found (made here Null))) (in_null at.value)
indexed_found here at (Some one) = looked_up_found here (found one.value at.value)

-- an index behind a path
pub longer :
    (here : Origin) (root : Option MarkedNode) (path : List Value) (at : MarkedNode) →
    indexed here (parted here (part_of (option_map (found_behind path) root))) (Ok at) ≡
    parted here (part_of (option_map (found_behind (path ++ at.value ∷ [])) root))
longer here None path at = refl
longer here (Some node) path at =
    indexed_found here at (found_behind path node)
    ∙ ap (λ found. parted here (part_of (Some found))) (sym (behind_longer path at.value node))
