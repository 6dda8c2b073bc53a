-- Outputs under their keys.
use Rattle.std.proofs.Common.{◌≡◌, ℕ, zero, suc, ◌+◌, ◌<◌, ◌≤◌, ◌⊎◌, inl, inr, Bool, true, false}
use Rattle.std.proofs.Common.{cond}
use Rattle.std.proofs.Common.{Option, Some, None, List, [], ◌∷◌, ◌++◌, length, take, drop, get_or}
use Rattle.std.proofs.Common.{map}
use Rattle.std.proofs.Common.{refl, ap, sym, ◌∙◌, arith}
use Rattle.std.specs.Prelude.{find, flat_map, nat_eq, ◌&&◌, unwrap_or}
use Rattle.std.specs.Option.{option_map, option_or, option_map_or}
use Rattle.std.specs.Char.{to_ascii_uppercase}
use Rattle.std.specs.Cmp.Lexicographic.{pointwise}
use Rattle.std.proofs.lemmas.Bool.{cases_Bool}
use Rattle.std.proofs.lemmas.Bool.Decides.{nat_tests}
use Rattle.std.proofs.lemmas.List.{at_drop_all, at_drop_more}
use Rattle.pl_base.specs.Folding.{folded}
use Rattle.pl_base.specs.declared.origin.Origin.{Origin}
use Rattle.pl_base.specs.declared.value.Value.{Value, Null, Str, Object}
use Rattle.pl_base.specs.declared.value.MarkedNode.{MarkedNode}
use Rattle.pl_base.specs.declared.value.MarkedPair.{MarkedPair}
use Rattle.pl_eval.specs.Known.{same_name}
use Rattle.pl_eval.specs.LookUps.{looked_up, made, property}
use Rattle.pl_eval.specs.Means.{answer}
use Rattle.pl_results.specs.declared.legs.Leg.{Leg}
use Rattle.pl_results.specs.Parts.{in_order}
use Rattle.pl_cond.specs.Objects.{output_pair, output_pairs, outputs_value}
use Rattle.pl_cond.specs.Paths.{behind, inside, named_output, output_in, output_of}
use Rattle.pl_cond.proofs.Inside.{goes_in, in_null, looked_in, property_made, text_is_atom}

-- ---- keys behind a prefix

abbrev same_if : Option (List ℕ) → List ℕ → Bool
same_if None name = false
same_if (Some rest) name = same_name rest name

both : (b c : Bool) → (b && c) ≡ cond b c false
both true c = refl
both false c = refl

same_under : (b : Bool) (rest : Option (List ℕ)) (name : List ℕ) →
    cond b (same_if rest name) false ≡ same_if (cond b rest None) name
same_under true rest name = refl
same_under false rest name = refl

same_behind : (prefix key name : List ℕ) → same_name key (prefix ++ name) ≡
    same_if (behind prefix key) name
same_behind [] key name = refl
same_behind (first ∷ prefix) [] name = refl
same_behind (first ∷ prefix) (byte ∷ key) name =
    both (nat_eq (to_ascii_uppercase first) (to_ascii_uppercase byte))
    (same_name key (prefix ++ name))
    ∙ ap (λ c. cond (nat_eq (to_ascii_uppercase first) (to_ascii_uppercase byte)) c false)
    (same_behind prefix key name)
    ∙ same_under (nat_eq (to_ascii_uppercase first) (to_ascii_uppercase byte)) (behind prefix key)
    name

find_alike : {X : Type 0} (p q : X → Bool) (xs : List X) → ((x : X) → p x ≡ q x) →
    find p xs ≡ find q xs
find_alike p q [] same = refl
find_alike p q (x ∷ xs) same =
    ap (λ b. cond b (Some x) (find p xs)) (same x)
    ∙ ap (λ rest. cond (q x) (Some x) rest) (find_alike p q xs same)

find_nothing : {X : Type 0} (xs : List X) → find (λ x. false) xs ≡ None
find_nothing [] = refl
find_nothing (x ∷ xs) = find_nothing xs

-- the output of a leg, where the key begins with the leg's prefix
pub output_behind : (leg : Leg) (key rest : List ℕ) (outputs : List (List ℕ × List ℕ)) →
    Some rest ≡ behind leg.prefix key → outputs ≡ in_order leg.outputs →
    named_output outputs rest ≡ output_in leg key
output_behind leg key rest outputs is kept =
    ap (λ some. named_output some rest) kept
    ∙ ap (option_map (λ (output : List ℕ × List ℕ). output.1))
    (sym (find_alike (λ (output : List ℕ × List ℕ). same_name key (leg.prefix ++ output.0))
    (λ (output : List ℕ × List ℕ). same_name rest output.0) (in_order leg.outputs)
    (λ (output : List ℕ × List ℕ). same_behind leg.prefix key output.0
    ∙ ap (λ o. same_if o output.0) (sym is))))

pub no_output_behind : (leg : Leg) (key : List ℕ) → None ≡ behind leg.prefix key →
    None ≡ output_in leg key
no_output_behind leg key none =
    sym (ap (option_map (λ (output : List ℕ × List ℕ). output.1))
    (find_alike (λ (output : List ℕ × List ℕ). same_name key (leg.prefix ++ output.0))
    (λ (output : List ℕ × List ℕ). false)
    (in_order leg.outputs)
    (λ (output : List ℕ × List ℕ). same_behind leg.prefix key output.0 ∙
    ap (λ o. same_if o output.0) (sym none))
    ∙ find_nothing (in_order leg.outputs)))

-- ---- the test for a prefix

pub behind_short : (prefix key : List ℕ) → length key < length prefix → None ≡ behind prefix key
behind_short [] key short = absurd (omega (arith, short))
behind_short (first ∷ prefix) [] short = refl
behind_short (first ∷ prefix) (byte ∷ key) short =
    by (nat_eq (to_ascii_uppercase first) (to_ascii_uppercase byte))
    (behind_short prefix key (omega (arith, short)))
  where
    by : (b : Bool) → None ≡ behind prefix key → None ≡ cond b (behind prefix key) None
    by true none = none
    by false none = refl

-- by whether the front of the key is the prefix
behind_by : (prefix key : List ℕ) → length prefix ≤ length key → behind prefix key ≡
    cond (pointwise nat_eq (folded prefix) (folded (take (length prefix) key)))
    (Some (drop (length prefix) key)) None
behind_by [] key long = refl
behind_by (first ∷ prefix) [] long = absurd (omega (arith, long))
behind_by (first ∷ prefix) (byte ∷ key) long =
    ap (λ rest. cond (nat_eq (to_ascii_uppercase first) (to_ascii_uppercase byte)) rest None)
    (behind_by prefix key (omega (arith, long)))
    ∙ nested (nat_eq (to_ascii_uppercase first) (to_ascii_uppercase byte))
    (pointwise nat_eq (folded prefix) (folded (take (length prefix) key)))
    (Some (drop (length prefix) key)) None
  where
    nested : (b c : Bool) (x y : Option (List ℕ)) → cond b (cond c x y) y ≡ cond (b && c) x y
    nested true c x y = refl
    nested false c x y = refl

pub behind_same : (prefix key : List ℕ) → length prefix ≤ length key →
    pointwise nat_eq (folded prefix) (folded (take (length prefix) key)) ≡ true →
    Some (drop (length prefix) key) ≡ behind prefix key
behind_same prefix key long same =
    sym (behind_by prefix key long
    ∙ ap (λ b. cond b (Some (drop (length prefix) key)) None) same)

pub behind_other : (prefix key : List ℕ) → length prefix ≤ length key →
    pointwise nat_eq (folded prefix) (folded (take (length prefix) key)) ≡ false →
    None ≡ behind prefix key
behind_other prefix key long other =
    sym (behind_by prefix key long
    ∙ ap (λ b. cond b (Some (drop (length prefix) key)) None) other)

-- ---- the outputs of several legs

property_append : (xs ys : List MarkedPair) (key : List ℕ) →
    property (xs ++ ys) key ≡ option_or (property xs key) (property ys key)
property_append [] ys key = refl
property_append (x ∷ xs) ys key = by (same_name key x.key) (property_append xs ys key)
  where
    by : (b : Bool) → property (xs ++ ys) key ≡ option_or (property xs key) (property ys key) →
        option_map (λ (pair : MarkedPair). pair.item)
        (cond b (Some x) (find (λ (pair : MarkedPair). same_name key pair.key) (xs ++ ys))) ≡
        option_or (option_map (λ (pair : MarkedPair). pair.item)
        (cond b (Some x) (find (λ (pair : MarkedPair). same_name key pair.key) xs)))
        (property ys key)
    by true later = refl
    by false later = later

abbrev pub text_node : Origin → List ℕ → MarkedNode
text_node here text = made here (Str text)

out_of_two : (here : Origin) (first second : Option (List ℕ)) →
    option_or (option_map (text_node here) first) (option_map (text_node here) second) ≡
    option_map (text_node here) (option_or first second)
out_of_two here None second = refl
out_of_two here (Some text) second = refl

map_twice : (here : Origin) (found : Option (List ℕ × List ℕ)) →
    option_map (λ (output : List ℕ × List ℕ). made here (Str output.1)) found ≡
    option_map (text_node here) (option_map (λ (output : List ℕ × List ℕ). output.1) found)
map_twice here None = refl
map_twice here (Some output) = refl

pub output_property : (here : Origin) (legs : List Leg) (key : List ℕ) →
    property (flat_map (output_pairs here) legs) key ≡
    option_map (text_node here) (output_of legs key)
output_property here [] key = refl
output_property here (leg ∷ legs) key =
    property_append (output_pairs here leg) (flat_map (output_pairs here) legs) key
    ∙ ap (λ o. option_or o (property (flat_map (output_pairs here) legs) key))
    (property_made here (λ (output : List ℕ × List ℕ). leg.prefix ++ output.0)
    (λ (output : List ℕ × List ℕ). Str output.1) (in_order leg.outputs) key
    ∙ map_twice here (find (λ (output : List ℕ × List ℕ). same_name key (leg.prefix ++ output.0))
    (in_order leg.outputs)))
    ∙ ap (option_or (option_map (text_node here) (output_in leg key)))
    (output_property here legs key)
    ∙ out_of_two here (output_in leg key) (output_of legs key)

outputs_looked : (here : Origin) (legs : List Leg) (key : List ℕ) →
    looked_up here (outputs_value here legs) (Str key) ≡
    made here (option_map_or (λ text. Str text) (output_of legs key) Null)
outputs_looked here legs key =
    looked_in here (flat_map (output_pairs here) legs) key
    ∙ ap (λ node. unwrap_or node (made here Null)) (output_property here legs key)
    ∙ by (output_of legs key)
  where
    by : (text : Option (List ℕ)) →
        unwrap_or (option_map (text_node here) text) (made here Null) ≡
        made here (option_map_or (λ text. Str text) text Null)
    by None = refl
    by (Some text) = refl

pub output_there : (here : Origin) (legs : List Leg) (key : List ℕ) (names : List (List ℕ))
    (text : List ℕ) (result : Value) → Some text ≡ output_of legs key →
    inside here (Str text) names ≡ answer here result →
    inside here (outputs_value here legs) (key ∷ names) ≡ answer here result
output_there here legs key names text result is rest =
    goes_in here (outputs_value here legs) (Str text) key names
    (outputs_looked here legs key
    ∙ ap (λ o. made here (option_map_or (λ text. Str text) o Null)) (sym is))
    ∙ rest

pub output_nowhere : (here : Origin) (legs : List Leg) (key : List ℕ) (names : List (List ℕ)) →
    None ≡ output_of legs key →
    inside here (outputs_value here legs) (key ∷ names) ≡ answer here Null
output_nowhere here legs key names none =
    goes_in here (outputs_value here legs) Null key names
    (outputs_looked here legs key
    ∙ ap (λ o. made here (option_map_or (λ text. Str text) o Null)) (sym none))
    ∙ in_null here names

-- ---- a turn of the loop over legs

pub leg_passed : (legs : List Leg) (key : List ℕ) (at : ℕ) (leg : Leg) → at < length legs →
    leg ≡ get_or legs at leg → None ≡ output_in leg key →
    output_of legs key ≡ output_of (drop at legs) key →
    output_of legs key ≡ output_of (drop (at + 1) legs) key
leg_passed legs key at leg within is none walked =
    walked ∙ at_drop_more (λ rest. output_of rest key) legs at leg within
    ∙ ap (λ one. option_or (output_in one key) (output_of (drop (at + 1) legs) key)) (sym is)
    ∙ ap (λ o. option_or o (output_of (drop (at + 1) legs) key)) (sym none)

pub leg_found : (legs : List Leg) (key : List ℕ) (at : ℕ) (leg : Leg) (text : List ℕ) →
    at < length legs → leg ≡ get_or legs at leg → Some text ≡ output_in leg key →
    output_of legs key ≡ output_of (drop at legs) key → Some text ≡ output_of legs key
leg_found legs key at leg text within is found walked =
    sym (walked ∙ at_drop_more (λ rest. output_of rest key) legs at leg within
    ∙ ap (λ one. option_or (output_in one key) (output_of (drop (at + 1) legs) key)) (sym is)
    ∙ ap (λ o. option_or o (output_of (drop (at + 1) legs) key)) (sym found))
