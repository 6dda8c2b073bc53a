-- Trees level by level, and lists that grow at their end.
use Rattle.std.proofs.Common.{◌≡◌, ℕ, zero, suc, ◌<◌, ◌≤◌, Bool, true, false, cond, List, []}
use Rattle.std.proofs.Common.{◌∷◌, ◌++◌, length, get_or, Option, Some, None, refl, ap, ◌∙◌}
use Rattle.std.proofs.Common.{option_map, arith, rules, Bor, Global, Vec}
use Rattle.std.specs.Str.{bytes_eq}
use Rattle.std.proofs.lemmas.List.{length-append}
use Rattle.json.specs.Find.{get_member, later_or}
use Rattle.json.specs.Json.{Json, array, object, string, Items, no_items, item, Members, no_members}
use Rattle.json.specs.Json.{member, parse_map}
use Rattle.json.specs.Token.{Token}
use Rattle.json.specs.Tree.{json_tokens, items_tokens, members_tokens}
use Rattle.json.specs.Value.{items_of}
use Rattle.pl_trees.specs.Trees.{data_of, items_in_range}
use Rattle.pl_trees.specs.Views.{items_view, items_with, list_view, members_view, tree_view}
use Rattle.pl_trees.specs.declared.tree.Tree.{Tree, List as TheList, Object, the_lemmas}

-- ---- one level

pub view_list :
    (texts : Vec (Bor (List ℕ)) Global) (rest : Vec Tree Global) →
    tree_view (TheList texts rest) ≡ array (items_view texts.items rest.items)
view_list texts rest = search (rules, the_lemmas)

pub view_object :
    (members : Vec (Bor (List ℕ) × Tree) Global) →
    tree_view (Object members) ≡ object (members_view members.items)
view_object members = search (rules, the_lemmas)

-- ---- data of what is found

pub seen_found :
    (o : Option (Bor Tree)) →
    option_map (λ value. data_of (tree_view value.now)) o
    ≡ option_map data_of (option_map (λ value. tree_view value.now) o)
seen_found None = refl
seen_found (Some value) = refl

-- ---- a list's items, one more

pub one_text :
    (texts : List (Bor (List ℕ))) (text : Bor (List ℕ)) →
    list_view (texts ++ text ∷ []) [] ≡ list_view texts [] ++ string text.now ∷ []
one_text [] text = refl
one_text (first ∷ more) text = ap (λ js. string first.now ∷ js) (one_text more text)

pub one_item :
    (texts : List (Bor (List ℕ))) (rest : List Tree) (last : Tree) →
    list_view texts (rest ++ last ∷ []) ≡ list_view texts rest ++ tree_view last ∷ []
one_item [] [] last = refl
one_item [] (first ∷ more) last = ap (λ js. tree_view first ∷ js) (one_item [] more last)
one_item (first ∷ more) rest last = ap (λ js. string first.now ∷ js) (one_item more rest last)

-- ---- items in front of others

abbrev pub before : List Json → Items → Items
before [] rest = rest
before (j ∷ js) rest = item j (before js rest)

pub before_none : (js : List Json) → before js no_items ≡ items_of js
before_none [] = refl
before_none (j ∷ js) = ap (item j) (before_none js)

push : (js : List Json) (j : Json) (rest : Items) →
    before js (item j rest) ≡ before (js ++ j ∷ []) rest
push [] j rest = refl
push (k ∷ js) j rest = ap (item k) (push js j rest)

pub one_more :
    (js : List Json) (j : Json) (r : Option (Items × List Token)) →
    parse_map (before js) (parse_map (item j) r) ≡ parse_map (before (js ++ j ∷ [])) r
one_more js j None = refl
one_more js j (Some p) = ap (λ items. Some (items, p.1)) (push js j p.0)

pub none_before : {A : Type 0} (r : Option (A × List Token)) → r ≡ parse_map (λ a. a) r
none_before None = refl
none_before (Some p) = refl

-- ---- members in front of others

abbrev pub members_before : List (Bor (List ℕ) × Tree) → Members → Members
members_before [] rest = rest
members_before (m ∷ ms) rest = member m.0.now (tree_view m.1) (members_before ms rest)

pub members_before_none :
    (ms : List (Bor (List ℕ) × Tree)) → members_before ms no_members ≡ members_view ms
members_before_none [] = refl
members_before_none (m ∷ ms) = ap (member m.0.now (tree_view m.1)) (members_before_none ms)

push_member :
    (ms : List (Bor (List ℕ) × Tree)) (m : Bor (List ℕ) × Tree) (rest : Members) →
    members_before ms (member m.0.now (tree_view m.1) rest) ≡ members_before (ms ++ m ∷ []) rest
push_member [] m rest = refl
push_member (n ∷ ms) m rest = ap (member n.0.now (tree_view n.1)) (push_member ms m rest)

pub one_more_member :
    (ms : List (Bor (List ℕ) × Tree)) (m : Bor (List ℕ) × Tree)
    (r : Option (Members × List Token)) →
    parse_map (members_before ms) (parse_map (member m.0.now (tree_view m.1)) r)
    ≡ parse_map (members_before (ms ++ m ∷ [])) r
one_more_member ms m None = refl
one_more_member ms m (Some p) = ap (λ found. Some (found, p.1)) (push_member ms m p.0)

-- ---- the last member of a name

latest :
    (b : Bool) (j : Json) (o p : Option Json) →
    later_or (cond b (Some j) o) p ≡ cond b (Some j) (later_or o p)
latest true j o p = refl
latest false j o p = refl

pub get_member-push :
    (name : List ℕ) (ms : List (Bor (List ℕ) × Tree)) (m : Bor (List ℕ) × Tree) →
    get_member name (members_view (ms ++ m ∷ []))
    ≡ cond (bytes_eq m.0.now name) (Some (tree_view m.1)) (get_member name (members_view ms))
get_member-push name [] m = refl
get_member-push name (n ∷ ms) m =
    ap (λ o. later_or o (cond (bytes_eq n.0.now name) (Some (tree_view n.1)) None))
    (get_member-push name ms m)
    ∙ latest (bytes_eq m.0.now name) (tree_view m.1) _ _

-- ---- numbers and measures

pub texts_in_range :
    (texts : List (Bor (List ℕ))) (js : List Json) →
    items_in_range (items_of (items_with texts js)) ≡ items_in_range (items_of js)
texts_in_range [] js = refl
texts_in_range (text ∷ more) js = texts_in_range more js

pub rest_smaller :
    (texts : List (Bor (List ℕ))) (js : List Json) →
    length (items_tokens (items_of js)) ≤ length (items_tokens (items_of (items_with texts js)))
rest_smaller [] js = omega arith
rest_smaller (text ∷ more) js = omega (arith, rest_smaller more js)

closes : (js : Items) → 0 < length (items_tokens js)
closes no_items = omega arith
closes (item j js) =
    omega (arith, length-append (json_tokens j) (items_tokens js), closes js)

pub item_smaller :
    (vs : List Tree) (i : ℕ) (d : Tree) → i < length vs →
    length (json_tokens (tree_view (get_or vs i d))) < length (items_tokens (items_view [] vs))
item_smaller [] i d h = absurd (omega arith)
item_smaller (v ∷ vs) zero d h =
    omega (
      arith,
      length-append (json_tokens (tree_view v)) (items_tokens (items_view [] vs)),
      closes (items_view [] vs),
    )
item_smaller (v ∷ vs) (suc i) d h =
    omega (
      arith,
      length-append (json_tokens (tree_view v)) (items_tokens (items_view [] vs)),
      item_smaller vs i d (omega arith),
    )

pub member_smaller :
    (ms : List (Bor (List ℕ) × Tree)) (i : ℕ) (d : Bor (List ℕ) × Tree) → i < length ms →
    length (json_tokens (tree_view (get_or ms i d).1)) < length (members_tokens (members_view ms))
member_smaller [] i d h = absurd (omega arith)
member_smaller (m ∷ ms) zero d h =
    omega (
      arith,
      length-append (json_tokens (tree_view m.1)) (members_tokens (members_view ms)),
    )
member_smaller (m ∷ ms) (suc i) d h =
    omega (
      arith,
      length-append (json_tokens (tree_view m.1)) (members_tokens (members_view ms)),
      member_smaller ms i d (omega arith),
    )
