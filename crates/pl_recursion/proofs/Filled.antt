-- The manner of a mapping that has a key.
use Rattle.std.proofs.Common.{◌≡◌, ℕ, Bool, false, ◌&&◌, List, [], ◌∷◌, map, Some, None, refl, ap}
use Rattle.std.proofs.Common.{sym, ◌∙◌, rules}
use Rattle.std.proofs.lemmas.Bool.{or_parts}
use Rattle.std.specs.Prelude.{if◌then◌else◌}
use Rattle.std.specs.List.{list_all, list_any}
use Rattle.pl_base.specs.declared.node.Node.{Node}
use Rattle.pl_base.specs.declared.node.NodeBody.{the_lemmas}
use Rattle.pl_base.specs.declared.node.NodePair.{NodePair}
use Rattle.pl_base.specs.declared.place.Place.{Place}
use Rattle.pl_template.specs.Cutting.{holds_opening}
use Rattle.pl_template.specs.Forms.{form_of}
use Rattle.pl_template.specs.Keys.{form_of_key}
use Rattle.pl_template.specs.declared.forms.ScalarForm.{ScalarForm}
use Rattle.pl_template.specs.declared.forms.ScalarForm.TheVariants.{Plain}
use Rattle.pl_directives.specs.declared.manner.Manner.TheVariants.{Stays}
use Rattle.pl_directives.specs.Manners.{Facet, is_directive, is_insert, is_unclosed, first_kind}
use Rattle.pl_directives.specs.Manners.{first_other, first_unclosed, spliced_by, filled_by}
use Rattle.pl_directives.specs.Manners.{filled_manner, manner_of}
use Rattle.pl_recursion.specs.Expanding.{entry_of, facet_of}

abbrev facets : List NodePair → List Facet
facets pairs = map facet_of (map entry_of pairs)

pub manner_filled :
    (pairs : List NodePair) → (pairs ≡ [] → ⊥) → manner_of (facets pairs) ≡ filled_manner (facets pairs)
manner_filled [] filled = absurd (filled refl)
manner_filled (pair ∷ pairs) filled = refl

-- ---- no expression begins in a key

abbrev begin : List NodePair → Bool
begin pairs = list_any (λ pair. holds_opening pair.key) pairs

key_is :
    (key : List ℕ) (key_place : Place) (item : Node) →
    (facet_of (entry_of (record { key = key; key_place = key_place; item = item }))).key
    ≡ form_of key
key_is key key_place item = search (rules, the_lemmas)

plain : (text : List ℕ) → holds_opening text ≡ false → form_of text ≡ Plain
plain text none = rw none refl

plain_key :
    (pair : NodePair) → holds_opening pair.key ≡ false → (facet_of (entry_of pair)).key ≡ Plain
plain_key pair none =
    key_is pair.key pair.key_place pair.item ∙ plain pair.key none

none_unclosed :
    (pairs : List NodePair) → begin pairs ≡ false → first_unclosed (facets pairs) ≡ None
none_unclosed [] none = refl
none_unclosed (pair ∷ pairs) none =
    let parts = or_parts (holds_opening pair.key) (begin pairs) none in
    ap (λ (form : ScalarForm). if is_unclosed form then Some (facet_of (entry_of pair)).key_place
    else first_unclosed (facets pairs)) (plain_key pair parts.0)
    ∙ none_unclosed pairs parts.1

pub manner_stays :
    (pairs : List NodePair) → (pairs ≡ [] → ⊥) → begin pairs ≡ false →
    Stays ≡ manner_of (facets pairs)
manner_stays [] filled none = absurd (filled refl)
manner_stays (pair ∷ pairs) filled none =
    let parts = or_parts (holds_opening pair.key) (begin pairs) none in
    let all = facets (pair ∷ pairs) in
    sym (ap (λ first. filled_by first all) (none_unclosed (pair ∷ pairs) none)
    ∙ ap (λ (form : ScalarForm).
    if is_directive (form_of_key form)
    && list_all (λ one. is_directive (form_of_key one.key)) (facets pairs)
    then spliced_by (list_any (λ one. is_insert (form_of_key one.key)) all) (first_kind all)
    (first_other (first_kind all) all)
    else Stays) (plain_key pair parts.0))
