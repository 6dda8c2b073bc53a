-- How `Members` hold their values, so that a type may lead back to itself through them.
use mathlib.Core.Path.{◌≡◌, refl, sym, ap, ◌∙◌}
use mathlib.Core.List.{List as list, [], ◌∷◌, map}
use mathlib.Core.Former.{Former, this, const, pair, list as list_of, via, children}
use base.Stored.{code_map, gcons, coded_list, coded_ℕ}
use mathlib.Core.Bool.{true, Bool-set}
use denote.RattleType.{RattleType}
use denote.HoleLaws.{Alike}
use denote.HolePlaces.{Recodes, struct_places, laid}
use denote.Hole.Carrier.{listed}
use denote.Hole.Fix.{over}
use denote.Param.Weighed.{Weighed, w_list, w_via, w_pair, w_const}
use denote.Model.Placed.{view_places}
use Rattle.pl_base.specs.formers.list.List as lists
use Rattle.pl_json.specs.Members.{coded_member, is_in_order, names_of}
use Rattle.pl_json.specs.declared.members.Member.{Member}
use Rattle.pl_json.specs.declared.members.Members.TheInside.{Inside}
use Rattle.pl_json.specs.declared.members.Members.TheView.{view, invariant}
use Rattle.pl_json.specs.contracts.members.Member as one
use Rattle.pl_json.specs.contracts.members.Members as outer
use Rattle.pl_json.specs.contracts.members.Members.TheInside as inner
use Prim.Native.Nat.{ℕ}

-- a member is its name beside its value
abbrev member_of : Former {0} → Former {0}
member_of held =
    via (pair (const (list ℕ)) held) (λ X. Member (held.Of X)) (λ X m. (m.name, m.value))
    (λ X v. record { name = v.0; value = v.1 }) (λ X m. refl) (λ X v. refl)

-- they hold a list of values, each beside its name
abbrev pub the_former : Former {0} → Former {0}
the_former held = list_of (member_of held)

-- and are as deep as the deepest
abbrev pub the_weighed : {held : Former {0}} → Weighed held → Weighed (the_former held)
the_weighed {held} weighed = w_list (w_via (w_pair (w_const (list ℕ)) weighed)
    (λ X. Member (held.Of X)) (λ X m. (m.name, m.value))
    (λ X v. record { name = v.0; value = v.1 }) (λ X m. refl) (λ X v. refl))

pub the_empty : list (Member ⊥)
the_empty = []

abbrev pub the_items : (X : Type 0) → list (Member X) → list X
the_items X members = map (λ member. member.value) members

pub the_items_listed :
    (X : Type 0) (members : list (Member X)) →
    listed _ (children (the_former this) X members) ≡ the_items X members
the_items_listed X [] = refl
the_items_listed X (member ∷ members) =
    ap (λ l. member.value ∷ l) (the_items_listed X members)

abbrev fields : Former {0}
fields = via (the_former this) Inside (λ X fields. fields.members)
    (λ X members. record { members = members }) (λ X fields. refl) (λ X members. refl)

-- a member with another value
abbrev revalued : {X Y : Type 0} → (X → Y) → Member X → Member Y
revalued h member = record { name = member.name; value = h member.value }

same_names :
    {X Y : Type 0} (h : X → Y) (members : list (Member X)) →
    names_of (map (revalued h) members) ≡ names_of members
same_names h [] = refl
same_names h (member ∷ members) = ap (λ l. member.name ∷ l) (same_names h members)

module _ (R S : RattleType) (h : R.Denot → S.Denot) where
  one_member : Alike R S h → Alike (one.the_row R) (one.the_row S) (revalued h)
  one_member alike =
      struct_places (one.the_type R) (one.the_type S) ((λ n. n), (h, tt)) (revalued h) (λ d. refl)
      refl ((refl, (λ n. refl, λ n. refl)), (laid _ _ _ alike, tt))

  in_order_kept :
      (members : list (Member R.Denot)) →
      is_in_order (names_of members) ≡ true →
      is_in_order (names_of (map (revalued h) members)) ≡ true
  in_order_kept members e = ap is_in_order (same_names h members) ∙ e

  in_order_back :
      (members : list (Member R.Denot)) →
      is_in_order (names_of (map (revalued h) members)) ≡ true →
      is_in_order (names_of members) ≡ true
  in_order_back members e = sym (ap is_in_order (same_names h members)) ∙ e

  pub the_places :
      Alike R S h →
      Alike (outer.the_row R) (outer.the_row S) ((the_former this).map R.Denot S.Denot h)
  the_places alike = view_places fields (the_former this) view (λ X Y k u. refl) (λ X u. refl)
      R.Denot S.Denot h
      (outer.the_row R).coded (outer.the_row S).coded
      (invariant R.Denot) (invariant S.Denot) (λ u p q. Bool-set _ _ p q)
      (λ u p q. Bool-set _ _ p q)
      (λ u e. in_order_kept u.members e) (λ u e. in_order_back u.members e)
      (over (inner.the_row R)) (over (inner.the_row S))
      (struct_places (inner.the_type R) (inner.the_type S) (map (revalued h), tt) _
      (λ members. refl) refl (
        laid _ _ _ (lists.the_places (one.the_row R) (one.the_row S) (revalued h)
            (one_member alike)),
        tt,
      ))

  pub the_codes_placed :
      Recodes R S h →
      Recodes (outer.the_row R) (outer.the_row S) ((the_former this).map R.Denot S.Denot h)
  the_codes_placed recodes members = sym (code_map (coded_member R.coded).code
      (coded_member S.coded).code (revalued h)
      (λ member i. gcons ((coded_list coded_ℕ).code member.name) (sym (recodes member.value) i))
      members)
