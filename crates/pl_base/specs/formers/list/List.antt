-- How a `List` holds its items, so that a type may lead back to itself through one.
use mathlib.Core.Path.{◌≡◌, refl, sym}
use mathlib.Core.List.{List as list, []}
use mathlib.Core.Former.{Former, this, list as list_of, via, children}
use base.Stored.{code_map}
use denote.RattleType.{RattleType}
use denote.HoleLaws.{Alike}
use denote.HolePlaces.{Recodes, struct_places, laid}
use denote.Hole.Carrier.{listed, list-listed}
use denote.Hole.Fix.{over}
use denote.Param.Weighed.{Weighed, w_list}
use denote.Model.Placed.{view_places}
use Rattle.std.specs.formers.vec.Vec as vec
use Rattle.std.specs.declared.alloc.Global.{Global}
use Rattle.std.specs.contracts.alloc.Global as heap
use Rattle.std.specs.contracts.impls.GlobalAllocator.TheImpl.{ghosts}
use Rattle.pl_base.specs.declared.list.List.TheInside.{Inside}
use Rattle.pl_base.specs.declared.list.List.TheView.{view, invariant}
use Rattle.pl_base.specs.contracts.list.List as outer
use Rattle.pl_base.specs.contracts.list.List.TheInside as inner

-- it holds a list of values
abbrev pub the_former : Former {0} → Former {0}
the_former held = list_of held

-- and is as deep as the deepest
abbrev pub the_weighed : {held : Former {0}} → Weighed held → Weighed (the_former held)
the_weighed weighed = w_list weighed

pub the_empty : list ⊥
the_empty = []

-- in order, the items themselves
abbrev pub the_items : (X : Type 0) → list X → list X
the_items X items = items

pub the_items_listed :
    (X : Type 0) (items : list X) →
    listed _ (children (the_former this) X items) ≡ the_items X items
the_items_listed X items = list-listed X items

abbrev vec_fields : Former {0}
vec_fields = via (vec.the_former this Global) Inside (λ X fields. fields.items)
    (λ X items. record { items = items }) (λ X fields. refl) (λ X items. refl)

module _ (R S : RattleType) (h : R.Denot → S.Denot) where
  pub the_places :
      Alike R S h →
      Alike (outer.the_row R) (outer.the_row S) ((the_former this).map R.Denot S.Denot h)
  the_places alike = view_places vec_fields (list_of this) view (λ X Y k u. refl) (λ X u. refl)
      R.Denot S.Denot h
      (outer.the_row R).coded (outer.the_row S).coded
      (invariant R.Denot) (invariant S.Denot) (λ u p q. refl) (λ u p q. refl) (λ u e. tt)
      (λ u e. tt)
      (over (inner.the_row R)) (over (inner.the_row S))
      (struct_places (inner.the_type R) (inner.the_type S) (vec.mapped h, tt) _ (λ items. refl) refl
      (laid _ _ _ (vec.the_places heap.the_row ghosts R S h alike), tt))

  pub the_codes_placed :
      Recodes R S h →
      Recodes (outer.the_row R) (outer.the_row S) ((the_former this).map R.Denot S.Denot h)
  the_codes_placed recodes items = sym (code_map R.coded.code S.coded.code h (λ x. sym (recodes x))
      items)
