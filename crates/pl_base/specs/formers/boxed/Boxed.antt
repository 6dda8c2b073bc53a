-- How a `Boxed` holds its value, so that a type may lead back to itself through one.
use mathlib.Core.Path.{refl}
use mathlib.Core.Former.{Former, this, const, pair, via}
use base.Stored.{gnil}
use base.Fml.{ftrue}
use denote.RattleType.{RattleType}
use denote.Memory.{part_of}
use denote.RawPtr.{Ptr}
use denote.Sharing.{nothing}
use denote.HoleLaws.{Alike}
use denote.HolePlaces.{Recodes, struct_places, laid, one_value}
use denote.Hole.Fix.{over}
use denote.Param.Weighed.{Weighed}
use denote.Model.Placed.{view_places}
use Rattle.std.specs.declared.boxed.Box.{Box}
use Rattle.std.specs.contracts.boxed.Box as box
use Rattle.std.specs.declared.alloc.Global.{Global}
use Rattle.std.specs.contracts.alloc.Global as heap
use Rattle.std.specs.contracts.impls.GlobalAllocator.TheImpl.{ghosts}
use Rattle.pl_base.specs.declared.boxed.Boxed.TheInside.{Inside}
use Rattle.pl_base.specs.declared.boxed.Boxed.TheView.{view, invariant}
use Rattle.pl_base.specs.contracts.boxed.Boxed as outer
use Rattle.pl_base.specs.contracts.boxed.Boxed.TheInside as inner

-- it holds one value
abbrev pub the_former : Former {0} → Former {0}
the_former held = held

-- and is as deep as that
abbrev pub the_weighed : {held : Former {0}} → Weighed held → Weighed (the_former held)
the_weighed weighed = weighed

-- the box is a pointer, an allocator and the value
abbrev box_fields : Former {0}
box_fields = via (pair (const (Ptr × Global)) this) Inside
    (λ X fields. ((fields.place.ptr, fields.place.alloc), fields.place.value))
    (λ X parts. record { place = record { ptr = parts.0.0; alloc = parts.0.1; value = parts.1 } })
    (λ X fields. refl) (λ X parts. refl)

-- the box with another value
abbrev revalued : {X Y : Type 0} → Box X Global → Y → Box Y Global
revalued old value = record { ptr = old.ptr; alloc = old.alloc; value = value }

abbrev box_row : RattleType → RattleType
box_row R = box.the_row R heap.the_row ghosts

module _ (R S : RattleType) (h : R.Denot → S.Denot) where
  one_box : Alike R S h → Alike (box_row R) (box_row S) (λ b. revalued b (h b.value))
  unfolding part_of
  one_box alike = record {
    mir_same =
        λ i. (box_row (one_value R (alike.mir_same i) (λ _. ftrue) (λ _ _. nothing) gnil)).mir;
    own_same =
        λ b i.
        (box_row (one_value R (alike.mir_same i) (alike.own_same b.value i)
        (alike.shr_same b.value i) gnil)).own_val (revalued b tt);
    shr_same =
        λ b i.
        (box_row (one_value R (alike.mir_same i) (alike.own_same b.value i)
        (alike.shr_same b.value i) gnil)).shr_at (revalued b tt);
  }

  pub the_places :
      Alike R S h →
      Alike (outer.the_row R) (outer.the_row S) ((the_former this).map R.Denot S.Denot h)
  the_places alike = view_places box_fields this view (λ X Y k u. refl) (λ X u. refl) R.Denot
      S.Denot h
      (outer.the_row R).coded (outer.the_row S).coded
      (invariant R.Denot) (invariant S.Denot) (λ u p q. refl) (λ u p q. refl) (λ u e. tt)
      (λ u e. tt)
      (over (inner.the_row R)) (over (inner.the_row S))
      (struct_places (inner.the_type R) (inner.the_type S) ((λ b. revalued b (h b.value)), tt) _
      (λ d. refl) refl
      (laid _ _ _ (one_box alike), tt))

  pub the_codes_placed :
      Recodes R S h →
      Recodes (outer.the_row R) (outer.the_row S) ((the_former this).map R.Denot S.Denot h)
  the_codes_placed recodes = recodes
