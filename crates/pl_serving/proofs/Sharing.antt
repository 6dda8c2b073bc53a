-- Handles of a door that couldn't be shared in four are ended.
use Rattle.std.proofs.Common.{◌≡◌, ◌∙◌, ◌+◌, ℕ, List, [], ◌∷◌, Err, refl, sym, subst, ap, inr}
use Rattle.std.proofs.Common.{length, nat_lt}
use Rattle.std.specs.List.{AllByRecursion}
use Rattle.pl_base.specs.Counts.{one_more}
use Rattle.pl_base.specs.declared.sink.Sink as the_sink
use Rattle.pl_base.specs.declared.source.Source as the_source
use Rattle.pl_listener.specs.Handles.{Handle, Shares, another}
use Rattle.pl_listener.specs.declared.fault.ListenFault.{ListenFault}
use Rattle.pl_listener.specs.declared.fault.ListenFault.TheVariants as fault
use Rattle.pl_outfit.specs.Doors.{Doors, IsNew, ended, opened_at, with_one_more}
use Rattle.pl_outfit.specs.Outfit.{TellsOfDoor, View, outside}
use Rattle.pl_outfit.specs.Outside.{Outside}
use Rattle.pl_outfit.specs.Stores.{one_more_if}
use Rattle.pl_serving.specs.Doors.{HasNoDoors, OpensFor, all_ended, counted, opened_for}
use Rattle.pl_serving.specs.Doors.{with_door}

-- no link was given through it, and no call of it failed
pub record IsUnused (handle : Handle) : Type 0 where
  pub accepted : handle.accepted ≡ 0
  pub faults : handle.faults ≡ 0

pub shared : (one other : Handle) → other ≡ another one → IsUnused other
shared one other is = record {
  accepted = ap (λ h. h.accepted) is;
  faults = ap (λ h. h.faults) is;
}

none_given : (others : List Handle) → AllByRecursion IsUnused others
    → AllByRecursion (λ (handle : Handle). handle.accepted ≡ 0) others
none_given [] all = tt
none_given (other ∷ others) all = (all.0.accepted, none_given others all.1)

quiet : (others : List Handle) (doors : Doors) → AllByRecursion IsUnused others
    → (all_ended others doors).faults ≡ doors.faults
quiet [] doors all = refl
quiet (other ∷ others) doors all =
    quiet others (ended other doors) all.1
    ∙ ap (λ n. one_more_if (nat_lt 0 n) doors.faults) all.0.faults

module _ {S : Type 0} (tells : S → Handle) (old new : Handle) (is_new : IsNew old) where
  no_link : (why : ListenFault) → Shares tells old (Err why) new → new.accepted ≡ 0
  no_link fault.Failed is = ap (λ h. h.accepted) is ∙ is_new.accepted
  no_link fault.Memory is = ap (λ h. h.accepted) is ∙ is_new.accepted

  one_fault : (why : ListenFault) (count : ℕ) → Shares tells old (Err why) new
      → one_more_if (nat_lt 0 new.faults) count ≡ counted why count
  one_fault fault.Failed count is =
      ap (λ n. one_more_if (nat_lt 0 n) count)
      (ap (λ h. h.faults) is ∙ ap one_more is_new.faults)
  one_fault fault.Memory count is =
      ap (λ n. one_more_if (nat_lt 0 n) count) (ap (λ h. h.faults) is ∙ is_new.faults)

  pub shares_none : (address : List ℕ) (why : ListenFault) (before between after : Outside)
      (others : List Handle) → AllByRecursion IsUnused others → Shares tells old (Err why) new
      → OpensFor (length (new ∷ others)) address before between
      → after ≡ record between { doors = all_ended (new ∷ others) between.doors }
      → HasNoDoors address why before after
  shares_none address why before between after others unused is opens ends = (
    inr (record {
      handles = new ∷ others;
      none = (no_link why is, none_given others unused);
      is = all;
    }),
    ap (λ o. o.doors.faults) all
        ∙ quiet others (ended new (opened_for (length (new ∷ others)) address before.doors)) unused
        ∙ one_fault why before.doors.faults is,
  )
    where
      all : after ≡ with_door (before.lines.door address)
          (all_ended (new ∷ others) (opened_for (length (new ∷ others)) address before.doors))
          before
      all =
          ends ∙ ap (λ (o : Outside). let out : Outside =
          record o { doors = all_ended (new ∷ others) o.doors } in out) opens.is

module _ {In Out : Type 0} (reading : the_source.Ghosts In) (writing : the_sink.Ghosts Out) where
  pub opens_by : (address : List ℕ) (old new : View In Out)
      → TellsOfDoor (old.lines.door address) (opened_at address old.doors) old new
      → OpensFor 1 address (outside reading writing old) (outside reading writing new)
  opens_by address old new tells = record {
    is = ap (outside reading writing) tells;
  }

  -- where one more handle was given, and where none was
  pub opens_more : (count : ℕ) (address : List ℕ) (before : Outside) (old new : View In Out)
      → OpensFor count address before (outside reading writing old)
      → new ≡ record old { doors = with_one_more old.doors }
      → OpensFor (count + 1) address before (outside reading writing new)
  opens_more count address before old new opens is = record {
    is =
        ap (outside reading writing) is
        ∙ ap (λ (o : Outside). let out : Outside =
        record o { doors = with_one_more o.doors } in out) opens.is;
  }

  pub opens_as_many : (count : ℕ) (address : List ℕ) (before : Outside) (old new : View In Out)
      → OpensFor count address before (outside reading writing old) → new ≡ old
      → OpensFor count address before (outside reading writing new)
  opens_as_many count address before old new opens is =
      subst (λ (v : View In Out). OpensFor count address before (outside reading writing v))
      (sym is) opens

  -- handles that were ended, one behind the other
  pub ended_one : (first : Handle) (old new : View In Out)
      → new ≡ record old { doors = ended first old.doors }
      → outside reading writing new
      ≡ record (outside reading writing old) {
        doors = all_ended (first ∷ []) (outside reading writing old).doors;
      }
  ended_one first old new is = ap (outside reading writing) is

  pub ended_two : (first second : Handle) (old between new : View In Out)
      → between ≡ record old { doors = ended first old.doors }
      → new ≡ record between { doors = ended second between.doors }
      → outside reading writing new
      ≡ record (outside reading writing old) {
        doors = all_ended (first ∷ second ∷ []) (outside reading writing old).doors;
      }
  ended_two first second old between new one two =
      ap (outside reading writing)
      (two ∙ ap (λ (v : View In Out). let out : View In Out =
      record v { doors = ended second v.doors } in out) one)

  pub ended_three : (first second third : Handle) (old between more new : View In Out)
      → between ≡ record old { doors = ended first old.doors }
      → more ≡ record between { doors = ended second between.doors }
      → new ≡ record more { doors = ended third more.doors }
      → outside reading writing new
      ≡ record (outside reading writing old) {
        doors =
            all_ended (first ∷ second ∷ third ∷ []) (outside reading writing old).doors;
      }
  ended_three first second third old between more new one two three =
      ap (outside reading writing)
      (three ∙ ap (λ (v : View In Out). let out : View In Out =
      record v { doors = ended third v.doors } in out)
      (two ∙ ap (λ (v : View In Out). let out : View In Out =
      record v { doors = ended second v.doors } in out) one))
