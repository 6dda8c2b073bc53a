-- Where no reason to end is there, each of the four found the door closed.
use Rattle.std.proofs.Common.{◌≡◌, Bool, true, false, ◌||◌, if◌then◌else◌, Option, Some, None, refl}
use Rattle.pl_worker.specs.Ends.{end_of, has_failed, lacks_memory, one_of, was_stopped}
use Rattle.pl_worker.specs.declared.why.End.{End}
use Rattle.pl_worker.specs.declared.why.End.TheVariants as the_end
use Rattle.pl_worker.specs.declared.why.Reasons.{Reasons}
use Rattle.pl_worker.specs.declared.why.Why.{Why}
use Rattle.pl_worker.specs.declared.why.Why.TheVariants as why

neither : (a b : Bool) → (a || b) ≡ false → (a ≡ false) × (b ≡ false)
neither true b is = absurd (cc is)
neither false b is = (refl, is)

none_of_three : (a b c : Bool) (x y z : End)
    → (if a then Some x else (if b then Some y else (if c then Some z else None))) ≡ None
    → (a ≡ false) × (b ≡ false) × (c ≡ false)
none_of_three true b c x y z is = absurd (cc is)
none_of_three false true c x y z is = absurd (cc is)
none_of_three false false true x y z is = absurd (cc is)
none_of_three false false false x y z is = (refl, refl, refl)

closed_alone : (reason : Why) → was_stopped reason ≡ false → has_failed reason ≡ false
    → lacks_memory reason ≡ false → reason ≡ why.Closed
closed_alone why.Stopped a b c = absurd (cc a)
closed_alone why.Closed a b c = refl
closed_alone why.Failed a b c = absurd (cc b)
closed_alone why.Memory a b c = absurd (cc c)

-- none of the four ended so
record NoneIs (so : Why → Bool) (all : Reasons) : Type 0 where
  pub first : so all.first ≡ false
  pub second : so all.second ≡ false
  pub third : so all.third ≡ false
  pub fourth : so all.fourth ≡ false

none_is : (so : Why → Bool) (all : Reasons) → one_of so all ≡ false → NoneIs so all
none_is so all is =
    let a = neither (so all.first) _ is in
    let b = neither (so all.second) _ a.1 in
    let c = neither (so all.third) (so all.fourth) b.1 in
    record { first = a.0; second = b.0; third = c.0; fourth = c.1 }

-- all four found the door closed
pub record AllClosed (all : Reasons) : Type 0 where
  pub first : all.first ≡ why.Closed
  pub second : all.second ≡ why.Closed
  pub third : all.third ≡ why.Closed
  pub fourth : all.fourth ≡ why.Closed

pub all_closed : (all : Reasons) → end_of all ≡ None → AllClosed all
all_closed all is =
    let none = none_of_three (one_of was_stopped all) (one_of has_failed all)
    (one_of lacks_memory all) the_end.Stopped the_end.Failed the_end.Memory is
    in
    let s = none_is was_stopped all none.0 in
    let f = none_is has_failed all none.1 in
    let m = none_is lacks_memory all none.2 in
    record {
      first = closed_alone all.first s.first f.first m.first;
      second = closed_alone all.second s.second f.second m.second;
      third = closed_alone all.third s.third f.third m.third;
      fourth = closed_alone all.fourth s.fourth f.fourth m.fourth;
    }
