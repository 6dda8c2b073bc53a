use Rattle.std.proofs.Common.{◌≡◌, ◌⊎◌, true}
use Rattle.std.specs.BTreeSet.{contains}
use Rattle.std.specs.List.{Contains}
use Rattle.pl_lock_queues.specs.Queues.{GivesWayAt, Place, place_cmp}
use Rattle.pl_lock_queues.proofs.superseded.add_among.Given as goal

-- of those that give way the ones that are left aren't added yet
abbrev pub invariant-loop-place : goal.invariant-loop-place
invariant-loop-place l = record {
  grown : (p : Place) → contains place_cmp l.fn.superseded p ≡ true →
      contains place_cmp l.superseded p ≡ true;
  only : (p : Place) → contains place_cmp l.superseded p ≡ true →
      (contains place_cmp l.fn.superseded p ≡ true) ⊎ GivesWayAt l.eligible l.later p;
  gone : (p : Place) → GivesWayAt l.eligible l.later p →
      Contains l.place-iterator p ⊎ (contains place_cmp l.superseded p ≡ true);
}
