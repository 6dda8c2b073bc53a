use Rattle.std.proofs.Common.{◌≡◌, drop}
use Rattle.std.specs.Option.{option_or}
use Rattle.pl_depends.specs.Places.{places_under, leg_entries, under}
use Rattle.pl_depends.proofs.places.leg_places.Given as goal

abbrev pub invariant-loop-job : goal.invariant-loop-job
invariant-loop-job l =
    places_under (leg_entries 0 l.jobs) ≡ (λ asked. option_or (under l.places asked)
    (places_under (leg_entries l.first (drop l.job-index l.jobs)) asked))
