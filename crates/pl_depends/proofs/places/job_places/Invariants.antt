use Rattle.std.proofs.Common.{◌≡◌, drop}
use Rattle.std.specs.Option.{option_or}
use Rattle.pl_depends.specs.Places.{places_under, job_entries, under}
use Rattle.pl_depends.proofs.places.job_places.Given as goal

abbrev pub invariant-loop-at : goal.invariant-loop-at
invariant-loop-at l =
    places_under (job_entries 0 l.jobs) ≡ (λ asked. option_or (under l.places asked)
    (places_under (job_entries l.at (drop l.at l.jobs)) asked))
