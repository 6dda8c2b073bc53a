use Rattle.std.proofs.Common.{◌≡◌, flat_map, take}
use Rattle.pl_looks.specs.Jobs.{of_place, ready_job, taken_job}
use Rattle.pl_looks.proofs.jobs.jobs_of.Given as goal

abbrev pub invariant-loop-place : goal.invariant-loop-place
invariant-loop-place l = record {
  ready : l.ready ≡ flat_map (λ at. of_place ready_job l.journal.facts l.fn.run at.stage)
      (take l.place-index l.places);
  taken : l.taken ≡ flat_map (λ at. of_place taken_job l.journal.facts l.fn.run at.stage)
      (take l.place-index l.places);
}
