use Rattle.std.proofs.Common.{◌≡◌, take}
use Rattle.std.specs.List.{filter_map}
use Rattle.pl_results.specs.Members.{job_member}
use Rattle.pl_results.proofs.members.job_members.Given as goal

abbrev pub invariant-loop-place : goal.invariant-loop-place
invariant-loop-place l =
    l.members ≡ filter_map (job_member l.jobs l.views) (take l.place-index l.place-items)
