use Rattle.std.proofs.Common.{◌<◌, length, rules}
use Rattle.pl_plan.specs.Legs.{all_legs, legs_of}
use Rattle.pl_plan.proofs.KeptLegs.{same_at}
use Rattle.pl_plan.proofs.jobs.push_jobs.Goals as goal

pub push_job-requires : goal.push_job-requires
push_job-requires c =
    let jobs = c.as_slice-job-items.result.now in
    let within : c.loop-at.at < length jobs = c.loop-at-test.true in
    let same = same_at all_legs (λ job. legs_of job.legs) c.args.legs.now jobs c.loop-at.at
    c.index-legs-at.result c.job-item.result (search (rules, c.requires)) within in
    search (rules, same)
