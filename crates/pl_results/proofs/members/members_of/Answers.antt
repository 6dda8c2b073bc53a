use Rattle.pl_results.proofs.Orderly.{jobs_orderly}
use Rattle.pl_results.proofs.members.members_of.Goals as goal

pub job_members-requires-clause-orderly : goal.job_members-requires-clause-orderly
job_members-requires-clause-orderly c = jobs_orderly c.args.plan.now c.args.node c.in-Job.stage
    c.in-Job.job c.jobs_of.result.now c.requires.runs c.requires.within c.in-Job.is
    c.jobs_of.ensures
