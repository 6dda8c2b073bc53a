use Rattle.pl_granting.specs.Asked.{of}
use Rattle.pl_jobs.proofs.There.{its_places}
use Rattle.pl_jobs.proofs.giving.job_reply.Goals as goal

pub variables_of-requires : goal.variables_of-requires
variables_of-requires c =
    let fits = its_places c.args.journal.now.facts (of c.args.at.now) c.requires.fit c.requires.job
    c.deref.result.now c.deref.ensures in
    record { runs = fits.runs; stage = fits.stage; job = fits.job }
