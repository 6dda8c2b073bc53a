use Rattle.pl_granting.specs.Asked.{of}
use Rattle.pl_due.proofs.Fits.{few_jobs}
use Rattle.pl_granting.proofs.Places.{its_stage}
use Rattle.pl_granting.proofs.first_broken.by_turn.Goals as goal

pub full-requires : goal.full-requires
full-requires c =
    let at = of c.args.at.now in
    let facts = c.args.journal.now.facts in
    few_jobs facts at.run at.stage at.queued at.staged c.requires.fit
    (its_stage facts at c.requires.job)
