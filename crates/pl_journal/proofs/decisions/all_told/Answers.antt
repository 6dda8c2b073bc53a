use Rattle.pl_journal.specs.Runs.{decided}
use Rattle.pl_journal.proofs.Listing.{listed_all}
use Rattle.pl_journal.proofs.decisions.all_told.Goals as goal

pub returns : goal.returns
returns c = listed_all (λ fact. decided fact.event) (λ one. one.now) c.args.found.now
    c.loop-logged.logged-index _ c.loop-logged.invariant c.loop-logged-test.false
