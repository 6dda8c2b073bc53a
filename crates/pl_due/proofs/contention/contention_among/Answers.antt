use Rattle.pl_due.specs.Contention.{Holds, IsEligible}
use Rattle.pl_due.specs.Scans.{Waits}
use Rattle.pl_due.proofs.Picking.{are_those}
use Rattle.pl_due.proofs.contention.contention_among.Goals as goal

pub returns : goal.returns
returns c =
    let facts = c.args.journal.now.facts in
    record {
      eligible = are_those facts (IsEligible facts c.args.moment) (Waits facts) c.args.waiting.now
          c.in_ok-eligible.eligible c.requires.waiting (λ told one run stage is. is.waits)
          c.in_ok-eligible.ensures;
      holders = are_those facts (Holds facts) (Holds facts) c.args.running.now
          c.in_ok-holders.holders c.requires.running (λ told one run stage runs. runs)
          c.in_ok-holders.ensures;
    }
