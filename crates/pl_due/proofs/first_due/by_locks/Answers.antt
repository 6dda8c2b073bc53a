use Rattle.std.proofs.Common.{◌∷◌, [], subst}
use Rattle.pl_cond.proofs.Roots.{if_ok}
use Rattle.pl_due.specs.Contention.{Holds, locks}
use Rattle.pl_due.specs.Due.{Next, Superseded}
use Rattle.pl_due.specs.Least.{FirstOf}
use Rattle.pl_due.proofs.ByLocks.{by_these}
use Rattle.pl_due.proofs.Picking.{are_those}
use Rattle.pl_due.proofs.first_due.by_locks.Goals as goal

pub among-requires : goal.among-requires
among-requires c = c.requires.eligible.ordered

pub returns : goal.returns
returns c =
    let facts = c.args.journal.now.facts in
    let eligible = c.args.eligible.now in
    let holders = c.in_ok-holders.holders in
    if_ok _ _ c.among.result (λ found is.
    by_these facts c.args.moment eligible holders found
    (record {
      eligible = c.requires.eligible;
      holders = are_those facts (Holds facts) (Holds facts) c.args.running.now holders
          c.requires.running (λ told one run stage runs. runs) c.in_ok-holders.ensures;
    })
    (subst (λ some. FirstOf (Superseded (locks eligible some) ∷ Next (locks eligible some) ∷ [])
    found) c.as_slice.ensures is)) c.among.ensures
