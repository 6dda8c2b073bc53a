use Rattle.std.proofs.Common.{ℕ, List, Option, refl, subst}
use Rattle.std.specs.Prelude.{All, MatchOption}
use Rattle.pl_locks.specs.Locks.{IsAt, IsNext, MayStart}
use Rattle.pl_locks.specs.declared.contender.Contender.{Contender}
use Rattle.pl_due.proofs.ByLocks.{started}
use Rattle.pl_due.proofs.first_due.next_start.Goals as goal

abbrev Found : List Contender → List Contender → Option (ℕ × ℕ) → Type 0
Found eligible holders found = MatchOption found
    (All (λ stage. ¬ MayStart eligible holders stage) eligible)
    (λ told. (stage : Contender) × IsNext eligible holders stage × IsAt told.0 told.1 stage)

pub returns-in-Some : goal.returns-in-Some
returns-in-Some c =
    let eligible = c.args.eligible.now in
    let holders = c.args.holders.now in
    let (one, is, at) = subst (Found eligible holders) c.in-Some.is c.in_ok-run.ensures in
    started eligible holders c.in-Some.run' c.in-Some.stage one at _ is refl

pub returns-in-None : goal.returns-in-None
returns-in-None c = subst (Found c.args.eligible.now c.args.holders.now) c.in-None.is
    c.in_ok-run.ensures
