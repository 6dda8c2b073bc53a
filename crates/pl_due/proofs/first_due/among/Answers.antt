use Rattle.std.proofs.Common.{get_or, sym, ◌∙◌}
use Rattle.std.proofs.lemmas.Bool.{false≢true}
use Rattle.std.proofs.lemmas.List.{get_or_default}
use Rattle.pl_cond.proofs.Roots.{if_ok}
use Rattle.pl_due.proofs.InOrder.{none_gives_way}
use Rattle.pl_due.proofs.first_due.among.Goals as goal

pub first_superseded-requires-clause-some : goal.first_superseded-requires-clause-some
first_superseded-requires-clause-some c =
    c.in_ok-any_superseded.ensures.0 c.if-branch.true

pub next_start-requires-clause-stand : goal.next_start-requires-clause-stand
next_start-requires-clause-stand c = λ k d below superseded.
    let eligible = c.args.eligible.now in
    let stage = get_or eligible k d in
    false≢true (sym c.if-branch.false ∙ c.in_ok-any_superseded.ensures.1
    (k, stage, below, get_or_default eligible k stage d below, superseded))

pub returns-else-branch : goal.returns-else-branch
returns-else-branch c =
    let eligible = c.args.eligible.now in
    if_ok _ _ c.next_start.result (λ found. none_gives_way eligible c.args.holders.now found
    (λ k d below superseded. let stage = get_or eligible k d in
    false≢true (sym c.if-branch.false ∙ c.in_ok-any_superseded.ensures.1
    (k, stage, below, get_or_default eligible k stage d below, superseded))))
    c.next_start.ensures
