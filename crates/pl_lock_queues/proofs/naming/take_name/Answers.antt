use Rattle.std.proofs.Common.{◌∙◌, ◌&&◌, ap, not}
use Rattle.std.specs.BTreeMap.{is_at}
use Rattle.pl_lines.specs.Lines.{stands}
use Rattle.pl_lock_queues.specs.Queues.{is_here, is_latest, name_cmp, name_of, place_cmp}
use Rattle.pl_lock_queues.proofs.Bools.{named_here, not_dropped}
use Rattle.pl_lock_queues.proofs.naming.take_name.Goals as goal

pub returns-in-RunLatest-clause-names : goal.returns-in-RunLatest-clause-names
returns-in-RunLatest-clause-names c = λ key p.
    (rw c.place_of-place.ensures at c.take.ensures) key p
    ∙ ap (λ b. stands name_cmp place_cmp c.args.names.now.lines key p && not b)
    (named_here (is_latest c.args.stage.behaviour)
    (is_at (name_cmp (name_of c.args.stage)) key) (is_here p c.args.stage)
    (ap is_latest c.in-RunLatest.is))

pub returns-in-Sequential-clause-names : goal.returns-in-Sequential-clause-names
returns-in-Sequential-clause-names c = λ key p.
    not_dropped (stands name_cmp place_cmp c.args.names.now.lines key p)
    (is_latest c.args.stage.behaviour) (is_at (name_cmp (name_of c.args.stage)) key)
    (is_here p c.args.stage) (ap is_latest c.in-Sequential.is)
