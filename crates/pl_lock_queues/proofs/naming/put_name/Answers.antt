use Rattle.std.proofs.Common.{◌∙◌, ◌||◌, ap}
use Rattle.std.specs.BTreeMap.{is_at}
use Rattle.pl_lines.specs.Lines.{stands}
use Rattle.pl_lock_queues.specs.Queues.{is_here, is_latest, name_cmp, name_of, place_cmp}
use Rattle.pl_lock_queues.proofs.Bools.{named_here, not_named}
use Rattle.pl_lock_queues.proofs.naming.put_name.Goals as goal

pub returns-in_ok-add-in-RunLatest-clause-ok : goal.returns-in_ok-add-in-RunLatest-clause-ok
returns-in_ok-add-in-RunLatest-clause-ok c = λ key p.
    (rw (c.place_of.ensures, c.requires) at c.in_ok-add-in-RunLatest.ensures.ok) key p
    ∙ ap (λ b. stands name_cmp place_cmp c.args.names.now.lines key p || b)
    (named_here (is_latest c.args.stage.now.behaviour)
    (is_at (name_cmp (name_of c.args.stage.now)) key) (is_here p c.args.stage.now)
    (ap is_latest c.in-RunLatest.is))

pub returns-in-Sequential-clause-ok : goal.returns-in-Sequential-clause-ok
returns-in-Sequential-clause-ok c = λ key p.
    not_named (stands name_cmp place_cmp c.args.names.now.lines key p)
    (is_latest c.args.stage.now.behaviour) (is_at (name_cmp (name_of c.args.stage.now)) key)
    (is_here p c.args.stage.now) (ap is_latest c.in-Sequential.is)
