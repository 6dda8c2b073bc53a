use Rattle.std.proofs.Common.{◌∙◌, ap, not}
use Rattle.sqlite.specs.Held.{state}
use Rattle.pl_sqlkeeper.proofs.Queries.{open_clean, read_all}
use Rattle.pl_sqlkeeper.proofs.Told.{undone_ours, undone_rows}
use Rattle.pl_sqlkeeper.proofs.looking.stored_rows.Goals as goal

pub returns-clause-ours : goal.returns-clause-ours
returns-clause-ours g c =
    let new = c.look.new.conn in
    undone_ours (state g.S.Store c.args.conn.now) (state g.S.Store new)
    (λ o. c.look.ensures.undone (open_clean g.S.Store g.met.S.Store.shut_if_dirty new o))
    (c.is_autocommit-settled.ensures.settled
    (c.is_autocommit-settled.ensures.value ∙ ap not c.requires.idle))
    c.requires.ours

pub returns-clause-kept : goal.returns-clause-kept
returns-clause-kept g c =
    let new = c.look.new.conn in
    undone_rows (state g.S.Store c.args.conn.now) (state g.S.Store new)
    (λ o. c.look.ensures.undone (open_clean g.S.Store g.met.S.Store.shut_if_dirty new o))
    (c.is_autocommit-settled.ensures.settled
    (c.is_autocommit-settled.ensures.value ∙ ap not c.requires.idle))

pub returns-clause-shown : goal.returns-clause-shown
returns-clause-shown g c =
    let new = c.look.new.conn in
    let clean = open_clean g.S.Store g.met.S.Store.shut_if_dirty new in
    read_all g.S.Store c.args.conn.now new (λ o. c.look.ensures.undone (clean o))
    (c.is_autocommit-settled.ensures.settled
    (c.is_autocommit-settled.ensures.value ∙ ap not c.requires.idle))
    (λ rows. rows.items) c.look.result clean c.requires.ours c.look.ensures.looked
