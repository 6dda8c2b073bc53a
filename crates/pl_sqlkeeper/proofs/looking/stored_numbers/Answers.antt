use Rattle.std.proofs.Common.{◌∙◌, ap, not}
use Rattle.sqlite.specs.Held.{state}
use Rattle.pl_sqlkeeper.proofs.Queries.{apart_all, open_clean, same_schema}
use Rattle.pl_sqlkeeper.proofs.Told.{undone_rows}
use Rattle.pl_sqlkeeper.proofs.looking.stored_numbers.Goals as goal

pub returns-clause-kept : goal.returns-clause-kept
returns-clause-kept g c =
    let new = c.look.new.conn in
    undone_rows (state g.S.Store c.args.conn.now) (state g.S.Store new)
    (λ o. c.look.ensures.undone (open_clean g.S.Store g.met.S.Store.shut_if_dirty new o))
    (c.is_autocommit-settled.ensures.settled
    (c.is_autocommit-settled.ensures.value ∙ ap not c.requires))

pub returns-clause-schema : goal.returns-clause-schema
returns-clause-schema g c =
    let new = c.look.new.conn in
    let clean = open_clean g.S.Store g.met.S.Store.shut_if_dirty new in
    same_schema g.S.Store c.args.conn.now new (λ o. c.look.ensures.undone (clean o))
    (c.is_autocommit-settled.ensures.settled
    (c.is_autocommit-settled.ensures.value ∙ ap not c.requires))

pub returns-clause-apart : goal.returns-clause-apart
returns-clause-apart g c =
    let new = c.look.new.conn in
    let clean = open_clean g.S.Store g.met.S.Store.shut_if_dirty new in
    apart_all g.S.Store c.args.conn.now new (λ o. c.look.ensures.undone (clean o))
    (c.is_autocommit-settled.ensures.settled
    (c.is_autocommit-settled.ensures.value ∙ ap not c.requires))
    (λ rows. rows.items) c.look.result clean c.look.ensures.looked
