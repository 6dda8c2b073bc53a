use Rattle.std.proofs.Common.{◌∙◌, ap, not}
use Rattle.pl_sqlkeeper.proofs.Queries.{open_clean}
use Rattle.pl_sqlkeeper.proofs.Told.{applied_after, crash_rows, kept_after, lasting_after}
use Rattle.pl_sqlkeeper.proofs.Told.{ours_after, tells_after}
use Rattle.pl_sqlkeeper.proofs.changes.keep_all.Goals as goal

pub returns-clause-ours : goal.returns-clause-ours
returns-clause-ours g c =
    let new = c.make_all.new.conn in
    ours_after g.S.Store c.args.changes.now c.args.conn.now new
    (open_clean g.S.Store g.met.S.Store.shut_if_dirty new)
    (c.is_autocommit-settled.ensures.settled
    (c.is_autocommit-settled.ensures.value ∙ ap not c.requires.idle))
    c.requires.ours c.make_all.result c.make_all.ensures.made c.make_all.ensures.none

pub returns-clause-crash : goal.returns-clause-crash
returns-clause-crash g c =
    crash_rows g.S.Store c.args.changes.now c.args.conn.now c.make_all.new.conn c.requires.ours
    c.make_all.ensures.crash

pub returns-clause-applied : goal.returns-clause-applied
returns-clause-applied g c =
    let new = c.make_all.new.conn in
    applied_after g.S.Store c.args.changes.now c.args.conn.now new
    (open_clean g.S.Store g.met.S.Store.shut_if_dirty new)
    (c.is_autocommit-settled.ensures.settled
    (c.is_autocommit-settled.ensures.value ∙ ap not c.requires.idle))
    c.requires.ours c.make_all.result c.make_all.ensures.made

pub returns-clause-tells : goal.returns-clause-tells
returns-clause-tells g c =
    let new = c.make_all.new.conn in
    tells_after g.S.Store c.args.changes.now c.args.conn.now new
    (open_clean g.S.Store g.met.S.Store.shut_if_dirty new)
    (c.is_autocommit-settled.ensures.settled
    (c.is_autocommit-settled.ensures.value ∙ ap not c.requires.idle))
    c.requires.ours c.make_all.result c.make_all.ensures.made

pub returns-clause-lasting : goal.returns-clause-lasting
returns-clause-lasting g c =
    let new = c.make_all.new.conn in
    lasting_after g.S.Store c.args.changes.now c.args.conn.now new
    (open_clean g.S.Store g.met.S.Store.shut_if_dirty new)
    (c.is_autocommit-settled.ensures.settled
    (c.is_autocommit-settled.ensures.value ∙ ap not c.requires.idle))
    c.requires.ours c.make_all.result c.make_all.ensures.lasting

pub returns-clause-kept : goal.returns-clause-kept
returns-clause-kept g c =
    let new = c.make_all.new.conn in
    kept_after g.S.Store c.args.changes.now c.args.conn.now new
    (open_clean g.S.Store g.met.S.Store.shut_if_dirty new)
    (c.is_autocommit-settled.ensures.settled
    (c.is_autocommit-settled.ensures.value ∙ ap not c.requires.idle))
    c.requires.ours c.make_all.result c.make_all.ensures.none
