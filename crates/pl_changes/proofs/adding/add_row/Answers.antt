use Rattle.std.proofs.Common.{◌≡◌, true, false}
use Rattle.pl_changes.proofs.Joining.{added_apart, added_joins, left_joins, told_off, told_on}
use Rattle.pl_changes.proofs.adding.add_row.Goals as goal

pub returns-in_ok-push-clause-apart : goal.returns-in_ok-push-clause-apart
returns-in_ok-push-clause-apart c =
    let off : c.have_place.result ≡ false = search (c.if-not-have_place.true, told_off) in
    added_apart c.args.rows.now.items c.as_slice.result.now c.args.row c.have_place.result
    c.as_slice.ensures.value c.have_place.ensures c.push.new.self.items off
    c.in_ok-push.ensures.items

pub returns-in_ok-push-clause-joins : goal.returns-in_ok-push-clause-joins
returns-in_ok-push-clause-joins c =
    added_joins c.args.rows.now.items c.as_slice.result.now c.args.row c.have_place.result
    c.as_slice.ensures.value c.have_place.ensures c.push.new.self.items c.in_ok-push.ensures.items

pub returns-else-not-have_place-clause-joins : goal.returns-else-not-have_place-clause-joins
returns-else-not-have_place-clause-joins c =
    let on : c.have_place.result ≡ true = search (c.if-not-have_place.false, told_on) in
    left_joins c.args.rows.now.items c.as_slice.result.now c.args.row c.have_place.result
    c.as_slice.ensures.value c.have_place.ensures on
