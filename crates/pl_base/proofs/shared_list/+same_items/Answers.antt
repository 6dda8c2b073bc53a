use Rattle.std.proofs.Common.{◌≡◌, sym, ◌∙◌, rules}
use Rattle.pl_base.proofs.Chains.{last_alike, last_differs, start_then, then_start}
use Rattle.pl_base.proofs.shared_list.+same_items.Goals as goal

pub returns-then-eq : goal.returns-then-eq
returns-then-eq g t c =
    let alike = sym c.eq.ensures ∙ c.if-eq.true in
    rw c.same_items.ensures
    (rw c.deref.ensures (rw c.deref-then-eq.ensures (last_alike g.T.PartialEq.eq c.args.left.now
    c.args.right.now c.in-Then-Then.before c.in-Then-Then.other_before c.in-Then-Then.last
    c.in-Then-Then.other_last c.in-Then-Then.is-0 c.in-Then-Then.is-1 alike)))

pub returns-else-eq : goal.returns-else-eq
returns-else-eq g t c =
    let differs = sym c.eq.ensures ∙ c.if-eq.false in
    rw c.if-eq.false (last_differs g.T.PartialEq.eq c.args.left.now c.args.right.now
    c.in-Then-Then.before c.in-Then-Then.other_before c.in-Then-Then.last
    c.in-Then-Then.other_last c.in-Then-Then.is-0 c.in-Then-Then.is-1 differs)

pub returns-in_default : goal.returns-in_default
returns-in_default g t c = start_then g.T.PartialEq.eq c.args.left.now c.args.right.now
    c.in_default.field-0-1 c.in_default.field-1-1 c.in_default.is-0 c.in_default.is-1

pub returns-in_default-2 : goal.returns-in_default-2
returns-in_default-2 g t c = then_start g.T.PartialEq.eq c.args.left.now c.args.right.now
    c.in_default.field-0-0 c.in_default.field-1-0 c.in_default.is-0 c.in_default.is-1
