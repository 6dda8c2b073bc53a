use Rattle.std.proofs.Common.{rules, ◌≡◌, sym, ◌∙◌, None}
use Rattle.pl_worker.proofs.Ending.{all_closed}
use Rattle.pl_worker.proofs.Rounds.{before_all, last_round, one_more_round}
use Rattle.pl_worker.proofs.crew.in_rounds.Goals as goal

pub loop-init : goal.loop-init
loop-init g c =
    before_all g.C.Clock.coming g.L.Listener.tells g.D.Desk.acts c.args.crew c.requires

pub returns-then-is_some-clause-works : goal.returns-then-is_some-clause-works
returns-then-is_some-clause-works g c =
    last_round g.C.Clock.coming g.L.Listener.tells g.D.Desk.acts _ _ _ _ c.loop.invariant
    c.four_at_once-back.ensures

pub loop-preserved : goal.loop-preserved
loop-preserved g c =
    let none : c.end.result ≡ None = search rules in
    one_more_round g.C.Clock.coming g.L.Listener.tells g.D.Desk.acts _ _ _ _ c.loop.invariant
    c.four_at_once-back.ensures
    (all_closed c.four_at_once-back.result.reasons (sym c.end.ensures ∙ none))
