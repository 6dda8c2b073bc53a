use Rattle.std.proofs.Common.{◌≡◌, ◌∙◌, ap, false}
use Rattle.pl_alone.specs.Desk.{Act, parts}
use Rattle.pl_outfit.specs.Outfit.{outside, told_by_ends}
use Rattle.pl_replaying.proofs.Sessions.{replays_at, view_is, with_back}
use Rattle.pl_sessions.proofs.Through.{session_through}
use Rattle.pl_replaying.proofs.replaying.replay_at.Goals as goal

pub returns : goal.returns
returns g c =
    let tells = g.O.Store.Keeper in
    let tell = told_by_ends g.O.In.Source g.O.Out.Sink in
    let all = outside g.O.In.Source g.O.Out.Sink in
    let first = g.O.Outfit.view c.args.outfit.now in
    let clocked = g.O.Outfit.view c.clock-clock.new.self in
    let lent = g.O.Outfit.with_ends c.clock-clock.new.self c.replay_link-served.new.link in
    let back = g.O.Outfit.view c.keeper_back.new.self in
    let desk = parts tells c.replay_link-served.new.desk in
    let back_is =
    view_is first clocked (g.O.Outfit.view lent) back c.replay_link-served.new.link desk.rows
    desk.faults c.clock-clock.ensures.same
    (g.met.O.Outfit.ends_alone c.clock-clock.new.self c.replay_link-served.new.link)
    (c.keeper_back.ensures
    ∙ ap (λ k. with_back (tells.held k) (tells.faults k) (g.O.Outfit.view lent))
    c.into_keeper.ensures) in
    let told_is =
    ap tell (c.ends.ensures.there ∙ ap (λ view. view.ends) c.clock-clock.ensures.same) in
    replays_at (parts tells c.args.desk) desk (all first) (all back) (tell c.ends.result.now)
    (tell c.replay_link-served.new.link) _ _ c.replay_link-served.result c.status.result
    c.status.ensures c.replay_link-served.ensures.goes_on told_is c.clock-clock.ensures.coming
    (ap all back_is) c.desks_last.ensures
    (session_through (parts tells) Act false _ _ c.replay_link-served.result
    c.replay_link-served.ensures.session)
