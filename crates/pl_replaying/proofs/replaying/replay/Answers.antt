use Rattle.std.proofs.Common.{option_copied, ◌≡◌, ◌∙◌}
use Rattle.pl_alone.specs.Desk.{parts}
use Rattle.pl_outfit.specs.Outfit.{outside}
use Rattle.pl_replaying.proofs.Sessions.{replayed}
use Rattle.pl_replaying.proofs.replaying.replay.Goals as goal

pub returns-in-Ok-open : goal.returns-in-Ok-open
returns-in-Ok-open g c =
    let tells = g.O.Store.Keeper in
    let all = outside g.O.In.Source g.O.Out.Sink in
    replayed c.args.admin (option_copied c.args.path) (tells.held c.in-Ok.store)
    (parts tells c.in-Ok-open.desk) (all (g.O.Outfit.view c.args.outfit.now))
    (all (g.O.Outfit.view c.store_at.new.outfit)) (all (g.O.Outfit.view c.replay_at.new.outfit))
    c.replay_at.result c.in-Ok.ensures.0 c.in-Ok-open.ensures.begun c.in-Ok-open.ensures.rows
    (c.in-Ok-open.ensures.quiet ∙ c.in-Ok.ensures.1) (c.access_laws.ensures.sound c.args.admin)
    (c.claim_laws.ensures.orderly c.args.admin) (c.kept_laws.ensures.new c.args.admin)
    c.in-Ok.ensures.2 c.replay_at.ensures
