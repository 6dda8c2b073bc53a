use Rattle.std.proofs.Common.{option_copied}
use Rattle.pl_outfit.specs.Outfit.{outside}
use Rattle.pl_serve.specs.Below.pl_hall.specs.Seats.{parts_of}
use Rattle.pl_serving.proofs.Served.{served}
use Rattle.pl_serving.proofs.serving.serve_at.Goals as goal

pub returns-in-Ok-open : goal.returns-in-Ok-open
returns-in-Ok-open g c =
    let all = outside g.O.In.Source g.O.Out.Sink in
    served g.O.Time.Clock.coming g.O.Door.Listener.tells g.O.Store.Keeper c.args.admin
    c.args.address.now (option_copied c.args.path) c.in-Ok.store c.in-Ok-open.hall.lock
    (parts_of c.in-Ok-open.seat) (all (g.O.Outfit.view c.args.outfit.now))
    (all (g.O.Outfit.view c.store_at.new.outfit)) (all (g.O.Outfit.view c.serve_hall.new.outfit))
    c.serve_hall.result c.in-Ok.ensures.0 c.in-Ok-open.ensures.seat c.in-Ok.ensures.2
    c.serve_hall.ensures
