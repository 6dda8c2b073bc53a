use Rattle.std.proofs.Common.{inl, inr}
use Rattle.pl_outfit.specs.Outfit.{outside}
use Rattle.pl_serve.specs.Below.pl_hall.specs.Seats.{parts_of}
use Rattle.pl_serving.proofs.Served.{back_is, keeps_rows}
use Rattle.pl_serving.proofs.serving.serve_hall.Goals as goal

pub returns-in-Ok : goal.returns-in-Ok
returns-in-Ok g c opening is =
    let all = outside g.O.In.Source g.O.Out.Sink in
    inr (record {
      between = all (g.O.Outfit.view c.four_doors.new.outfit);
      opens = c.in-Ok.ensures.1;
      doors = c.in-Ok.doors;
      new_doors = c.in-Ok.ensures.0;
      serves = c.serve_doors.ensures opening is;
    })

pub returns-in-Err : goal.returns-in-Err
returns-in-Err g c opening is =
    let all = outside g.O.In.Source g.O.Out.Sink in
    inl (record {
      why = c.in-Err.fault;
      ending_is = c.fault_status.ensures;
      between = all (g.O.Outfit.view c.four_doors.new.outfit);
      none = c.in-Err.ensures;
      rows = g.O.Store.Keeper.held c.close.result;
      faults = g.O.Store.Keeper.faults c.close.result;
      keeps =
          keeps_rows g.O.Store.Keeper c.args.hall.lock opening (parts_of c.args.seat)
          c.close.result is c.close.ensures;
      is =
          back_is g.O.In.Source g.O.Out.Sink (g.O.Store.Keeper.held c.close.result)
          (g.O.Store.Keeper.faults c.close.result) (g.O.Outfit.view c.four_doors.new.outfit)
          (g.O.Outfit.view c.keeper_back.new.self) c.keeper_back.ensures;
    })
