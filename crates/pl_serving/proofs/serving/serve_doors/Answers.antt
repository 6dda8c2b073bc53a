use Rattle.std.proofs.Common.{sym}
use Rattle.pl_serving.proofs.Served.{outside_is}
use Rattle.pl_serving.specs.Serving.{handles_of}
use Rattle.pl_serving.proofs.serving.serve_doors.Goals as goal

pub returns : goal.returns
returns g c opening is =
    let view = g.O.Outfit.view in
    let rows = g.O.Store.Keeper.held c.serve-outsides.result.keeper in
    let faults = g.O.Store.Keeper.faults c.serve-outsides.result.keeper in
    let handles = handles_of g.O.Door.Listener.tells c.serve-outsides.result.outsides in
    record {
      given = c.with_clocks-outsides.result;
      left = c.serve-outsides.result.outsides;
      reasons = c.serve-outsides.result.reasons;
      rows = rows;
      faults = faults;
      start = c.with_clocks-outsides.ensures.start;
      history = c.serve-outsides.ensures.history opening is;
      end = c.in-Some.end;
      ends = sym c.in-Some.ensures;
      ending_is = c.end_status.ensures;
      is =
          outside_is g.O.In.Source g.O.Out.Sink handles rows faults (view c.args.outfit.now)
          (view c.with_clocks-outsides.new.outfit) (view c.end_four.new.outfit)
          (view c.keeper_back.new.self) c.with_clocks-outsides.ensures.same c.end_four.ensures
          c.keeper_back.ensures;
    }
