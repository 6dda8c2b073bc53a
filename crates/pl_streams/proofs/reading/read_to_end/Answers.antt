use Rattle.std.proofs.Common.{◌∙◌, ◌++◌, take, arith, length-append}
use Rattle.pl_streams.proofs.Streams.{read_more, room_within, taken_most}
use Rattle.pl_streams.proofs.reading.read_to_end.Goals as goal

pub returns-then-is_err : goal.returns-then-is_err
returns-then-is_err g c =
    let told = c.in-Ok.ensures in
    let more = take c.in-Ok.count c.read.new.into in
    record {
      bytes = c.loop-piece.bytes.items ++ more;
      gave = read_more (g.S.Source.left c.args.source.now) (g.S.Source.left c.loop-piece.source)
          (g.S.Source.left c.read.new.self) c.loop-piece.bytes.items more
          c.loop-piece.invariant.gave told.bytes;
      within = omega (
        arith,
        length-append c.loop-piece.bytes.items more,
        taken_most c.in-Ok.count c.read.new.into,
        room_within _ _ _ c.min-room.ensures,
      );
      broken = told.quiet ∙ c.loop-piece.invariant.quiet;
    }
