use Rattle.std.proofs.Common.{◌∙◌, ap, arith, length, length-drop}
use Rattle.pl_streams.proofs.Streams.{wrote_more}
use Rattle.pl_streams.proofs.writing.write_all.Goals as goal

pub loop-written-preserved : goal.loop-written-preserved
loop-written-preserved g c =
    let told = c.in_ok-written.ensures in
    let before = c.loop-written.invariant in
    record {
      within = omega (
        arith,
        told.within,
        ap length c.split_at.ensures.back,
        length-drop c.loop-written.written c.args.bytes.now,
      );
      wrote = wrote_more (g.S.Sink.held c.args.sink.now) (g.S.Sink.held c.loop-written.sink)
          (g.S.Sink.held c.write.new.self) c.args.bytes.now c.split_at.result.1.now
          c.loop-written.written c.in_ok-written.field-0 before.wrote c.split_at.ensures.back
          told.bytes;
      quiet = told.quiet ∙ before.quiet;
    }
