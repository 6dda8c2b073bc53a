use Rattle.std.proofs.Common.{◌≡◌, ℕ, ◌+◌, List, length, take, drop, Option, ap, sym, ◌∙◌, ◌++◌}
use Rattle.std.proofs.Common.{arith, length-drop}
use Rattle.std.proofs.Math.Seq.{take-add}
use Rattle.pl_base.specs.Streams.{with_end}
use Rattle.pl_sessions.proofs.Sessions.{with_end-append}
use Rattle.pl_sessions.proofs.serving.write_all.Goals as goal

-- what was written and a piece behind it
wrote_more : (start between new : Option (List ℕ)) (bytes piece : List ℕ) (at count : ℕ)
    → between ≡ with_end start (take at bytes) → piece ≡ drop at bytes
    → new ≡ with_end between (take count piece) → new ≡ with_end start (take (at + count) bytes)
wrote_more start between new bytes piece at count so_far is more =
    more ∙ (ap (λ held. with_end held (take count piece)) so_far ∙ (with_end-append start (take at
    bytes) (take count piece)
    ∙ ap (λ all. with_end start all) (ap (λ p. take at bytes ++ take count p) is ∙ sym (take-add at
    count bytes))))

pub loop-written-preserved : goal.loop-written-preserved
loop-written-preserved g c =
    let told = c.in_ok-written.ensures in
    let before = c.loop-written.invariant in
    record {
      within = omega (
        arith,
        told.within,
        ap length c.split_at.ensures.back,
        length-drop
            c.loop-written.written c.args.bytes.now,
      );
      wrote = wrote_more (g.L.Link.held c.args.link.now) (g.L.Link.held c.loop-written.link)
          (g.L.Link.held c.write.new.self) c.args.bytes.now c.split_at.result.1.now
          c.loop-written.written c.in_ok-written.field-0 before.wrote c.split_at.ensures.back
          told.bytes;
      quiet = told.quiet ∙ before.quiet;
      left = told.reading.0 ∙ before.left;
      ended = told.reading.1 ∙ before.ended;
      read_faults = told.reading.2 ∙ before.read_faults;
    }
