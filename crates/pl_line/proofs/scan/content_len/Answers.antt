use Rattle.std.proofs.Common.{◌≡◌, suc, length, sym, ap, arith}
use Rattle.pl_line.specs.Characters.{all_of}
use Rattle.pl_line.proofs.Laws.Scanning.{content_stays, content_grows}
use Rattle.pl_line.proofs.scan.content_len.Goals as goal

pub loop-c-preserved-then-not-is_blank : goal.loop-c-preserved-then-not-is_blank
loop-c-preserved-then-not-is_blank c =
    let inv = c.loop-c.invariant in
    let one : length (all_of c.loop-c.rest) ≡ suc (length (all_of c.next.new.self)) =
    ap length c.in-Some.ensures in
    record {
      value =
          content_grows c.in-Some.c (all_of c.loop-c.rest) (all_of c.next.new.self) c.loop-c.at
          c.loop-c.len _ (sym c.if-not-is_blank.ensures)
          c.in-Some.ensures inv.value;
      within = omega (arith, inv.within, one);
      most = omega arith;
    }

pub loop-c-preserved : goal.loop-c-preserved
loop-c-preserved c =
    let inv = c.loop-c.invariant in
    let one : length (all_of c.loop-c.rest) ≡ suc (length (all_of c.next.new.self)) =
    ap length c.in-Some.ensures in
    record {
      value =
          content_stays c.in-Some.c (all_of c.loop-c.rest) (all_of c.next.new.self) c.loop-c.at
          c.loop-c.len _ (sym c.if-not-is_blank.ensures)
          c.in-Some.ensures inv.value;
      within = omega (arith, inv.within, one);
      most = omega (arith, inv.most);
    }
