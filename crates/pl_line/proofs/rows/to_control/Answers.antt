use Rattle.std.proofs.Common.{◌≡◌, suc, length, drop, sym, ap, ◌∙◌, arith}
use Rattle.std.specs.Prelude.{chars}
use Rattle.std.proofs.lemmas.List.{drop-drop}
use Rattle.pl_line.proofs.Laws.Controls.{first_next}
use Rattle.pl_line.proofs.rows.to_control.Goals as goal

pub loop-c-preserved : goal.loop-c-preserved
loop-c-preserved c =
    let inv = c.loop-c.invariant in
    let one : length (chars c.loop-c.rest.text.now) ≡
    suc (length (chars c.next.new.self.text.now)) = ap length c.in-Some.ensures in
    record {
      value = first_next (chars c.loop-c.rest.text.now) (chars c.next.new.self.text.now) c.in-Some.c
          c.loop-c.count _ (sym c.if-is_control.ensures) c.in-Some.ensures inv.value;
      within = omega (arith, inv.within, one);
      left = ap (drop 1) (sym c.in-Some.ensures) ∙ ap (drop 1) inv.left ∙
          drop-drop 1 c.loop-c.count _;
    }
