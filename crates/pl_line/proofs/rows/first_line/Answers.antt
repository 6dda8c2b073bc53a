use Rattle.std.proofs.Common.{◌≡◌, ◌+◌, suc, ◌∷◌, None, length, take, drop, refl, sym, ap, ◌∙◌}
use Rattle.std.proofs.Common.{arith}
use Rattle.std.proofs.lemmas.List.{drop-drop}
use Rattle.std.specs.Prelude.{chars, ◌==◌, ◌&&◌}
use Rattle.std.specs.List.{last_or}
use Rattle.pl_line.specs.Rows.{is_return}
use Rattle.pl_line.proofs.Laws.Cuts.{feed_next, cut_found, cut_last, last_next}
use Rattle.pl_line.proofs.Laws.Controls.{most, sizes, places, front_size, line_broken, line_last}
use Rattle.pl_line.proofs.Laws.Controls.{broken_read, last_read, part_read, returned_read}
use Rattle.pl_line.proofs.rows.first_line.Goals.{then-returned, else-returned}
use Rattle.pl_line.proofs.rows.first_line.Goals as goal

pub returns-then-control-eq10 : goal.returns-then-control-eq10
returns-then-control-eq10 c =
    let text = chars c.args.text.now in
    let n = c.to_control-readable.result.0 in
    let is = c.to_control-readable.ensures.count in
    let left = rw c.in-Some.is at c.to_control-readable.ensures.left in
    let next : drop n text ≡ 10 ∷ chars c.to_control-readable.new.rest.text.now = left ∙
    ap (λ x. x ∷ chars c.to_control-readable.new.rest.text.now) c.if-control-eq10.true in
    let one : length (drop n text) ≡ suc (length (chars c.to_control-readable.new.rest.text.now)) =
    ap length next in (
      take n text,
      line_broken text n is (chars c.to_control-readable.new.rest.text.now) next,
      broken_read text n is,
      omega (arith, front_size text n is, sizes text n is, one),
      omega (arith, sizes text n is, one),
    )

pub invariant_of-front : goal.invariant_of-front
invariant_of-front c = record {
  within = most (chars c.args.text.now) c.to_control-readable.result.0
      c.to_control-readable.ensures.count;
}

pub returns-in_default : goal.returns-in_default
returns-in_default c =
    let text = chars c.args.text.now in
    let n = c.to_control-readable.result.0 in
    let is = c.to_control-readable.ensures.count in
    let next = rw c.in_default.is at c.to_control-readable.ensures.left in (
      take n text,
      line_last text n is next,
      last_read text n is,
      omega (arith, front_size text n is, most text n is),
    )

pub loop-c-init : goal.loop-c-init
loop-c-init c =
    let text = chars c.args.text.now in
    let n = c.to_control-readable.result.0 in
    let is = c.to_control-readable.ensures.count in
    let rest = chars c.to_control-readable.new.rest.text.now in
    let next = rw c.in-Some.is at c.to_control-readable.ensures.left in
    let one : length (drop n text) ≡ suc (length rest) = ap length next in
    record {
      value = feed_next (drop n text) rest c.in-Some.control n _ c.if-control-eq10.false next
          (places text n is);
      within = omega (arith, sizes text n is, one);
      left = ap (drop 1) (sym next) ∙ drop-drop 1 n text;
      place = is;
      later = omega arith;
      returned =
          ap is_return
          (sym (last_next text (drop n text) rest n c.in-Some.control refl next (sizes text n is)));
    }

pub loop-c-preserved : goal.loop-c-preserved
loop-c-preserved c =
    let inv = c.loop-c.invariant in
    let one : length (chars c.loop-c.rest.text.now) ≡
    suc (length (chars c.next.new.self.text.now)) = ap length c.in-Some-next.ensures in
    record {
      value =
          feed_next (chars c.loop-c.rest.text.now) (chars c.next.new.self.text.now) c.in-Some-next.c
          c.loop-c.len _ c.if-c-eq10.false
          c.in-Some-next.ensures inv.value;
      within = omega (arith, inv.within, one);
      left = ap (drop 1) (sym c.in-Some-next.ensures) ∙ ap (drop 1) inv.left ∙
          drop-drop 1 c.loop-c.len (chars c.args.text.now);
      place = inv.place;
      later = omega (arith, inv.later);
      returned =
          ap is_return
          (sym (last_next (chars c.args.text.now) (chars c.loop-c.rest.text.now)
          (chars c.next.new.self.text.now) c.loop-c.len c.in-Some-next.c inv.left
          c.in-Some-next.ensures inv.within));
    }

pub returns-then-c-eq10 : goal.returns-then-c-eq10
returns-then-c-eq10 c =
    let text = chars c.args.text.now in
    let n = c.to_control-readable.result.0 in
    let len = c.loop-c.len in
    let is = c.to_control-readable.ensures.count in
    let inv = c.loop-c.invariant in
    let one : length (chars c.loop-c.rest.text.now) ≡
    suc (length (chars c.next.new.self.text.now)) = ap length c.in-Some-next.ensures in
    let read = returned_read text n is len inv.later (omega (arith, inv.within)) in
    let whole : c.if-returned.whole ≡ is_return (last_or None (take len text)) && (len == n + 1) =
    elim c.if-returned.branch [
      | then-returned w ↦ w.whole-is ∙ ap (λ b. b && (len == n + 1)) (sym w.if-returned.true ∙
          inv.returned)
      | else-returned w ↦ w.whole-is ∙ w.if-returned.false ∙ ap (λ b. b && (len == n + 1))
          (sym w.if-returned.false ∙ inv.returned)
    ]
    in (
      take len text,
      cut_found text (chars c.loop-c.rest.text.now) len inv.value inv.within
          (chars c.next.new.self.text.now) inv.left
          (c.in-Some-next.ensures ∙ ap (λ x. x ∷ chars c.next.new.self.text.now) c.if-c-eq10.true),
      (read.0, whole ∙ read.1),
      omega (arith, front_size text n is, inv.later, inv.within, one),
      omega (arith, inv.within, one),
    )

pub returns : goal.returns
returns c =
    let text = chars c.args.text.now in
    let n = c.to_control-readable.result.0 in
    let is = c.to_control-readable.ensures.count in
    let inv = c.loop-c.invariant in (
      take c.loop-c.len text,
      cut_last text (chars c.loop-c.rest.text.now) c.loop-c.len inv.value inv.within
          c.in_default-next.ensures.0,
      part_read text n is c.loop-c.len inv.later (omega (arith, inv.within)),
      omega (arith, front_size text n is, most text n is),
    )
