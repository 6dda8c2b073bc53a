use Rattle.std.proofs.Common.{arith, sym, ◌∙◌}
use Rattle.std.proofs.lemmas.List.Sums.{count_by-le-length}
use Rattle.std.proofs.lemmas.List.FromFn.{length-range_with_len}
use Rattle.std.specs.List.{range_with_len}
use Rattle.pl_granting.specs.Asked.{of}
use Rattle.pl_granting.specs.Rules.{is_leg_taken}
use Rattle.pl_granting.proofs.Counting.{counted_no, counted_yes}
use Rattle.pl_granting.proofs.jobs.legs_taken.Goals.{then-is_leg_taken, else-is_leg_taken}
use Rattle.pl_granting.proofs.jobs.legs_taken.Goals as goal

pub overflow_add-count : goal.overflow_add-count
overflow_add-count c =
    let le = count_by-le-length (is_leg_taken c.args.journal.now.facts (of c.args.at.now))
    (range_with_len 0 c.loop-place.place) in
    let len = length-range_with_len 0 c.loop-place.place in
    omega (
      arith,
      le,
      len,
      c.loop-place.invariant,
      c.loop-place-test.true,
      c.len-place-end.ensures,
      c.requires,
    )

pub loop-place-preserved : goal.loop-place-preserved
loop-place-preserved c =
    let p = is_leg_taken c.args.journal.now.facts (of c.args.at.now) in
    elim c.if-is_leg_taken.branch [
      | then-is_leg_taken w ↦
          counted_yes p c.loop-place.place c.loop-place.count c.if-is_leg_taken.count
          c.loop-place.invariant (sym c.is_leg_taken.ensures ∙ w.if-is_leg_taken.true) w.count-is
      | else-is_leg_taken w ↦
          counted_no p c.loop-place.place c.loop-place.count c.if-is_leg_taken.count
          c.loop-place.invariant (sym c.is_leg_taken.ensures ∙ w.if-is_leg_taken.false) w.count-is
    ]
