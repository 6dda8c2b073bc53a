use Rattle.std.proofs.Common.{eqb, sym, ◌∙◌}
use Rattle.std.specs.List.{list_any}
use Rattle.pl_results.proofs.Turns.{picked_more, picked_same}
use Rattle.pl_results.proofs.places.direct.Goals.{then-is_among+in_ok-push, else-is_among}
use Rattle.pl_results.proofs.places.direct.Goals as goal

pub loop-at-preserved : goal.loop-at-preserved
loop-at-preserved c =
    elim c.if-is_among.branch [
      | then-is_among+in_ok-push w ↦
          picked_more (λ at. list_any (λ place. eqb place at) c.args.depends.now) c.loop-at.at
          c.loop-at.places c.if-is_among.places c.loop-at.invariant
          (sym c.is_among.ensures ∙ w.if-is_among.true) (w.places-is ∙ w.in_ok-push.ensures.ok)
      | else-is_among w ↦
          w.places-is ∙ picked_same (λ at. list_any (λ place. eqb place at) c.args.depends.now)
          c.loop-at.at c.loop-at.places c.loop-at.invariant
          (sym c.is_among.ensures ∙ w.if-is_among.false)
    ]
