use Rattle.std.proofs.Common.{◌<◌, [], ◌∷◌, ◌++◌, sym, ap, ◌∙◌, subst}
use Rattle.pl_step.proofs.Behind.{one_more, one_within}
use Rattle.pl_step.proofs.entering.facts_from.Goals.{in-None}
use Rattle.pl_step.proofs.entering.facts_from.Goals.{in-Some+in_ok-copy-in-Some+in_ok-push-in-Some}
use Rattle.pl_step.proofs.entering.facts_from.Goals as goal

pub loop-at-preserved : goal.loop-at-preserved
loop-at-preserved c =
    let facts = c.args.journal.now.facts in
    let at = c.loop-at.at in
    elim c.match-fact.branch [
      | in-Some+in_ok-copy-in-Some+in_ok-push-in-Some w ↦
          one_more facts c.args.from at w.in-Some.fact.now (sym w.in-Some.ensures) c.loop-at.auto.at
          c.loop-at.facts c.match-fact.facts c.loop-at.invariant
          (w.facts-is ∙ w.in_ok-push-in-Some.ensures.ok
          ∙ ap (λ fact. c.loop-at.facts ++ fact ∷ []) w.in_ok-copy-in-Some.ensures)
      | in-None w ↦
          absurd (one_within facts at
          (subst (λ n. at < n) c.len-at-end.ensures c.loop-at-test.true) (sym w.in-None.ensures))
    ]
