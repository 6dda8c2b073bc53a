use Rattle.std.proofs.Common.{List, ℕ, ◌++◌, ap, ◌∙◌}
use Rattle.pl_plan_report.specs.Lists.{use_text}
use Rattle.pl_plan_report.proofs.Parting.{one_use_more}
use Rattle.pl_plan_report.proofs.names.push_each_use.Goals as goal

pub loop-key-preserved : goal.loop-key-preserved
loop-key-preserved c =
    one_use_more c.args.text.now c.args.keys.now c.loop-key.key-index c.key-item.result
    c.loop-key.text c.loop-key.before.now c.push_use.new.text c.loop-key-test.true c.key-item.is
    c.loop-key.invariant
    (c.in_ok-push_use.ensures
    ∙ ap (λ (start : List ℕ). start ++ use_text c.key-item.result) c.in_ok-push_str.ensures.ok)
