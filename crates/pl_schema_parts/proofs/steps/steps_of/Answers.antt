use Rattle.std.proofs.Common.{◌+◌, [], drop, sym, ap, ◌∙◌}
use Rattle.pl_schema_parts.specs.Names.{is_taken, taken}
use Rattle.pl_schema_parts.specs.Rows.{in_turn}
use Rattle.pl_schema_parts.specs.Steps.{step_in, step_names}
use Rattle.pl_schema_parts.proofs.Order.{next_turn}
use Rattle.pl_schema_parts.proofs.Taken.{step_more}
use Rattle.pl_schema_parts.proofs.steps.steps_of.Goals as goal

pub loop-item-preserved : goal.loop-item-preserved
loop-item-preserved c =
    let loop = c.loop-item in
    record {
      read =
          loop.invariant.read
          ∙ next_turn step_in step_names (taken loop.names) loop.steps c.args.items.now
          loop.item-index c.item-item.result c.in_ok-step.step loop.invariant.names
          c.loop-item-test.true c.item-item.is c.in_ok-step.ensures
          ∙ ap (λ made. in_turn (λ made item. step_in (is_taken (step_names made)) item) made
          (drop (loop.item-index + 1) c.args.items.now)) (sym c.in_ok-push.ensures.ok);
      names = c.in_ok-take_name.ensures ∙ step_more (taken loop.names) loop.steps c.in_ok-step.step
          loop.invariant.names ∙ ap (λ made. is_taken (step_names made))
          (sym c.in_ok-push.ensures.ok);
    }
