use Rattle.std.proofs.Common.{◌+◌, [], drop, sym, ap, ◌∙◌}
use Rattle.pl_schema_parts.specs.Names.{is_taken, taken}
use Rattle.pl_schema_parts.specs.Rows.{in_turn}
use Rattle.pl_schema.specs.Stages.{stage_in, stage_names}
use Rattle.pl_schema_parts.proofs.Order.{next_turn}
use Rattle.pl_schema.proofs.Taken.{stage_more}
use Rattle.pl_schema.proofs.stages.stages_of.Goals as goal

pub loop-item-preserved : goal.loop-item-preserved
loop-item-preserved c =
    let loop = c.loop-item in
    record {
      read =
          loop.invariant.read
          ∙ next_turn stage_in stage_names (taken loop.names) loop.stages c.args.items.now
          loop.item-index c.item-item.result c.in_ok-stage.stage loop.invariant.names
          c.loop-item-test.true c.item-item.is c.in_ok-stage.ensures
          ∙ ap (λ made. in_turn (λ made item. stage_in (is_taken (stage_names made)) item) made
          (drop (loop.item-index + 1) c.args.items.now)) (sym c.in_ok-push.ensures.ok);
      names = c.in_ok-take.ensures ∙ stage_more (taken loop.names) loop.stages c.in_ok-stage.stage
          loop.invariant.names ∙ ap (λ made. is_taken (stage_names made))
          (sym c.in_ok-push.ensures.ok);
    }
