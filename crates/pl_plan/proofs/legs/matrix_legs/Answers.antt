use Rattle.std.proofs.Common.{◌+◌, drop, sym, ap, ◌∙◌}
use Rattle.pl_schema_parts.specs.Names.{is_taken}
use Rattle.pl_schema_parts.specs.Rows.{in_turn}
use Rattle.pl_depends.specs.Places.{knows, under}
use Rattle.pl_plan.specs.Legs.{leg_names, matrix_leg}
use Rattle.pl_plan.proofs.Slices.{leg_more, leg_named, leg_turn, no_legs}
use Rattle.pl_plan.proofs.legs.matrix_legs.Goals as goal

pub loop-leg-init : goal.loop-leg-init
loop-leg-init c = record {
  read = ap (λ made. in_turn (λ made leg. matrix_leg (is_taken (leg_names made)) leg) made
      c.args.legs.now) (sym c.new-made.ensures);
  names = no_legs (under c.no_places-names.result) c.new-made.result c.no_places-names.ensures
      c.new-made.ensures;
}

pub loop-leg-preserved : goal.loop-leg-preserved
loop-leg-preserved c =
    let loop = c.loop-leg in
    let item = c.leg-item.result in
    let leg = c.in_ok-matrix_leg.field-0 in
    record {
      read = loop.invariant.read
          ∙ leg_turn (knows loop.names) loop.made c.args.legs.now loop.leg-index item leg
          loop.invariant.names c.loop-leg-test.true c.leg-item.is c.in_ok-matrix_leg.ensures
          ∙ ap (λ made. in_turn (λ made leg. matrix_leg (is_taken (leg_names made)) leg) made
          (drop (loop.leg-index + 1) c.args.legs.now)) (sym c.in_ok-push.ensures.ok);
      names = leg_more (under loop.names) (under c.put.new.places) loop.made leg item.key
          c.new.result (leg_named (knows loop.names) item leg c.in_ok-matrix_leg.ensures)
          c.in_ok-put.ensures loop.invariant.names
          ∙ ap (λ made. is_taken (leg_names made)) (sym c.in_ok-push.ensures.ok);
    }
