use Rattle.std.proofs.Common.{◌<◌, ◌+◌, ℕ, ap, arith, length, subst, sym}
use Rattle.std.specs.Option.{IfSome}
use Rattle.std.proofs.lemmas.Option.{slice_get_within}
use Rattle.pl_due.proofs.Fits.{few_stages}
use Rattle.pl_facts.specs.Below.pl_plan.specs.declared.plan.Compiled.{Compiled}
use Rattle.pl_wakes.proofs.Staying.{later_both}
use Rattle.pl_looks.specs.Quiet.{PlaceIsQuiet, StaysUntil}
use Rattle.pl_looks.proofs.Until.{stays_more}
use Rattle.pl_looks.proofs.quiet.queued_until.Goals as goal

pub overflow_cast-stage-end : goal.overflow_cast-stage-end
overflow_cast-stage-end c = omega (
  arith,
  c.len-stage-end.ensures,
  ap (λ (all : Compiled). length all.plan.stages) c.deref.ensures,
  few_stages c.args.journal.now.facts c.args.run c.args.queued.now c.requires.fit c.requires.told,
)

pub loop-stage-preserved : goal.loop-stage-preserved
loop-stage-preserved c =
    let moment = c.args.moment in
    let Q = λ (later stage : ℕ). PlaceIsQuiet c.args.journal.now.facts moment c.args.run
    c.args.queued.now stage later in
    record {
      later = subst (λ both. IfSome both (λ until. moment < until)) (sym c.sooner-until.ensures)
          (later_both moment c.loop-stage.until c.place_until.result c.loop-stage.invariant.later
          c.place_until.ensures.later);
      quiet = subst (StaysUntil (λ later. (k : ℕ) → k < c.loop-stage.stage + 1 → Q later k) moment)
          (sym c.sooner-until.ensures)
          (stays_more Q c.loop-stage.stage moment c.loop-stage.until c.place_until.result
          c.loop-stage.invariant.quiet c.place_until.ensures.quiet);
    }

pub returns-clause-quiet : goal.returns-clause-quiet
returns-clause-quiet c = λ later behind before stage one planned.
    let there = slice_get_within c.args.queued.now.compiled.plan.stages stage one planned in
    c.loop-stage.invariant.quiet later behind before stage
    (omega (
      arith,
      there,
      c.len-stage-end.ensures,
      c.loop-stage-test.false,
      ap (λ (all : Compiled). length all.plan.stages) c.deref.ensures,
    )) one planned
