-- Facts of rows that aren't torn: none is later than the last entry, and the plans of their runs can
-- run; so they fit into a journal.
use Rattle.std.proofs.Common.{◌≡◌, ℕ, ◌≤◌, Bool, true, false, ◌||◌, List, [], ◌∷◌, ◌++◌, Option}
use Rattle.std.proofs.Common.{Some, None, refl, sym, ap, subst, ◌∙◌, arith}
use Rattle.std.specs.List.{slice_get, AllByRecursion}
use Rattle.std.specs.Option.{option_map, option_map_or, option_to_list}
use Rattle.std.specs.Prelude.{is_none}
use Rattle.std.proofs.lemmas.List.Elements.{All-from_recursion}
use Rattle.pl_base.specs.declared.digest.Digest.{Digest}
use Rattle.pl_base.specs.declared.row.Row.{Row}
use Rattle.pl_changes.proofs.Leading.{each_joined}
use Rattle.pl_due.specs.Fit.{AreFit, CanRunIf, IsFit}
use Rattle.pl_facts.specs.declared.fact.Event.TheVariants as event
use Rattle.pl_facts.specs.declared.fact.Fact.{Fact}
use Rattle.pl_journal.specs.Runs.{run_told}
use Rattle.pl_keeper.specs.declared.records.KeptJob.{KeptJob}
use Rattle.pl_keeper.specs.declared.records.KeptRun.{KeptRun}
use Rattle.pl_keeper.specs.declared.records.KeptStage.{KeptStage}
use Rattle.pl_keeper.specs.declared.records.Record.{Record}
use Rattle.pl_keeper.specs.declared.records.Record.TheVariants as kept
use Rattle.pl_opened.specs.Told.{at, dated_in, job_end, job_facts, queueing, run_facts}
use Rattle.pl_opened.specs.Told.{setting_facts, stage_end, stage_facts, taking}
use Rattle.pl_plan.specs.declared.plan.Compiled.{Compiled}
use Rattle.pl_plan.specs.declared.plan.Plan.{Plan}
use Rattle.pl_plan.specs.declared.plan.PlanStage.{PlanStage}
use Rattle.pl_results.specs.Nodes.{CanRun}
use Rattle.pl_seeing.specs.Seeing.{sources_of, AreSeen, IsMadeBy, IsMadeOf}
use Rattle.pl_torn.specs.Exclusive.{is_held}
use Rattle.pl_torn.specs.Holding.{has_other, is_leg_too_many, is_out_of_stage}
use Rattle.pl_torn.specs.Looking.{meta_told, plan_told, planned_stage, stage_told}
use Rattle.pl_torn.specs.Moments.{is_job_late, is_job_off, is_late, is_run_late, is_stage_late}
use Rattle.pl_torn.specs.Moments.{is_stage_off, job_begun, job_ended, may_be_late, stage_ended}
use Rattle.pl_torn.specs.Plans.{is_above, lacks_rows}
use Rattle.pl_torn.specs.Torn.{is_bad_job_of, is_bad_record, is_bad_stage_of, torn}
use Rattle.pl_torn.specs.declared.seen.Seen.{Seen}
use Rattle.pl_opened_laws.proofs.Good.{inner, neither, not_late, tell_numbers, TellNumbers}
use Rattle.pl_opened_laws.proofs.Known.{good_of, made_of, AreOpened}
use Rattle.pl_opened_laws.proofs.Lists.{each_in, in_each, In}
use Rattle.pl_opened_laws.proofs.Telling.{fact_told, is_told, tells_in}

-- it isn't later than this, and where it queues a run, the run's plan can run
pub record IsFitBy (last : ℕ) (fact : Fact) : Type 0 where
  pub moment : fact.moment ≤ last
  pub plan : CanRunIf (run_told fact.event)

abbrev pub Each : ℕ → List Fact → Type 0
Each last facts = AllByRecursion (IsFitBy last) facts

-- one fact, where there is one
module _ (last : ℕ) {X : Type 0} (f : X → Fact) where
  optional : (o : Option X) → ((x : X) → o ≡ Some x → IsFitBy last (f x)) →
      Each last (option_to_list (option_map f o))
  optional None fit = tt
  optional (Some x) fit = (fit x refl, tt)

module _ (all : List Seen) (tell : TellNumbers all) where
  abbrev last : ℕ
  last = tell.numbers.moment

  -- a moment that may be late isn't
  there : (o : Option ℕ) (moment : ℕ) → may_be_late (meta_told all) o ≡ false → o ≡ Some moment →
      moment ≤ last
  there o moment e is = not_late all tell moment
      (ap (λ (p : Option ℕ). may_be_late (meta_told all) p) (sym is) ∙ e)

  -- ---- a line a table

  run_fit : (told : KeptRun) (compiled : Option Compiled) →
      ((made : Compiled) → compiled ≡ Some made → CanRun made.plan) →
      is_run_late (meta_told all) told ≡ false → Each last (run_facts compiled told)
  run_fit told compiled runs e =
      let late = neither (is_late (meta_told all) told.moment) (may_be_late (meta_told all) told.canceled) e in
      each_joined (IsFitBy last) (option_to_list (option_map (queueing told) compiled))
      (option_to_list (option_map (λ moment. at moment (event.RunCanceled told.run)) told.canceled))
      (optional last (queueing told) compiled (λ made is.
      record { moment = not_late all tell told.moment late.0; plan = runs made is }))
      (optional last (λ moment. at moment (event.RunCanceled told.run)) told.canceled (λ moment is.
      record { moment = there told.canceled moment late.1 is; plan = tt }))

  stage_fit : (told : KeptStage) → is_stage_late (meta_told all) told ≡ false → Each last (stage_facts told)
  stage_fit told e =
      let late = neither (may_be_late (meta_told all) told.started) (may_be_late (meta_told all) (stage_ended told)) e in
      each_joined (IsFitBy last) (option_to_list (option_map
      (λ moment. at moment (event.StageStarted told.run told.position)) told.started))
      (option_to_list (option_map (stage_end told) told.ended))
      (optional last (λ moment. at moment (event.StageStarted told.run told.position)) told.started (λ moment is.
      record { moment = there told.started moment late.0 is; plan = tt }))
      (optional last (stage_end told) told.ended (λ ended is. record {
        moment = there (stage_ended told) ended.moment late.1
            (ap (option_map (λ end. end.moment)) is);
        plan = tt;
      }))

  job_fit : (told : KeptJob) → is_job_late (meta_told all) told ≡ false → Each last (job_facts told)
  job_fit told e =
      let late = neither (may_be_late (meta_told all) (job_begun told)) (may_be_late (meta_told all) (job_ended told)) e in
      each_joined (IsFitBy last)
      (option_to_list (option_map (taking told.run told.stage told.position) told.taken))
      (option_to_list (option_map (job_end told.run told.stage told.position) told.ended))
      (optional last (taking told.run told.stage told.position) told.taken (λ taken is. record {
        moment = there (job_begun told) taken.moment late.0
            (ap (option_map (λ one. one.moment)) is);
        plan = tt;
      }))
      (optional last (job_end told.run told.stage told.position) told.ended (λ ended is. record {
        moment = there (job_ended told) ended.moment late.1
            (ap (option_map (λ end. end.moment)) is);
        plan = tt;
      }))

  dated_fit : (admin : Digest) (before : List Seen) (compiled : Option Compiled)
      (told : Record) → ((run : KeptRun) → told ≡ kept.Run run → (made : Compiled) →
      compiled ≡ Some made → CanRun made.plan) →
      is_bad_record admin all before compiled told ≡ false → Each last (dated_in compiled told)
  dated_fit admin before compiled (kept.Run told) runs e =
      let rest = neither (lacks_rows all compiled told)
      (is_above (meta_told all) told || is_run_late (meta_told all) told) e in
      run_fit told compiled (runs told refl)
      (neither (is_above (meta_told all) told) (is_run_late (meta_told all) told) rest.1).1
  dated_fit admin before compiled (kept.Stage told) runs e =
      let plan = inner (λ (plan : Plan). option_map_or
      (is_bad_stage_of all before plan.stages told) (slice_get plan.stages told.position) true)
      (plan_told told.run all) e in
      let planned = inner (is_bad_stage_of all before plan.one.stages told)
      (slice_get plan.one.stages told.position) plan.good in
      let rest = neither (is_stage_off all plan.one.stages planned.one told)
      (is_stage_late (meta_told all) told || is_held all before planned.one told) planned.good in
      stage_fit told (neither (is_stage_late (meta_told all) told) (is_held all before planned.one told)
      rest.1).0
  dated_fit admin before compiled (kept.Job told) runs e =
      let planned = inner (λ (planned : PlanStage). option_map_or
      (is_bad_job_of all before told planned) (slice_get planned.jobs told.position) true)
      (planned_stage told.run told.stage all) e in
      let job = inner (is_bad_job_of all before told planned.one)
      (slice_get planned.one.jobs told.position) planned.good in
      let first = neither (is_out_of_stage (stage_told told.run told.stage all) told)
      (has_other before told || (is_leg_too_many planned.one job.one before told ||
      (is_job_off all planned.one.jobs job.one told || is_job_late (meta_told all) told))) job.good in
      let second = neither (has_other before told) (is_leg_too_many planned.one job.one before told ||
      (is_job_off all planned.one.jobs job.one told || is_job_late (meta_told all) told)) first.1 in
      let third = neither (is_leg_too_many planned.one job.one before told)
      (is_job_off all planned.one.jobs job.one told || is_job_late (meta_told all) told) second.1 in
      job_fit told (neither (is_job_off all planned.one.jobs job.one told) (is_job_late (meta_told all) told)
      third.1).1
  dated_fit admin before compiled (kept.Decision told) runs e =
      let late = neither (is_none (planned_stage told.run told.stage all))
      (is_late (meta_told all) told.moment) e in
      (record { moment = not_late all tell told.moment late.1; plan = tt }, tt)
  dated_fit admin before compiled (kept.Meta told) runs e = tt
  dated_fit admin before compiled (kept.File told) runs e = tt
  dated_fit admin before compiled (kept.Pipeline told) runs e = tt
  dated_fit admin before compiled (kept.Resource told) runs e = tt
  dated_fit admin before compiled (kept.Principal told) runs e = tt
  dated_fit admin before compiled (kept.Agent told) runs e = tt

  setting_fit : (told : Record) → Each last (setting_facts told)
  setting_fit (kept.Meta told) = tt
  setting_fit (kept.File told) = (record { moment = omega arith; plan = tt }, tt)
  setting_fit (kept.Pipeline told) = (record { moment = omega arith; plan = tt }, tt)
  setting_fit (kept.Resource told) = (record { moment = omega arith; plan = tt }, tt)
  setting_fit (kept.Principal told) = (record { moment = omega arith; plan = tt }, tt)
  setting_fit (kept.Agent told) = (record { moment = omega arith; plan = tt }, tt)
  setting_fit (kept.Run told) = tt
  setting_fit (kept.Stage told) = tt
  setting_fit (kept.Job told) = tt
  setting_fit (kept.Decision told) = tt

  pub row_fit : (admin : Digest) (before : List Seen) (compiled : Option Compiled)
      (told : Record) → ((run : KeptRun) → told ≡ kept.Run run → (made : Compiled) →
      compiled ≡ Some made → CanRun made.plan) →
      is_bad_record admin all before compiled told ≡ false → Each last (tells_in compiled told)
  row_fit admin before compiled told runs e = each_joined (IsFitBy last) (setting_facts told)
      (dated_in compiled told) (setting_fit told) (dated_fit admin before compiled told runs e)

-- ---- all facts

pub tell_all : (admin : Digest) (rows : List Row) (all : List Seen) → AreSeen rows all →
    torn admin all ≡ None → (one : Seen) → In one all → TellNumbers all
tell_all admin rows [] seen none one there = absurd there
tell_all admin rows (first ∷ all) seen none one there =
    tell_numbers admin rows first all seen none

module _ {admin : Digest} {rows : List Row} {all : List Seen} {facts : List Fact}
    (opens : AreOpened admin rows all facts) where
  pub fact_fit : (tell : TellNumbers all) (fact : Fact) → In fact facts →
      IsFitBy tell.numbers.moment fact
  fact_fit tell fact is =
      let by = fact_told all facts opens.are fact is in
      let other = is_told by.one fact by.among in
      let good = good_of opens by.one by.there other.told other.is in
      let made = made_of opens by.one by.there other.told other.is in
      each_in (IsFitBy tell.numbers.moment) (tells_in by.one.compiled other.told)
      (row_fit all tell admin good.before by.one.compiled other.told
      (λ run same one compiled. opens.run (sources_of run) one
      (subst (λ (o : Option Compiled). IsMadeOf (sources_of run) o) compiled
      (subst (λ (r : Record). IsMadeBy (Some r) by.one.compiled) same made))) good.good)
      fact other.among

  fits : (fact : Fact) → In fact facts → IsFit fact
  fits fact is =
      let by = fact_told all facts opens.are fact is in
      let tell = tell_all admin rows all opens.seen opens.none by.one by.there in
      let one = fact_fit tell fact is in
      record { moment = omega (arith, one.moment, tell.within.moment); plan = one.plan }

  pub facts_fit : AreFit facts
  facts_fit = All-from_recursion IsFit facts (in_each IsFit facts fits)
