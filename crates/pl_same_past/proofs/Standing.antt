-- What holds of one past holds of another in which the same is found.
use Rattle.std.proofs.Common.{◌≡◌, ◌≤◌, ◌&&◌, ℕ, Bool, true, false, List, [], ◌∷◌, Option, Some, None}
use Rattle.std.proofs.Common.{slice_get, refl, sym, ap, subst, ◌∙◌, arith}
use Rattle.std.specs.List.{AllByRecursion}
use Rattle.std.specs.Option.{option_and_then}
use Rattle.pl_base.specs.declared.digest.Digest.{Digest}
use Rattle.pl_facts.specs.declared.fact.Event.{Event}
use Rattle.pl_facts.specs.declared.fact.Event.TheVariants as event
use Rattle.pl_facts.specs.declared.fact.Fact.{Fact}
use Rattle.pl_facts.specs.declared.fact.QueuedRun.{QueuedRun}
use Rattle.pl_never_torn.specs.Below.pl_granting.specs.Named.{IsJobOf, JobOf}
use Rattle.pl_journal.specs.About.{is_about, is_also_about, latest_also}
use Rattle.pl_journal.specs.Kinds.{is_job_end}
use Rattle.pl_journal.specs.Runs.{decision, job_end, run_told, stage_end, stage_start, taking}
use Rattle.pl_journal.specs.Settings.{by}
use Rattle.pl_kept.specs.Kept.{planned_job, planned_stage}
use Rattle.pl_log.proofs.Naming.{key_itself}
use Rattle.pl_log.specs.Keys.{Taker}
use Rattle.pl_log.specs.Keys as key
use Rattle.pl_never_torn.specs.Holders.{HoldOne, HoldsJob, Rise}
use Rattle.pl_never_torn.specs.Jobs.{AreJobsInTime, AreSaid, IsSaid, JobHadEnded}
use Rattle.pl_never_torn.specs.Legs.{HaveRoom}
use Rattle.pl_never_torn.specs.Owners.{AreApart}
use Rattle.pl_never_torn.specs.Planned.{ArePlanned}
use Rattle.pl_never_torn.specs.Stages.{AreInTime, HadEnded}
use Rattle.pl_never_torn.proofs.Holding.{about_takes, latest_late, one_is_there}
use Rattle.pl_never_torn.proofs.Jobs.{takes}
use Rattle.pl_never_torn.proofs.Late.{latest_has}
use Rattle.pl_opening_laws.specs.Below.pl_opening.specs.Below.pl_opened_laws.proofs.Lists.{in_each, In}
use Rattle.pl_plan.specs.declared.plan.PlanJob.{PlanJob}
use Rattle.pl_plan.specs.declared.plan.PlanStage.{PlanStage}
use Rattle.pl_requests.specs.declared.settings.PrincipalSetting.{PrincipalSetting}
use Rattle.pl_same_step.specs.Below.pl_same_lookups.specs.Alike.{LookAlike}
use Rattle.pl_same_step.specs.Below.pl_same_lookups.proofs.Finding.{never, passes}
use Rattle.pl_same_past.specs.Rooted.{TakesOnce}
use Rattle.pl_same_step.proofs.Seeing.{legs_same, queued_same}

-- one holds of each of some items, as another does
each_moved : {X : Type 0} (P Q : X → Type 0) → ((x : X) → P x → Q x) → (xs : List X) →
    AllByRecursion P xs → AllByRecursion Q xs
each_moved P Q to [] each = tt
each_moved P Q to (x ∷ xs) each = (to x each.0, each_moved P Q to xs each.1)

module _ (facts other : List Fact) (alike : LookAlike facts other) where
  -- ---- plans

  stage_planned : (run stage : ℕ) → planned_stage run stage facts ≡ planned_stage run stage other
  stage_planned run stage = λ i. option_and_then
      (λ (told : QueuedRun). slice_get told.compiled.plan.stages stage)
      (by run_told (alike.queueings run i))

  job_planned : (run stage job : ℕ) →
      planned_job run stage job facts ≡ planned_job run stage job other
  job_planned run stage job = λ i. option_and_then
      (λ (told : PlanStage). slice_get told.jobs job) (stage_planned run stage i)

  -- ---- principals and decisions

  pub apart_moved : (admin : Digest) → AreApart admin facts → AreApart admin other
  apart_moved admin apart = record {
    own = λ name told e. apart.own name told (alike.principals name ∙ e);
    one = λ name its told also e f has. apart.one name its told also (alike.principals name ∙ e)
        (alike.principals its ∙ f) has;
  }

  pub planned_moved : ArePlanned facts → ArePlanned other
  planned_moved planned = λ run stage name there none. planned run stage name
      (λ nothing. there (sym (alike.decisions run stage name) ∙ nothing))
      (stage_planned run stage ∙ none)

  -- ---- stages and jobs in time

  pub in_time_moved : AreInTime facts → AreInTime other
  in_time_moved in_time = record {
    ends = λ run stage start end e f. in_time.ends run stage start end
        (alike.starts run stage ∙ e) (alike.ends run stage ∙ f);
    waits = λ run stage planned start e f. each_moved (HadEnded facts start.moment run)
        (HadEnded other start.moment run) (ended_moved start.moment run) planned.depends
        (in_time.waits run stage planned start (stage_planned run stage ∙ e)
        (alike.starts run stage ∙ f));
  }
    where
      ended_moved : (moment run stage : ℕ) → HadEnded facts moment run stage →
          HadEnded other moment run stage
      ended_moved moment run stage had = record {
        end = had.end;
        is = sym (alike.ends run stage) ∙ had.is;
        before = had.before;
      }

  pub jobs_moved : AreJobsInTime facts → AreJobsInTime other
  jobs_moved jobs = record {
    taken = λ run stage job there none. jobs.taken run stage job
        (λ nothing. there (sym (alike.takings run stage job) ∙ nothing))
        (alike.starts run stage ∙ none);
    ended = λ run stage job there none. jobs.ended run stage job
        (λ nothing. there (sym (alike.job_ends run stage job) ∙ nothing))
        (alike.starts run stage ∙ none);
    ends = λ run stage job take end e f. jobs.ends run stage job take end
        (alike.takings run stage job ∙ e) (alike.job_ends run stage job ∙ f);
    waits = λ run stage job planned take e f. each_moved (JobHadEnded facts take.moment run stage)
        (JobHadEnded other take.moment run stage) (job_ended_moved take.moment run stage)
        planned.depends (jobs.waits run stage job planned take
        (job_planned run stage job ∙ e) (alike.takings run stage job ∙ f));
  }
    where
      job_ended_moved : (moment run stage job : ℕ) → JobHadEnded facts moment run stage job →
          JobHadEnded other moment run stage job
      job_ended_moved moment run stage job had = record {
        end = had.end;
        is = sym (alike.job_ends run stage job) ∙ had.is;
        before = had.before;
      }

  -- ---- what is said of a job's end, where each is the one that is found

  abbrev EndsOnce : Type 0
  EndsOnce = (run stage job : ℕ) (fact : Fact) → In fact other →
      (is_about (key.Job run stage job) fact && is_job_end fact.event) ≡ true →
      job_end run stage job other ≡ Some fact

  pub said_moved : AreSaid facts → EndsOnce → AreSaid other
  said_moved said once = in_each (λ (fact : Fact). IsSaid fact.event) other
      (λ fact among. by_event fact among fact.event refl)
    where
      by_event : (fact : Fact) → In fact other → (one : Event) → fact.event ≡ one → IsSaid one
      by_event fact among (event.JobEnded outcome reported stage job run rule outputs) e =
          let test : (is_about (key.Job run stage job) fact && is_job_end fact.event) ≡ true =
          ap (λ (it : Event). is_about (key.Job run stage job) (record fact { event = it })
          && is_job_end it) e
          ∙ ap (λ (b : Bool). b && true) (key_itself (key.Job run stage job)) in
          let found : job_end run stage job facts ≡ Some fact =
          alike.job_ends run stage job ∙ once run stage job fact among test in
          subst IsSaid e (latest_has (λ (it : Fact). IsSaid it.event) _ facts fact said found)
      by_event fact among _ e = tt

  -- ---- holders

  held_before : (agent : List ℕ) (run stage job : ℕ) → HoldsJob other agent run stage job →
      HoldsJob facts agent run stage job
  held_before agent run stage job its = record {
    take = its.take;
    is = alike.takings run stage job ∙ its.is;
    who = its.who;
    unended = alike.job_ends run stage job ∙ its.unended;
  }

  -- an agent's last taking isn't later than its last taking there
  last_there : HoldOne facts → AllByRecursion (TakesOnce other) other → (agent : List ℕ)
      (run stage job : ℕ) (its : HoldsJob other agent run stage job) (last : Fact) →
      latest_also (Taker agent) other ≡ Some last → last.moment ≤ its.take.moment
  unfolding held_before
  last_there holds once agent run stage job its last e =
      let about : is_also_about (Taker agent) last ≡ true =
      passes (is_also_about (Taker agent)) other last e in
      let taken = about_takes last.event agent about in
      let here : taking taken.run taken.stage taken.job other ≡ Some last =
      latest_has (TakesOnce other) (is_also_about (Taker agent)) other last once e taken.run
      taken.stage taken.job taken.of in
      let there : taking taken.run taken.stage taken.job facts ≡ Some last =
      alike.takings taken.run taken.stage taken.job ∙ here in
      go about taken.run taken.stage taken.job there (latest_also (Taker agent) facts) refl
    where
      go : is_also_about (Taker agent) last ≡ true → (r s j : ℕ) →
          taking r s j facts ≡ Some last → (o : Option Fact) →
          latest_also (Taker agent) facts ≡ o → last.moment ≤ its.take.moment
      go about r s j there None f = absurd (one_is_there (takes r s j)
          (is_also_about (Taker agent)) facts last there about f)
      go about r s j there (Some final) f =
          let late : last.moment ≤ final.moment = latest_late (takes r s j)
          (is_also_about (Taker agent)) facts last final holds.rise there about f in
          let early : final.moment ≤ its.take.moment = holds.last agent run stage job
          (held_before agent run stage job its) final f in
          omega (arith, late, early)

  pub holds_moved : HoldOne facts → Rise other → AllByRecursion (TakesOnce other) other →
      HoldOne other
  holds_moved holds rise once = record {
    rise = rise;
    planned = λ run stage job there none. holds.planned run stage job
        (λ nothing. there (sym (alike.takings run stage job) ∙ nothing))
        (job_planned run stage job ∙ none);
    one = λ agent run stage job r s j its also. holds.one agent run stage job r s j
        (held_before agent run stage job its) (held_before agent r s j also);
    last = last_there holds once;
  }

  -- ---- legs

  pub room_moved : HaveRoom facts → HaveRoom other
  room_moved room = λ at is_at. subst (λ n. n ≤ at.planned.max_parallel)
      (legs_same facts other alike at) (room at (record {
        queued = queued_same facts other alike at.run ∙ is_at.queued;
        staged = is_at.staged;
        planned = is_at.planned;
      }))
