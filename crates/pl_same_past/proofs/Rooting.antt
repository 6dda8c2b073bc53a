-- What a past is rooted in it stays rooted in.
use Rattle.std.proofs.Common.{◌≡◌, ◌&&◌, ℕ, Bool, true, false, true≢false, List, [], ◌∷◌, ◌++◌, Option}
use Rattle.std.proofs.Common.{Some, None, is_none, is_some, slice_get, if◌then◌else◌, refl, sym, ap, subst, ◌∙◌}
use Rattle.std.proofs.Common.{inl, inr}
use Rattle.std.proofs.lemmas.List.Elements.{All-contains}
use Rattle.std.specs.List.{AllByRecursion}
use Rattle.std.specs.Option.{option_and_then, option_map_or, option_or}
use Rattle.pl_opening_laws.specs.Below.pl_opening.specs.Below.pl_due.specs.Contention.{IsEligible, IsOne}
use Rattle.pl_opening_laws.specs.Below.pl_opening.specs.Below.pl_due.specs.Due.{Among, IsDue, Next, Superseded}
use Rattle.pl_opening_laws.specs.Below.pl_opening.specs.Below.pl_due.specs.Kinds.{Fails, IsDone, IsPassedOver, JobIsPassedOver, TimesOut}
use Rattle.pl_opening_laws.specs.Below.pl_opening.specs.Below.pl_due.specs.Least.{IsLeastOf}
use Rattle.pl_opening_laws.specs.Below.pl_opening.specs.Below.pl_due.specs.Nodes.{has_had, IsStageOf}
use Rattle.pl_facts.specs.declared.fact.Event.{Event}
use Rattle.pl_facts.specs.declared.fact.Event.TheVariants as event
use Rattle.pl_facts.specs.declared.fact.Fact.{Fact}
use Rattle.pl_facts.specs.declared.fact.QueuedRun.{QueuedRun}
use Rattle.pl_never_torn.specs.Below.pl_granting.specs.Named.{JobOf}
use Rattle.pl_never_torn.specs.Below.pl_granting.specs.Rules.{holder}
use Rattle.pl_journal.specs.About.{is_about, key_of}
use Rattle.pl_journal.specs.Kinds.{is_canceling, is_job_end, is_stage_end, is_start, is_taking}
use Rattle.pl_journal.specs.Log.{Log}
use Rattle.pl_journal.specs.Runs.{canceling, holding, job_end, job_ending, queueing, run_told}
use Rattle.pl_journal.specs.Runs.{skipping, stage_end, stage_start, taker_told, taking}
use Rattle.pl_journal.specs.Settings.{by}
use Rattle.pl_kept.specs.Kept.{planned_job, planned_stage}
use Rattle.pl_locks.specs.declared.contender.Contender.{Contender}
use Rattle.pl_log.specs.Keys as key
use Rattle.pl_plan.specs.declared.plan.PlanJob.{PlanJob}
use Rattle.pl_plan.specs.declared.plan.PlanStage.{PlanStage}
use Rattle.pl_never_torn.specs.Below.pl_queueing.specs.Queueing.{Made}
use Rattle.pl_never_torn.specs.Holders.{HoldOne, HoldsJob}
use Rattle.pl_never_torn.specs.Jobs.{AreJobsInTime}
use Rattle.pl_never_torn.proofs.Deciding.{asked_fresh, due_fresh, planned_stays, queueing_stays, Fresh}
use Rattle.pl_never_torn.proofs.Holding.{holding_keep, holds_none, Holding}
use Rattle.pl_never_torn.proofs.Jobs.{takes}
use Rattle.pl_never_torn.proofs.Rising.{joined, weaker}
use Rattle.pl_never_torn.proofs.Staying.{Keeps}
use Rattle.pl_never_torn.proofs.Telling.{IsReportedSo, IsTakenSo, Tells}
use Rattle.pl_same_step.specs.Below.pl_same_lookups.proofs.Finding.{never}
use Rattle.pl_same_past.specs.Rooted.{AreRooted, TakesOnce}
use Rattle.pl_same_past.proofs.Shapes.{canceling_is, end_is, found_is, job_end_is, start_is, taking_is}
use Rattle.pl_same_past.proofs.Shapes.{IsTaking}
use Rattle.pl_opening_laws.specs.Below.pl_opening.specs.Below.pl_settling.proofs.Behind.{touched, untouched}
use Rattle.pl_opening_laws.specs.Below.pl_opening.specs.Below.pl_settling.proofs.Giving.{gives, map_or_true}
use Rattle.pl_never_torn.specs.Below.pl_views.specs.Ready.{job_is_ready}

-- ---- what a fact stands on

abbrev Grounded : List Fact → Event → Type 0
Grounded facts (event.RunCanceled run) = ¬ (queueing run facts ≡ None)
Grounded facts (event.StageStarted run stage) = ¬ (planned_stage run stage facts ≡ None)
Grounded facts (event.StageEnded run stage outcome rule) =
    ¬ (planned_stage run stage facts ≡ None)
Grounded facts (event.JobTaken run stage job agent) = taking run stage job facts ≡ None
Grounded facts (event.JobEnded outcome reported stage job run rule outputs) =
    ¬ (planned_job run stage job facts ≡ None)
Grounded facts _ = Unit {0}

some_there : {X : Type 0} (o : Option X) (x : X) → o ≡ Some x → ¬ (o ≡ None)
some_there o x e none = never x (sym none ∙ e)

is_planned : (facts : List Fact) (run stage : ℕ) (told : QueuedRun) (one : PlanStage) →
    IsStageOf facts run stage told one → planned_stage run stage facts ≡ Some one
is_planned facts run stage told one is =
    ap (option_and_then (λ (it : QueuedRun). slice_get it.compiled.plan.stages stage)) is.queued
    ∙ is.planned

stage_there : (facts : List Fact) (run stage : ℕ) (told : QueuedRun) (one : PlanStage) →
    IsStageOf facts run stage told one → ¬ (planned_stage run stage facts ≡ None)
stage_there facts run stage told one is =
    some_there (planned_stage run stage facts) one (is_planned facts run stage told one is)

job_there : (facts : List Fact) (run stage job : ℕ) (told : QueuedRun) (one : PlanStage)
    (planned : PlanJob) → IsStageOf facts run stage told one →
    slice_get one.jobs job ≡ Some planned → ¬ (planned_job run stage job facts ≡ None)
job_there facts run stage job told one planned is there =
    some_there (planned_job run stage job facts) planned
    (ap (option_and_then (λ (it : PlanStage). slice_get it.jobs job))
    (is_planned facts run stage told one is) ∙ there)

-- ---- what is due

module _ (facts : List Fact) (moment : ℕ) (told : Event) where
  by_timeout : IsLeastOf facts (TimesOut facts moment) told → Grounded facts told
  by_timeout least =
      let (queued, one, there, is) = least.is in
      let (planned, found, held) = map_or_true
      (λ (p : PlanJob). option_map_or (λ (fact : Fact). has_had p.timeout fact.moment moment)
      (holding least.run least.stage least.job facts) false) (slice_get one.jobs least.job) is.over
      in
      subst (Grounded facts) (sym is.gets)
      (job_there facts least.run least.stage least.job queued one planned there found)

  by_false_job : IsLeastOf facts (JobIsPassedOver facts) told → Grounded facts told
  by_false_job least =
      let (queued, one, there, is) = least.is in
      let (planned, found, held) = map_or_true
      (λ (p : PlanJob). is_none (taking least.run least.stage least.job facts)
      && is_none (job_ending least.run least.stage least.job facts)
      && job_is_ready p least.run least.stage facts) (slice_get one.jobs least.job) is.awaits in
      subst (Grounded facts) (sym is.gets)
      (job_there facts least.run least.stage least.job queued one planned there found)

  by_done : IsLeastOf facts (IsDone facts) told → Grounded facts told
  by_done least = let (queued, one, there, is) = least.is in
      subst (Grounded facts) (sym is.gets)
      (stage_there facts least.run least.stage queued one there)

  by_false : IsLeastOf facts (IsPassedOver facts) told → Grounded facts told
  by_false least = let (queued, one, there, is) = least.is in
      subst (Grounded facts) (sym is.gets)
      (stage_there facts least.run least.stage queued one there)

  by_fail : IsLeastOf facts (Fails facts moment) told → Grounded facts told
  by_fail least = let (queued, one, there, is) = least.is in
      subst (Grounded facts) (sym is.gets)
      (stage_there facts least.run least.stage queued one there)

  by_superseded : Among facts moment Superseded (Some told) → Grounded facts told
  by_superseded (locks, contention, is) =
      let its : IsOne facts (IsEligible facts moment) is.stage =
      All-contains (IsOne facts (IsEligible facts moment)) locks.eligible is.stage
      contention.eligible.only is.is.is_eligible in
      subst (Grounded facts) (sym is.gets)
      (stage_there facts is.stage.run is.stage.position its.told its.one its.there)

  by_next : Among facts moment Next (Some told) → Grounded facts told
  by_next (locks, contention, is) =
      let its : IsOne facts (IsEligible facts moment) is.stage =
      All-contains (IsOne facts (IsEligible facts moment)) locks.eligible is.stage
      contention.eligible.only is.is.is_eligible in
      subst (Grounded facts) (sym is.gets)
      (stage_there facts is.stage.run is.stage.position its.told its.one its.there)

same_event : (facts : List Fact) (a b : Event) → Some a ≡ Some b → Grounded facts b →
    Grounded facts a
same_event facts a b is due = let e : a ≡ b = cc in subst (Grounded facts) (sym e) due

due_grounded : (facts : List Fact) (moment : ℕ) (told : Event) → IsDue facts moment (Some told) →
    Grounded facts told
due_grounded f m e (inl (x, is, k)) = same_event f e x is (by_timeout f m x k)
due_grounded f m e (inr (n1, inl (x, is, k))) = same_event f e x is (by_false_job f m x k)
due_grounded f m e (inr (n1, inr (n2, inl (x, is, k)))) = same_event f e x is (by_done f m x k)
due_grounded f m e (inr (n1, inr (n2, inr (n3, inl (x, is, k))))) =
    same_event f e x is (by_false f m x k)
due_grounded f m e (inr (n1, inr (n2, inr (n3, inr (n4, inl (x, is, k)))))) =
    same_event f e x is (by_fail f m x k)
due_grounded f m e (inr (n1, inr (n2, inr (n3, inr (n4, inr (n5, inl (x, is, k))))))) =
    same_event f e x is (by_superseded f m x k)
due_grounded f m e
    (inr (n1, inr (n2, inr (n3, inr (n4, inr (n5, inr (n6, inl (x, is, k)))))))) =
    same_event f e x is (by_next f m x k)
due_grounded f m e
    (inr (n1, inr (n2, inr (n3, inr (n4, inr (n5, inr (n6, inr (n7, none)))))))) =
    absurd (cc)

-- ---- what happens by a request

or_none : {X : Type 0} (a b : Option X) → option_or a b ≡ None → a ≡ None
or_none None b h = refl
or_none (Some x) b h = h

-- a job that an agent may be given was never taken
module _ (facts : List Fact) (jobs : AreJobsInTime facts) (holds : HoldOne facts)
    (run stage job : ℕ) (agent : List ℕ) (is : IsTakenSo facts run stage job agent) where
  abbrev at : JobOf
  at = is.at

  untaken_at : (o : Option Fact) → taking at.run at.stage at.job facts ≡ o →
      taking at.run at.stage at.job facts ≡ None
  untaken_at None e = e
  untaken_at (Some take) e =
      let its : IsTaking at.run at.stage at.job take.event = found_is
      (key.Job at.run at.stage at.job) is_taking (IsTaking at.run at.stage at.job)
      (taking_is at.run at.stage at.job) facts take e in
      let told : taker_told take.event ≡ Some its.0 = ap taker_told its.1 in
      let held : holder facts at ≡ Some its.0 =
      ap (λ (o : Option Fact). by taker_told (if is_some o then None
      else taking at.run at.stage at.job facts)) is.free.unended
      ∙ (ap (λ (o : Option Fact). by taker_told o) e ∙ told) in
      let who : its.0 ≡ is.who.name = is.free.untaken its.0 held in
      let job : HoldsJob facts is.who.name at.run at.stage at.job = record {
        take = take;
        is = e;
        who = told ∙ ap Some who;
        unended = or_none (job_end at.run at.stage at.job facts)
            (skipping at.run at.stage facts) is.free.unended;
      } in
      absurd (holds_none facts jobs holds is.who.name is.free.idle at.run at.stage at.job job)

  untaken : taking run stage job facts ≡ None
  untaken = subst (λ x. taking x stage job facts ≡ None) is.of_run
      (subst (λ x. taking at.run x job facts ≡ None) is.of_stage
      (subst (λ x. taking at.run at.stage x facts ≡ None) is.of_job
      (untaken_at (taking at.run at.stage at.job facts) refl)))

reported_there : (facts : List Fact) → HoldOne facts → (run stage job : ℕ) →
    IsReportedSo facts run stage job → ¬ (planned_job run stage job facts ≡ None)
reported_there facts holds run stage job is =
    subst (λ x. ¬ (planned_job x stage job facts ≡ None)) is.of_run
    (subst (λ x. ¬ (planned_job is.at.run x job facts ≡ None)) is.of_stage
    (subst (λ x. ¬ (planned_job is.at.run is.at.stage x facts ≡ None)) is.of_job
    (holds.planned is.at.run is.at.stage is.at.job is.taken)))

asked_grounded : (log : Log) (made : Made) → Holding log → (told : Event) →
    Tells log made told → Grounded log.facts told
asked_grounded log made holding (event.RunCanceled run) is = is
asked_grounded log made holding (event.JobTaken run stage job agent) is =
    untaken log.facts holding.0.2 holding.1 run stage job agent is
asked_grounded log made holding (event.JobEnded outcome reported stage job run rule outputs) is =
    reported_there log.facts holding.1 run stage job is.1
asked_grounded log made holding (event.StageStarted run stage) is = absurd is
asked_grounded log made holding (event.StageEnded run stage outcome rule) is = absurd is
asked_grounded log made holding _ is = tt

-- ---- behind one fact more

module _ (facts : List Fact) (one : Fact) (fresh : Fresh facts one.event)
    (ground : Grounded facts one.event) (was : AreRooted facts) where
  abbrev more : List Fact
  more = facts ++ one ∷ []

  abbrev of : key.Named → (Event → Bool) → Fact → Bool
  of named kind fact = is_about named fact && kind fact.event

  stage_stays : (run stage : ℕ) → ¬ (planned_stage run stage facts ≡ None) →
      ¬ (planned_stage run stage more ≡ None)
  stage_stays run stage there none =
      there (sym (planned_stays facts one fresh run stage there) ∙ none)

  abbrev job_by : ℕ → ℕ → Option Fact → Option PlanJob
  job_by stage job o = option_and_then (λ (staged : PlanStage). slice_get staged.jobs job)
      (option_and_then (λ (told : QueuedRun). slice_get told.compiled.plan.stages stage)
      (by run_told o))

  job_stays : (run stage job : ℕ) → ¬ (planned_job run stage job facts ≡ None) →
      ¬ (planned_job run stage job more ≡ None)
  job_stays run stage job there none = there (sym (ap (job_by stage job)
      (queueing_stays facts one fresh run (λ nothing. there (ap (job_by stage job) nothing))))
      ∙ none)

  canceled_more : (run : ℕ) → ¬ (canceling run more ≡ None) → ¬ (queueing run more ≡ None)
  canceled_more run there none = it (sym (queueing_stays facts one fresh run it) ∙ none) where
    before : (b : Bool) → of (key.Run run) is_canceling one ≡ b → ¬ (queueing run facts ≡ None)
    before true is = subst (Grounded facts) (canceling_is run one.event is) ground
    before false is = was.canceled run
        (λ nothing. there (untouched (of (key.Run run) is_canceling) facts one is ∙ nothing))

    it : ¬ (queueing run facts ≡ None)
    it = before (of (key.Run run) is_canceling one) refl

  started_more : (run stage : ℕ) → ¬ (stage_start run stage more ≡ None) →
      ¬ (planned_stage run stage more ≡ None)
  started_more run stage there =
      stage_stays run stage (before (of (key.Stage run stage) is_start one) refl)
    where
      before : (b : Bool) → of (key.Stage run stage) is_start one ≡ b →
          ¬ (planned_stage run stage facts ≡ None)
      before true is = subst (Grounded facts) (start_is run stage one.event is) ground
      before false is = was.started run stage (λ nothing.
          there (untouched (of (key.Stage run stage) is_start) facts one is ∙ nothing))

  ended_more : (run stage : ℕ) → ¬ (stage_end run stage more ≡ None) →
      ¬ (planned_stage run stage more ≡ None)
  ended_more run stage there =
      stage_stays run stage (before (of (key.Stage run stage) is_stage_end one) refl)
    where
      before : (b : Bool) → of (key.Stage run stage) is_stage_end one ≡ b →
          ¬ (planned_stage run stage facts ≡ None)
      before true is = subst (Grounded facts) (end_is run stage one.event is).2 ground
      before false is = was.ended run stage (λ nothing.
          there (untouched (of (key.Stage run stage) is_stage_end) facts one is ∙ nothing))

  job_ended_more : (run stage job : ℕ) → ¬ (job_end run stage job more ≡ None) →
      ¬ (planned_job run stage job more ≡ None)
  job_ended_more run stage job there =
      job_stays run stage job (before (of (key.Job run stage job) is_job_end one) refl)
    where
      before : (b : Bool) → of (key.Job run stage job) is_job_end one ≡ b →
          ¬ (planned_job run stage job facts ≡ None)
      before true is = subst (Grounded facts) (job_end_is run stage job one.event is).4 ground
      before false is = was.job_ended run stage job (λ nothing.
          there (untouched (of (key.Job run stage job) is_job_end) facts one is ∙ nothing))

  once_still : (fact : Fact) → TakesOnce facts fact → TakesOnce more fact
  once_still fact once run stage job is = go (takes run stage job one) refl where
    go : (b : Bool) → takes run stage job one ≡ b → taking run stage job more ≡ Some fact
    go true its =
        let none : taking run stage job facts ≡ None =
        subst (Grounded facts) (taking_is run stage job one.event its).1 ground in
        absurd (never fact (sym none ∙ once run stage job is))
    go false its = untouched (takes run stage job) facts one its ∙ once run stage job is

  rooted_more : AreRooted more
  rooted_more = record {
    canceled = canceled_more;
    started = started_more;
    ended = ended_more;
    job_ended = job_ended_more;
    once = joined (TakesOnce more) facts (one ∷ [])
        (weaker (TakesOnce facts) (TakesOnce more) once_still facts was.once)
        (λ run stage job is. touched (takes run stage job) facts one is, tt);
  }

-- ---- along a legal history

abbrev pub Rooted : Log → Type 0
Rooted log = Holding log × AreRooted log.facts

pub rooted_keep : Keeps Rooted
rooted_keep = record {
  due = λ log one before is_due was. (
    holding_keep.due log one before is_due was.0,
    rooted_more log.facts one (due_fresh log.facts one.moment one.event
        (gives log.facts one.moment one.event is_due))
        (due_grounded log.facts one.moment one.event is_due) was.1,
  );
  asked = λ log made one has before few tells was. (
    holding_keep.asked log made one has before few tells was.0,
    rooted_more log.facts one (asked_fresh log made one few was.0.0.0 one.event refl tells)
        (asked_grounded log made was.0 one.event tells) was.1,
  );
  installed = λ log count was. (holding_keep.installed log count was.0, was.1);
}
