-- No record that is kept is later than the last moment.
use Rattle.std.proofs.Common.{◌≡◌, ◌≤◌, ℕ, nat_lt, Bool, true, false, List, [], ◌∷◌, Option, Some}
use Rattle.std.proofs.Common.{None, refl, sym, ap, subst, ◌∙◌, arith}
use Rattle.std.proofs.lemmas.Bool.Decides.{nat_tests}
use Rattle.std.specs.List.{AllByRecursion}
use Rattle.std.specs.Option.{option_and_then, option_map, option_or}
use Rattle.std.specs.Prelude.{unwrap_or, IfSome, if◌then◌else◌}
use Rattle.pl_facts.specs.Sizes.{counted}
use Rattle.pl_facts.specs.declared.fact.Event.{Event}
use Rattle.pl_facts.specs.declared.fact.Event.TheVariants as event
use Rattle.pl_facts.specs.declared.fact.Fact.{Fact}
use Rattle.pl_journal.specs.Log.{Log, last_moment, last_run, version}
use Rattle.pl_journal.specs.Runs.{canceling, decision, job_end, queueing, run_told, stage_end}
use Rattle.pl_journal.specs.Runs.{stage_start, taking, verdict_told}
use Rattle.pl_journal.specs.Settings.{agent_set, file, pipeline, principal_set, resource_set}
use Rattle.pl_keeper.specs.declared.records.Meta.{Meta}
use Rattle.pl_keeper.specs.declared.records.Record.{Record}
use Rattle.pl_keeper.specs.declared.records.Record.TheVariants as kept
use Rattle.pl_changes.proofs.Leading.{none_some, or_false}
use Rattle.pl_kept.specs.Kept.{kept_at, numbers_kept, planned_job, planned_stage, Where, File}
use Rattle.pl_kept.specs.Kept.{Pipeline, Resource, Principal, Agent, Run, Stage, Job, Decision}
use Rattle.pl_kept.specs.Told.{job_end_at, job_end_told, moment_of, stage_end_at, stage_end_told}
use Rattle.pl_kept.specs.Told.{taking_at, taking_told}
use Rattle.pl_log.specs.Latest.{latest}
use Rattle.pl_torn.specs.Moments.{is_late, job_begun, job_ended, may_be_late, stage_ended}
use Rattle.pl_never_torn.specs.Late.{IsNotLate}
use Rattle.pl_never_torn.specs.Rising.{NoneLater}

-- ---- the latest fact has what each has

pub latest_has : (P : Fact → Type 0) (test : Fact → Bool) (facts : List Fact) (fact : Fact) →
    AllByRecursion P facts → latest test facts ≡ Some fact → P fact
latest_has P test [] fact each e = absurd (none_some None fact refl e)
latest_has P test (one ∷ facts) fact each e =
    by (latest test facts) refl (latest_has P test facts fact each.1) where
      here : (b : Bool) → (if b then Some one else None) ≡ Some fact → P fact
      here true f = subst P (ap (λ (o : Option Fact). unwrap_or o one) f) each.0
      here false f = absurd (none_some None fact refl f)

      by : (o : Option Fact) → latest test facts ≡ o → (latest test facts ≡ Some fact → P fact) →
          P fact
      by (Some other) f rest = rest (f ∙ (sym (ap (λ (o : Option Fact).
          option_or o (if test one then Some one else None)) f) ∙ e))
      by None f rest = here (test one) (sym (ap (λ (o : Option Fact).
          option_or o (if test one then Some one else None)) f) ∙ e)

-- ---- what is kept isn't later than the facts

abbrev Early : ℕ → Option ℕ → Type 0
Early last moment = IfSome moment (λ it. it ≤ last)

-- the moments of a record, a line a table
abbrev AreEarly : ℕ → Record → Type 0
AreEarly last (kept.Run told) = (told.moment ≤ last) × Early last told.canceled
AreEarly last (kept.Stage told) = Early last told.started × Early last (stage_ended told)
AreEarly last (kept.Job told) = Early last (job_begun told) × Early last (job_ended told)
AreEarly last (kept.Decision told) = told.moment ≤ last
AreEarly last _ = Unit {0}

mapped : {X : Type 0} (last : ℕ) (f : X → Record) → ((x : X) → AreEarly last (f x)) →
    (o : Option X) (told : Record) → option_map f o ≡ Some told → AreEarly last told
mapped last f each None told e = absurd (none_some None told refl e)
mapped last f each (Some x) told e =
    subst (AreEarly last) (ap (λ (o : Option Record). unwrap_or o told) e) (each x)

led : {X Y : Type 0} (last : ℕ) (P : X → Type 0) (g : X → Option Y) (f : X → Y → Record) →
    ((x : X) (y : Y) → P x → AreEarly last (f x y)) → (o : Option X) →
    ((x : X) → o ≡ Some x → P x) → (told : Record) →
    option_and_then (λ x. option_map (f x) (g x)) o ≡ Some told → AreEarly last told
led last P g f each None has told e = absurd (none_some None told refl e)
led last P g f each (Some x) has told e =
    mapped last (f x) (λ y. each x y (has x refl)) (g x) told e

stage_end_early : (last moment : ℕ) (told : Event) → moment ≤ last →
    Early last (option_map (λ ended. ended.moment) (stage_end_at moment told))
stage_end_early last moment (event.StageEnded run stage outcome rule) early = early
stage_end_early last moment _ early = tt

taking_early : (last moment : ℕ) (told : Event) → moment ≤ last →
    Early last (option_map (λ taken. taken.moment) (taking_at moment told))
taking_early last moment (event.JobTaken run stage job agent) early = early
taking_early last moment _ early = tt

job_end_early : (last moment : ℕ) (told : Event) → moment ≤ last →
    Early last (option_map (λ ended. ended.moment) (job_end_at moment told))
job_end_early last moment (event.JobEnded outcome reported stage job run rule outputs) early =
    early
job_end_early last moment _ early = tt

module _ (last : ℕ) (facts : List Fact)
    (each : AllByRecursion (λ fact. fact.moment ≤ last) facts) where
  found_early : (test : Fact → Bool) (fact : Fact) → latest test facts ≡ Some fact →
      fact.moment ≤ last
  found_early test fact e = latest_has (λ one. one.moment ≤ last) test facts fact each e

  moment_early : (test : Fact → Bool) (o : Option Fact) → latest test facts ≡ o →
      Early last (option_map moment_of o)
  moment_early test None e = tt
  moment_early test (Some fact) e = found_early test fact e

  ended_early : (test : Fact → Bool) (o : Option Fact) → latest test facts ≡ o →
      Early last (option_map (λ ended. ended.moment) (stage_end_told o))
  ended_early test None e = tt
  ended_early test (Some fact) e =
      stage_end_early last fact.moment fact.event (found_early test fact e)

  taken_early : (test : Fact → Bool) (o : Option Fact) → latest test facts ≡ o →
      Early last (option_map (λ taken. taken.moment) (taking_told o))
  taken_early test None e = tt
  taken_early test (Some fact) e =
      taking_early last fact.moment fact.event (found_early test fact e)

  job_ended_early : (test : Fact → Bool) (o : Option Fact) → latest test facts ≡ o →
      Early last (option_map (λ ended. ended.moment) (job_end_told o))
  job_ended_early test None e = tt
  job_ended_early test (Some fact) e =
      job_end_early last fact.moment fact.event (found_early test fact e)

  kept_early : (at : Where) (told : Record) → kept_at at facts ≡ Some told → AreEarly last told
  kept_early (File key) told e = mapped last _ (λ x. tt) (file key facts) told e
  kept_early (Pipeline name) told e = mapped last _ (λ x. tt) (pipeline name facts) told e
  kept_early (Resource key) told e = mapped last _ (λ x. tt) (resource_set key facts) told e
  kept_early (Principal name) told e = mapped last _ (λ x. tt) (principal_set name facts) told e
  kept_early (Agent name) told e = mapped last _ (λ x. tt) (agent_set name facts) told e
  kept_early (Run run) told e = led last (λ fact. fact.moment ≤ last)
      (λ (fact : Fact). run_told fact.event) _
      (λ x y early. (early, moment_early _ (canceling run facts) refl)) (queueing run facts)
      (λ fact f. found_early _ fact f) told e
  kept_early (Stage run stage) told e = mapped last _
      (λ x. (
        moment_early _ (stage_start run stage facts) refl,
        ended_early _ (stage_end run stage facts) refl,
      )) (planned_stage run stage facts) told e
  kept_early (Job run stage job) told e = mapped last _
      (λ x. (
        taken_early _ (taking run stage job facts) refl,
        job_ended_early _ (job_end run stage job facts) refl,
      )) (planned_job run stage job facts)
      told e
  kept_early (Decision run stage name) told e = led last (λ fact. fact.moment ≤ last)
      (λ (fact : Fact). verdict_told fact.event) _ (λ x y early. early)
      (decision run stage name facts) (λ fact f. found_early _ fact f) told e

-- ---- so it isn't late

in_time : (last moment : ℕ) → moment ≤ last → nat_lt last moment ≡ false
in_time last moment early = grind (arith, nat_tests)

may_be_in_time : (numbers : Meta) (moment : Option ℕ) → Early numbers.moment moment →
    may_be_late (Some numbers) moment ≡ false
may_be_in_time numbers None early = refl
may_be_in_time numbers (Some moment) early = in_time numbers.moment moment early

not_late : (numbers : Meta) (told : Record) → AreEarly numbers.moment told →
    IsNotLate numbers told
not_late numbers (kept.Run told) early =
    or_false (is_late (Some numbers) told.moment) (may_be_late (Some numbers) told.canceled)
    (in_time numbers.moment told.moment early.0) (may_be_in_time numbers told.canceled early.1)
not_late numbers (kept.Stage told) early =
    or_false (may_be_late (Some numbers) told.started)
    (may_be_late (Some numbers) (stage_ended told)) (may_be_in_time numbers told.started early.0)
    (may_be_in_time numbers (stage_ended told) early.1)
not_late numbers (kept.Job told) early =
    or_false (may_be_late (Some numbers) (job_begun told))
    (may_be_late (Some numbers) (job_ended told)) (may_be_in_time numbers (job_begun told) early.0)
    (may_be_in_time numbers (job_ended told) early.1)
not_late numbers (kept.Decision told) early = in_time numbers.moment told.moment early
not_late numbers (kept.Meta told) early = tt
not_late numbers (kept.File told) early = tt
not_late numbers (kept.Pipeline told) early = tt
not_late numbers (kept.Resource told) early = tt
not_late numbers (kept.Principal told) early = tt
not_late numbers (kept.Agent told) early = tt

-- the numbers tell the last moment
the_moment : (change : ℕ) (log : Log) (numbers : Meta) →
    numbers_kept change log ≡ Some (kept.Meta numbers) → last_moment log ≡ numbers.moment
the_moment change log numbers e = by (nat_lt 0 change) e where
  moment_in : Option Record → ℕ
  moment_in (Some (kept.Meta told)) = told.moment
  moment_in _ = 0

  by : (b : Bool) → (if b then Some (kept.Meta (record {
    moment = last_moment log;
    run = last_run log;
    version = counted (version log);
    change = change;
  })) else None) ≡ Some (kept.Meta numbers) → last_moment log ≡ numbers.moment
  by true f = ap moment_in f
  by false f = absurd (none_some None (kept.Meta numbers) refl f)

pub none_late : (change : ℕ) (log : Log) (numbers : Meta) → NoneLater log →
    numbers_kept change log ≡ Some (kept.Meta numbers) → (at : Where) (told : Record) →
    kept_at at log.facts ≡ Some told → IsNotLate numbers told
none_late change log numbers each there at told e =
    not_late numbers told (subst (λ n. AreEarly n told) (the_moment change log numbers there)
    (kept_early (last_moment log) log.facts each at told e))
