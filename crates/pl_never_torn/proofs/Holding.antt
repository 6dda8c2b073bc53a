-- No agent of a legal history holds two jobs.
use Rattle.std.proofs.Common.{◌≡◌, ◌≤◌, ◌<◌, ◌&&◌, ◌||◌, ℕ, nat_lt, Bool, true, false, true≢false}
use Rattle.std.proofs.Common.{List, [], ◌∷◌, ◌++◌, Option, Some, None, refl, sym, ap, subst, ◌∙◌}
use Rattle.std.proofs.Common.{arith}
use Rattle.std.proofs.lemmas.Bool.Decides.{nat_tests}
use Rattle.std.specs.List.{AllByRecursion}
use Rattle.std.specs.Option.{option_and_then, option_map, option_or}
use Rattle.std.specs.Prelude.{is_none, is_some, slice_get, unwrap_or, if◌then◌else◌}
use Rattle.pl_changes.proofs.Leading.{none_some}
use Rattle.pl_facts.specs.declared.entry.Entry.{Entry}
use Rattle.pl_facts.specs.declared.fact.Event.{Event}
use Rattle.pl_facts.specs.declared.fact.Event.TheVariants as event
use Rattle.pl_facts.specs.declared.fact.Fact.{Fact}
use Rattle.pl_facts.specs.declared.fact.QueuedRun.{QueuedRun}
use Rattle.pl_plan.specs.declared.plan.PlanJob.{PlanJob}
use Rattle.pl_plan.specs.declared.plan.PlanStage.{PlanStage}
use Rattle.pl_history.specs.Claims.{IsOrderly}
use Rattle.pl_history.specs.History.{Opening, log_of}
use Rattle.pl_history.specs.Legal.{Legal}
use Rattle.pl_granting.specs.Below.pl_due.proofs.Standing.{first_of_two, second_of_two}
use Rattle.pl_granting.specs.Named.{JobOf, job_at, job_in}
use Rattle.pl_granting.specs.Rules.{held_job, job_taken}
use Rattle.pl_granting.specs.Below.pl_settling.proofs.Behind.{none_before, touched, untouched}
use Rattle.pl_granting.specs.Below.pl_settling.proofs.Giving.{gives}
use Rattle.pl_granting.specs.Below.pl_settling.specs.Gives.{Gives}
use Rattle.pl_history.specs.Below.pl_queueing.specs.Queueing.{Made}
use Rattle.pl_journal.specs.About.{is_about, is_also_about, key_of, latest_also, second_of}
use Rattle.pl_journal.specs.Kinds.{is_taking}
use Rattle.pl_journal.specs.Log.{Log}
use Rattle.pl_journal.specs.Runs.{decides, if_running, job_end, job_ending, queueing, run_told}
use Rattle.pl_journal.specs.Runs.{stage_start, still_runs, taker_told, taking}
use Rattle.pl_journal.specs.Settings.{by}
use Rattle.pl_kept.specs.Kept.{planned_job}
use Rattle.pl_log.proofs.Naming.{exact_key, exact_name, key_itself, second_itself}
use Rattle.pl_log.specs.Keys.{names, same_key, same_second, Named, SecondNamed, Taker}
use Rattle.pl_log.specs.Keys as key
use Rattle.pl_log.specs.Latest.{latest}
use Rattle.pl_never_torn.specs.Holders.{HoldOne, HoldsJob, Rise}
use Rattle.pl_never_torn.specs.Jobs.{AreJobsInTime}
use Rattle.pl_never_torn.specs.Rising.{NoneLater}
use Rattle.pl_never_torn.proofs.Deciding.{Fresh, asked_fresh, due_fresh, queueing_stays}
use Rattle.pl_never_torn.proofs.Jobs.{job_ends, job_planned, jobs_keep, map_none, moved, own_end}
use Rattle.pl_never_torn.proofs.Jobs.{the_same, takes, JobsInTime}
use Rattle.pl_never_torn.proofs.Late.{latest_has}
use Rattle.pl_never_torn.proofs.Naming.{passes}
use Rattle.pl_never_torn.proofs.Staying.{Before, Keeps, Laws, stays}
use Rattle.pl_never_torn.proofs.Telling.{IsTakenSo, Tells}

-- ---- the latest of facts in order

or_none_left : {X : Type 0} (a b : Option X) → option_or a b ≡ None → a ≡ None
or_none_left None b h = refl
or_none_left (Some x) b h = h

or_none_right : {X : Type 0} (a b : Option X) → option_or a b ≡ None → b ≡ None
or_none_right None b h = h
or_none_right {X} (Some x) b h = absurd (none_some (Some x) x h refl)

-- where one that passes is there, there is a latest one
pub one_is_there : (p q : Fact → Bool) (facts : List Fact) (fact : Fact) →
    latest p facts ≡ Some fact → q fact ≡ true → ¬ (latest q facts ≡ None)
one_is_there p q [] fact e is none = none_some None fact refl e
one_is_there p q (one ∷ facts) fact e is none =
    by_rest (latest p facts) refl (one_is_there p q facts fact) where
      rest_none : latest q facts ≡ None
      rest_none = or_none_left (latest q facts) (if q one then Some one else None) none

      here : (b : Bool) → (if b then Some one else None) ≡ Some fact → ⊥
      here false f = none_some None fact refl f
      here true f =
          let same : one ≡ fact = ap (λ (o : Option Fact). unwrap_or o one) f in
          let q_one : q one ≡ true = ap q same ∙ is in
          none_some (if q one then Some one else None) one
          (or_none_right (latest q facts) (if q one then Some one else None) none)
          (ap (λ (b : Bool). if b then Some one else None) q_one)

      by_rest : (o : Option Fact) → latest p facts ≡ o → (latest p facts ≡ Some fact →
          q fact ≡ true → ¬ (latest q facts ≡ None)) → ⊥
      by_rest (Some other) f rest = rest (f ∙ (sym (ap (λ (o : Option Fact).
          option_or o (if p one then Some one else None)) f) ∙ e)) is rest_none
      by_rest None f rest = here (p one) (sym (ap (λ (o : Option Fact).
          option_or o (if p one then Some one else None)) f) ∙ e)

-- and it isn't earlier
pub latest_late : (p q : Fact → Bool) (facts : List Fact) (fact last : Fact) → Rise facts →
    latest p facts ≡ Some fact → q fact ≡ true → latest q facts ≡ Some last →
    fact.moment ≤ last.moment
latest_late p q [] fact last rise e is l = absurd (none_some None fact refl e)
latest_late p q (one ∷ facts) fact last rise e is l =
    by_rest (latest q facts) refl (latest p facts) refl (latest_late p q facts fact last rise.1)
  where
    one_of : (test : Fact → Bool) (it : Fact) → latest test facts ≡ None →
        latest test (one ∷ facts) ≡ Some it → one ≡ it
    one_of test it none f = go (test one) (sym (ap (λ (o : Option Fact).
        option_or o (if test one then Some one else None)) none) ∙ f) where
          go : (b : Bool) → (if b then Some one else None) ≡ Some it → one ≡ it
          go true g = ap (λ (o : Option Fact). unwrap_or o one) g
          go false g = absurd (none_some None it refl g)

    in_rest : (test : Fact → Bool) (it other : Fact) → latest test facts ≡ Some other →
        latest test (one ∷ facts) ≡ Some it → latest test facts ≡ Some it
    in_rest test it other some f = some ∙ (sym (ap (λ (o : Option Fact).
        option_or o (if test one then Some one else None)) some) ∙ f)

    by_rest : (a : Option Fact) → latest q facts ≡ a → (b : Option Fact) → latest p facts ≡ b →
        (latest p facts ≡ Some fact → q fact ≡ true → latest q facts ≡ Some last →
        fact.moment ≤ last.moment) → fact.moment ≤ last.moment
    by_rest (Some x) f (Some y) g rest =
        rest (in_rest p fact y g e) is (in_rest q last x f l)
    by_rest (Some x) f None g rest =
        let same : one ≡ fact = one_of p fact g e in
        subst (λ (it : Fact). it.moment ≤ last.moment) same
        (latest_has (λ (it : Fact). one.moment ≤ it.moment) q facts last rise.0
        (in_rest q last x f l))
    by_rest None f (Some y) g rest =
        absurd (one_is_there p q facts fact (in_rest p fact y g e) is f)
    by_rest None f None g rest =
        let left : one ≡ fact = one_of p fact g e in
        let right : one ≡ last = one_of q last f l in
        let m : fact.moment ≡ last.moment = ap (λ (it : Fact). it.moment) (sym left ∙ right) in
        omega (arith, m)

rise_more : (facts : List Fact) (one : Fact) → Rise facts → Before one.moment facts →
    Rise (facts ++ one ∷ [])
rise_more [] one rise before = (tt, tt)
rise_more (fact ∷ facts) one rise before =
    (behind facts rise.0, rise_more facts one rise.1 before.1) where
      behind : (some : List Fact) → AllByRecursion (λ later. fact.moment ≤ later.moment) some →
          AllByRecursion (λ later. fact.moment ≤ later.moment) (some ++ one ∷ [])
      behind [] each = (before.0, tt)
      behind (other ∷ some) each = (each.0, behind some each.1)

-- ---- who took a job

pub taker_about : (told : Event) (agent : List ℕ) → taker_told told ≡ Some agent →
    names (second_of told) (Taker agent) ≡ true
taker_about (event.JobTaken run stage job name) agent e =
    let same : name ≡ agent = ap (λ (o : Option (List ℕ)). unwrap_or o name) e in
    subst (λ (n : List ℕ). same_second (Taker n) (Taker agent) ≡ true) (sym same)
    (second_itself (Taker agent))
taker_about _ agent e = absurd (none_some None agent refl e)

-- a fact that is also about an agent is a job's taking by it
pub record Takes (told : Event) (agent : List ℕ) : Type 0 where
  pub run : ℕ
  pub stage : ℕ
  pub job : ℕ
  pub of : (same_key (key_of told) (key.Job run stage job) && is_taking told) ≡ true
  pub who : taker_told told ≡ Some agent

abbrev name_in : SecondNamed → List ℕ
name_in (Taker name) = name
name_in _ = []

pub about_takes : (told : Event) (agent : List ℕ) → names (second_of told) (Taker agent) ≡ true →
    Takes told agent
about_takes (event.JobTaken run stage job name) agent is =
    let e : Some (Taker name) ≡ Some (Taker agent) = exact_name (Some (Taker name)) (Taker agent) is
    in
    record {
      run = run;
      stage = stage;
      job = job;
      of = ap (λ (b : Bool). b && true) (key_itself (key.Job run stage job));
      who = ap (λ (o : Option SecondNamed). Some (name_in (unwrap_or o (Taker agent)))) e;
    }
about_takes (event.PrincipalSet told) agent is = absurd (true≢false (sym is))
about_takes (event.RunQueued told) agent is = absurd (true≢false (sym is))
about_takes _ agent is = absurd (true≢false (sym is))

-- the job of a taking still runs where it hasn't ended
pub still : (facts : List Fact) (run stage job : ℕ) (told : Event) →
    (same_key (key_of told) (key.Job run stage job) && is_taking told) ≡ true →
    is_none (job_ending run stage job facts) ≡ true → still_runs facts told ≡ true
still facts run stage job (event.JobTaken r s j agent) is none =
    let there : same_key (key.Job r s j) (key.Job run stage job) ≡ true =
    first_of_two (same_key (key.Job r s j) (key.Job run stage job)) true is in
    let e : key.Job r s j ≡ key.Job run stage job =
    exact_key (key.Job r s j) (key.Job run stage job) there in
    moved (λ x y z. is_none (job_ending x y z facts) ≡ true) run stage job r s j
    (subst (λ (k : Named). same_key (key.Job run stage job) k ≡ true) (sym e)
    (key_itself (key.Job run stage job))) none
still facts run stage job told is none = absurd (true≢false (sym
    (second_of_two (same_key (key_of told) (key.Job run stage job)) (is_taking told) is)))

-- one that is planned is one that somebody is told to hold
no_job_at : (run stage job : ℕ) (facts : List Fact) → job_at run stage job facts ≡ None →
    planned_job run stage job facts ≡ None
no_job_at run stage job facts none = by_run (by run_told (queueing run facts)) none where
  by_stage : (queued : QueuedRun) (o : Option PlanStage) →
      option_and_then (λ staged. job_in run stage queued staged job) o ≡ None →
      option_and_then (λ (staged : PlanStage). slice_get staged.jobs job) o ≡ None
  by_stage queued None h = refl
  by_stage queued (Some staged) h = map_none _ (slice_get staged.jobs job) h

  by_run : (o : Option QueuedRun) →
      option_and_then (λ queued. option_and_then
      (λ staged. job_in run stage queued staged job)
      (slice_get queued.compiled.plan.stages stage)) o ≡ None →
      option_and_then (λ (staged : PlanStage). slice_get staged.jobs job)
      (option_and_then (λ (told : QueuedRun). slice_get told.compiled.plan.stages stage) o) ≡ None
  by_run None h = refl
  by_run (Some queued) h = by_stage queued (slice_get queued.compiled.plan.stages stage) h

-- a job that still runs is told where it is planned
told_job : (facts : List Fact) (fact : Fact) (agent : List ℕ) →
    ((run stage job : ℕ) → ¬ (taking run stage job facts ≡ None) →
    ¬ (planned_job run stage job facts ≡ None)) → (test : Fact → Bool) →
    latest test facts ≡ Some fact → (told : Event) → fact.event ≡ told →
    still_runs facts told ≡ true → ¬ (job_taken facts told ≡ None)
told_job facts fact agent planned test e (event.JobTaken run stage job name) same runs none =
    planned run stage job
    (one_is_there test (takes run stage job) facts fact e
    (subst (λ (told : Event). (same_key (key_of told) (key.Job run stage job) && is_taking told)
    ≡ true) (sym same) (ap (λ (b : Bool). b && true) (key_itself (key.Job run stage job)))))
    (no_job_at run stage job facts none)
told_job facts fact agent planned test e _ same runs none = absurd (true≢false (sym runs))

-- ---- an agent that is idle holds none

module _ (facts : List Fact) (jobs : AreJobsInTime facts) (was : HoldOne facts)
    (agent : List ℕ) where
  abbrev candidate : ℕ → Fact → Bool
  candidate moment fact = is_also_about (Taker agent) fact && decides facts moment fact

  module _ (idle : held_job facts agent ≡ None) (run stage job : ℕ)
      (its : HoldsJob facts agent run stage job) where
    its_is : takes run stage job its.take ≡ true
    its_is = passes (takes run stage job) facts its.take its.is

    about_it : is_also_about (Taker agent) its.take ≡ true
    about_it = taker_about its.take.event agent its.who

    begun : (o : Option Fact) → stage_start run stage facts ≡ o →
        is_some (stage_start run stage facts) ≡ true
    begun None e = absurd (jobs.taken run stage job
        (λ none. none_some (taking run stage job facts) its.take none its.is) e)
    begun (Some fact) e = ap is_some e

    unended : is_none (job_ending run stage job facts) ≡ true
    unended = ap is_none (own_end run stage job facts
        (begun (stage_start run stage facts) refl) ∙ its.unended)

    runs : still_runs facts its.take.event ≡ true
    runs = still facts run stage job its.take.event its_is unended

    passes_too : (moment : ℕ) → candidate moment its.take ≡ true
    passes_too moment = both_true (is_also_about (Taker agent) its.take)
        (decides facts moment its.take) about_it
        (ap (λ (b : Bool). b || nat_lt its.take.moment moment) runs)
      where
        both_true : (a b : Bool) → a ≡ true → b ≡ true → (a && b) ≡ true
        both_true a b e f = ap (λ (c : Bool). c && b) e ∙ f

    -- the last taking, and the fact that decides
    by_found : (last found : Fact) → latest_also (Taker agent) facts ≡ Some last →
        latest (candidate last.moment) facts ≡ Some found → ⊥
    by_found last found e f =
        go (still_runs facts found.event) refl (nat_lt found.moment last.moment) refl
      where
        late : its.take.moment ≤ found.moment
        late = latest_late (takes run stage job) (candidate last.moment) facts its.take found
            was.rise its.is (passes_too last.moment) f

        early : last.moment ≤ its.take.moment
        early = was.last agent run stage job its last e

        decided : (still_runs facts found.event || nat_lt found.moment last.moment) ≡ true
        decided = second_of_two (is_also_about (Taker agent) found)
            (decides facts last.moment found)
            (passes (candidate last.moment) facts found f)

        held : still_runs facts found.event ≡ true →
            held_job facts agent ≡ job_taken facts found.event
        held s =
            ap (λ (o : Option Fact). option_and_then (λ fact. job_taken facts fact.event)
            (option_and_then (λ last. option_and_then (if_running facts)
            (latest (candidate last.moment) facts)) o)) e
            ∙ (ap (λ (o : Option Fact). option_and_then (λ fact. job_taken facts fact.event)
            (option_and_then (if_running facts) o)) f
            ∙ ap (λ (b : Bool). option_and_then (λ fact. job_taken facts fact.event)
            (if b then Some found else None)) s)

        go : (a : Bool) → still_runs facts found.event ≡ a → (b : Bool) →
            nat_lt found.moment last.moment ≡ b → ⊥
        go true a b l = told_job facts found agent was.planned (candidate last.moment) f
            found.event refl a (sym (held a) ∙ idle)
        go false a true l =
            let far : found.moment < last.moment = grind (arith, nat_tests, l) in
            omega (arith, far, late, early)
        go false a false l = true≢false (sym decided ∙ (ap (λ (x : Bool). x ||
            nat_lt found.moment last.moment) a ∙ l))

    pub holds_none : ⊥
    holds_none = by_last (latest_also (Taker agent) facts) refl where
      by_last : (o : Option Fact) → latest_also (Taker agent) facts ≡ o → ⊥
      by_last None e = one_is_there (takes run stage job) (is_also_about (Taker agent)) facts
          its.take its.is about_it e
      by_last (Some last) e = by_candidate (latest (candidate last.moment) facts) refl where
        by_candidate : (o : Option Fact) → latest (candidate last.moment) facts ≡ o → ⊥
        by_candidate None f = one_is_there (takes run stage job) (candidate last.moment) facts
            its.take its.is (passes_too last.moment) f
        by_candidate (Some found) f = by_found last found e f

-- ---- behind one fact more

-- who takes a job is idle, and the job is planned
record IsIdle (facts : List Fact) (agent : List ℕ) (run stage job : ℕ) : Type 0 where
  idle : held_job facts agent ≡ None
  planned : PlanJob
  there : planned_job run stage job facts ≡ Some planned

abbrev Idle : List Fact → Event → Type 0
Idle facts (event.JobTaken run stage job agent) = IsIdle facts agent run stage job
Idle facts _ = Unit {0}

idle_of : (facts : List Fact) (run stage job : ℕ) (told : Event) →
    (same_key (key_of told) (key.Job run stage job) && is_taking told) ≡ true →
    (agent : List ℕ) → taker_told told ≡ Some agent → Idle facts told →
    IsIdle facts agent run stage job
idle_of facts run stage job (event.JobTaken r s j name) is agent e idle =
    let same : name ≡ agent = ap (λ (o : Option (List ℕ)). unwrap_or o name) e in
    subst (λ (n : List ℕ). IsIdle facts n run stage job) same
    (moved (IsIdle facts name) r s j run stage job
    (first_of_two (same_key (key.Job r s j) (key.Job run stage job)) true is) idle)
idle_of facts run stage job told is agent e idle = absurd (true≢false (sym
    (second_of_two (same_key (key_of told) (key.Job run stage job)) (is_taking told) is)))

some_taker : (facts : List Fact) (run stage job : ℕ) (told : Event) →
    (same_key (key_of told) (key.Job run stage job) && is_taking told) ≡ true →
    Idle facts told → ¬ (planned_job run stage job facts ≡ None)
some_taker facts run stage job (event.JobTaken r s j name) is idle none =
    let its = idle_of facts run stage job (event.JobTaken r s j name) is name refl idle in
    none_some (planned_job run stage job facts) its.planned none its.there
some_taker facts run stage job told is idle none = true≢false (sym
    (second_of_two (same_key (key_of told) (key.Job run stage job)) (is_taking told) is))

-- the same fact takes one job
same_job : (told : Event) (run stage job r s j : ℕ) →
    (same_key (key_of told) (key.Job run stage job) && is_taking told) ≡ true →
    (same_key (key_of told) (key.Job r s j) && is_taking told) ≡ true →
    (run ≡ r) × (stage ≡ s) × (job ≡ j)
same_job told run stage job r s j is also =
    let left : key_of told ≡ key.Job run stage job = exact_key (key_of told)
    (key.Job run stage job) (first_of_two (same_key (key_of told) (key.Job run stage job))
    (is_taking told) is) in
    let right : key_of told ≡ key.Job r s j = exact_key (key_of told) (key.Job r s j)
    (first_of_two (same_key (key_of told) (key.Job r s j)) (is_taking told) also) in
    let e : key.Job run stage job ≡ key.Job r s j = sym left ∙ right in
    let l : run ≡ r = cc in
    let m : stage ≡ s = cc in
    let n : job ≡ j = cc in
    (l, m, n)

abbrev planned_by : ℕ → ℕ → Option Fact → Option PlanJob
planned_by stage job o = option_and_then (λ (staged : PlanStage). slice_get staged.jobs job)
    (option_and_then (λ (told : QueuedRun). slice_get told.compiled.plan.stages stage)
    (by run_told o))

module _ (facts : List Fact) (one : Fact) (before : Before one.moment facts)
    (fresh : Fresh facts one.event) (idle : Idle facts one.event)
    (jobs : AreJobsInTime facts) (was : HoldOne facts) where
  held_before : (agent : List ℕ) (run stage job : ℕ) →
      HoldsJob (facts ++ one ∷ []) agent run stage job → takes run stage job one ≡ false →
      HoldsJob facts agent run stage job
  held_before agent run stage job its not = record {
    take = its.take;
    is = sym (untouched (takes run stage job) facts one not) ∙ its.is;
    who = its.who;
    unended = none_before (job_ends run stage job) facts one its.unended;
  }

  -- it is the taking that came
  is_one : (agent : List ℕ) (run stage job : ℕ)
      (its : HoldsJob (facts ++ one ∷ []) agent run stage job) →
      takes run stage job one ≡ true → one ≡ its.take
  is_one agent run stage job its is =
      the_same (taking run stage job (facts ++ one ∷ [])) one its.take
      (touched (takes run stage job) facts one is) its.is

  -- so the agent held none before
  none_held : (agent : List ℕ) (run stage job : ℕ) → takes run stage job one ≡ true →
      taker_told one.event ≡ Some agent → (r s j : ℕ) → HoldsJob facts agent r s j → ⊥
  none_held agent run stage job is who r s j other = holds_none facts jobs was agent
      (idle_of facts run stage job one.event is agent who idle).idle r s j other

  took : (agent : List ℕ) (run stage job : ℕ)
      (its : HoldsJob (facts ++ one ∷ []) agent run stage job) →
      takes run stage job one ≡ true → taker_told one.event ≡ Some agent
  took agent run stage job its is =
      ap (λ (it : Fact). taker_told it.event) (is_one agent run stage job its is) ∙ its.who

  one_more : (agent : List ℕ) (run stage job r s j : ℕ) →
      HoldsJob (facts ++ one ∷ []) agent run stage job →
      HoldsJob (facts ++ one ∷ []) agent r s j → (run ≡ r) × (stage ≡ s) × (job ≡ j)
  one_more agent run stage job r s j its other =
      go (takes run stage job one) refl (takes r s j one) refl
    where
      go : (a : Bool) → takes run stage job one ≡ a → (b : Bool) → takes r s j one ≡ b →
          (run ≡ r) × (stage ≡ s) × (job ≡ j)
      go true a true b = same_job one.event run stage job r s j a b
      go true a false b = absurd (none_held agent run stage job a
          (took agent run stage job its a) r s j (held_before agent r s j other b))
      go false a true b = absurd (none_held agent r s j b (took agent r s j other b) run stage job
          (held_before agent run stage job its a))
      go false a false b = was.one agent run stage job r s j
          (held_before agent run stage job its a) (held_before agent r s j other b)

  last_more : (agent : List ℕ) (run stage job : ℕ)
      (its : HoldsJob (facts ++ one ∷ []) agent run stage job) (last : Fact) →
      latest_also (Taker agent) (facts ++ one ∷ []) ≡ Some last →
      last.moment ≤ its.take.moment
  unfolding held_before
  last_more agent run stage job its last e =
      go (takes run stage job one) refl (is_also_about (Taker agent) one) refl
    where
      go : (a : Bool) → takes run stage job one ≡ a → (b : Bool) →
          is_also_about (Taker agent) one ≡ b → last.moment ≤ its.take.moment
      go true a true b =
          let left : one ≡ its.take = is_one agent run stage job its a in
          let right : one ≡ last = the_same (latest_also (Taker agent) (facts ++ one ∷ [])) one
          last (touched (is_also_about (Taker agent)) facts one b) e in
          let m : last.moment ≡ its.take.moment =
          ap (λ (it : Fact). it.moment) (sym right ∙ left) in
          omega (arith, m)
      go true a false b = absurd (true≢false
          (sym (taker_about one.event agent (took agent run stage job its a)) ∙ b))
      go false a true b =
          let taken = about_takes one.event agent b in
          absurd (none_held agent taken.run taken.stage taken.job taken.of taken.who run stage job
          (held_before agent run stage job its a))
      go false a false b = was.last agent run stage job
          (held_before agent run stage job its a) last
          (sym (untouched (is_also_about (Taker agent)) facts one b) ∙ e)

  planned_more : (run stage job : ℕ) → ¬ (taking run stage job (facts ++ one ∷ []) ≡ None) →
      ¬ (planned_job run stage job (facts ++ one ∷ []) ≡ None)
  planned_more run stage job there none = it (sym stays_so ∙ none) where
    planned_before : (b : Bool) → takes run stage job one ≡ b →
        ¬ (planned_job run stage job facts ≡ None)
    planned_before true is = some_taker facts run stage job one.event is idle
    planned_before false is = was.planned run stage job
        (λ nothing. there (untouched (takes run stage job) facts one is ∙ nothing))

    it : ¬ (planned_job run stage job facts ≡ None)
    it = planned_before (takes run stage job one) refl

    stays_so : planned_job run stage job (facts ++ one ∷ []) ≡ planned_job run stage job facts
    stays_so = ap (planned_by stage job) (queueing_stays facts one fresh run
        (λ nothing. it (ap (planned_by stage job) nothing)))

  hold_more : HoldOne (facts ++ one ∷ [])
  hold_more = record {
    rise = rise_more facts one was.rise before;
    planned = planned_more;
    one = one_more;
    last = last_more;
  }

-- ---- along a legal history

due_idle : (facts : List Fact) (moment : ℕ) (told : Event) → Gives facts moment told →
    Idle facts told
due_idle facts moment (event.JobTaken run stage job agent) none = absurd none
due_idle facts moment _ gives = tt

idle_so : (facts : List Fact) (run stage job : ℕ) (agent : List ℕ) →
    IsTakenSo facts run stage job agent → IsIdle facts agent run stage job
idle_so facts run stage job agent is =
    subst (λ x. IsIdle facts agent x stage job) is.of_run
    (subst (λ x. IsIdle facts agent is.at.run x job) is.of_stage
    (subst (λ x. IsIdle facts agent is.at.run is.at.stage x) is.of_job
    (subst (λ (n : List ℕ). IsIdle facts n is.at.run is.at.stage is.at.job) is.named (record {
      idle = is.free.idle;
      planned = is.at.planned;
      there = job_planned facts is.at is.there;
    }))))

asked_idle : (log : Log) (made : Made) (told : Event) → Tells log made told → Idle log.facts told
asked_idle log made (event.JobTaken run stage job agent) is =
    idle_so log.facts run stage job agent is
asked_idle log made _ is = tt

abbrev pub Holding : Log → Type 0
Holding log = JobsInTime log × HoldOne log.facts

pub holding_keep : Keeps Holding
holding_keep = record {
  due = λ log one before is_due was.
      let given = gives log.facts one.moment one.event is_due in (
        jobs_keep.due log one before is_due was.0,
        hold_more log.facts one before (due_fresh log.facts one.moment one.event given)
            (due_idle log.facts one.moment one.event given) was.0.2 was.1,
      );
  asked = λ log made one has before few tells was. (
    jobs_keep.asked log made one has before few tells was.0,
    hold_more log.facts one before (asked_fresh log made one few was.0.0 one.event refl tells)
        (asked_idle log made one.event tells) was.0.2 was.1,
  );
  installed = λ log count was. (jobs_keep.installed log count was.0, was.1);
}

pub holding_all : Laws → (opening : Opening) (entries : List Entry) → IsOrderly opening →
    NoneLater (log_of opening []) → Holding (log_of opening []) → Legal opening entries →
    Holding (log_of opening entries)
holding_all laws opening entries first later was legal =
    stays laws Holding holding_keep opening entries first later was legal
