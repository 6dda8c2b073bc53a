-- No more legs of a job are held in a legal history than may be at once.
use Rattle.std.proofs.Common.{◌≡◌, ◌≤◌, ◌<◌, ◌+◌, ◌&&◌, ℕ, nat_eq, Bool, true, false, true≢false}
use Rattle.std.proofs.Common.{List, [], ◌∷◌, ◌++◌, length, Option, Some, None, refl, sym, ap, subst}
use Rattle.std.proofs.Common.{◌∙◌, arith}
use Rattle.std.proofs.lemmas.Bool.Decides.{nat_tests}
use Rattle.std.specs.List.{count_by, range_with_len, AllByRecursion}
use Rattle.std.specs.Option.{option_and_then, option_map_or}
use Rattle.std.specs.Prelude.{is_some, slice_get, if◌then◌else◌}
use Rattle.pl_base.specs.Texts.{is}
use Rattle.pl_changes.proofs.Leading.{none_some}
use Rattle.pl_facts.specs.declared.entry.Entry.{Entry}
use Rattle.pl_facts.specs.declared.fact.Event.{Event}
use Rattle.pl_facts.specs.declared.fact.Event.TheVariants as event
use Rattle.pl_facts.specs.declared.fact.Fact.{Fact}
use Rattle.pl_facts.specs.declared.fact.QueuedRun.{QueuedRun}
use Rattle.pl_plan.specs.declared.plan.PlanJob.{PlanJob}
use Rattle.pl_plan.specs.declared.plan.PlanStage.{PlanStage}
use Rattle.pl_history.specs.Claims.{IsOrderly}
use Rattle.pl_history.specs.History.{Opening, log_of}
use Rattle.pl_history.specs.Legal.{Legal}
use Rattle.pl_granting.specs.Below.pl_due.proofs.Standing.{first_of_two, second_of_two}
use Rattle.pl_granting.specs.Named.{IsJobOf, JobOf}
use Rattle.pl_granting.specs.Rules.{is_leg_taken, legs_taken}
use Rattle.pl_granting.specs.Below.pl_settling.proofs.Behind.{none_before, untouched}
use Rattle.pl_granting.specs.Below.pl_settling.proofs.Giving.{gives}
use Rattle.pl_granting.specs.Below.pl_settling.specs.Gives.{Gives}
use Rattle.pl_history.specs.Below.pl_queueing.specs.Queueing.{Made}
use Rattle.pl_journal.specs.About.{is_about, key_of}
use Rattle.pl_journal.specs.Kinds.{is_taking}
use Rattle.pl_journal.specs.Log.{Log}
use Rattle.pl_journal.specs.Runs.{holding, job_end, job_ending, queueing, run_told, stage_start}
use Rattle.pl_journal.specs.Runs.{taking}
use Rattle.pl_journal.specs.Settings.{by}
use Rattle.pl_leg_limits.specs.Alike.{LegsAreAlike}
use Rattle.pl_log.proofs.Naming.{exact_key}
use Rattle.pl_log.specs.Keys.{same_key}
use Rattle.pl_log.specs.Keys as key
use Rattle.pl_seeing.specs.Below.pl_sources.specs.Again.{files_of, SourcesCompileAgain}
use Rattle.pl_seeing.specs.Seeing.{IsCompileOf}
use Rattle.pl_never_torn.specs.Jobs.{AreJobsInTime}
use Rattle.pl_never_torn.specs.Legs.{HaveRoom}
use Rattle.pl_never_torn.specs.Own.{AreOwn, IsOwn}
use Rattle.pl_never_torn.specs.Rising.{NoneLater}
use Rattle.pl_never_torn.proofs.Counting.{fewer, many, many_is, none_pass, one_more}
use Rattle.pl_never_torn.proofs.Deciding.{Fresh, asked_fresh, due_fresh, queueing_stays}
use Rattle.pl_never_torn.proofs.Holding.{holding_keep, Holding}
use Rattle.pl_never_torn.proofs.Jobs.{job_ends, own_end, takes, the_same}
use Rattle.pl_never_torn.proofs.Late.{latest_has}
use Rattle.pl_never_torn.proofs.Making.{own_keeps, own_of}
use Rattle.pl_never_torn.proofs.Owners.{same_name}
use Rattle.pl_never_torn.proofs.Staying.{Keeps, Laws, stays}
use Rattle.pl_never_torn.proofs.Telling.{IsTakenSo, Tells}

-- ---- who holds a job took it, and it hasn't ended by itself

none_either : (b : Bool) (o : Option Fact) → o ≡ None → (if b then None else o) ≡ None
none_either true o e = refl
none_either false o e = e

some_is : {X : Type 0} (o : Option X) → ¬ (o ≡ None) → is_some o ≡ true
some_is None there = absurd (there refl)
some_is (Some x) there = refl

pub holding_is : (facts : List Fact) → AreJobsInTime facts → (run stage job : ℕ) →
    holding run stage job facts ≡
    (if is_some (job_end run stage job facts) then None else taking run stage job facts)
holding_is facts jobs run stage job = go (taking run stage job facts) refl where
  go : (o : Option Fact) → taking run stage job facts ≡ o → holding run stage job facts ≡
      (if is_some (job_end run stage job facts) then None else taking run stage job facts)
  go None e =
      none_either (is_some (job_ending run stage job facts)) (taking run stage job facts) e
      ∙ sym (none_either (is_some (job_end run stage job facts)) (taking run stage job facts) e)
  go (Some take) e =
      ap (λ (o : Option Fact). if is_some o then None else taking run stage job facts)
      (own_end run stage job facts (some_is (stage_start run stage facts)
      (jobs.taken run stage job (λ none. none_some (taking run stage job facts) take none e))))

-- ---- the compile of a queued run

own_queued : (facts : List Fact) (run : ℕ) (queued : QueuedRun) → AreOwn facts →
    by run_told (queueing run facts) ≡ Some queued →
    IsCompileOf queued.compiled.sources queued.compiled
own_queued facts run queued own e = go (queueing run facts) refl e where
  go : (o : Option Fact) → queueing run facts ≡ o → by run_told o ≡ Some queued →
      IsCompileOf queued.compiled.sources queued.compiled
  go None f h = absurd (none_some None queued refl h)
  go (Some fact) f h = own_of queued fact.event
      (latest_has (λ (it : Fact). IsOwn it.event) _ facts fact own f) h

-- ---- what a taking tells

-- the job is planned, and fewer legs of it are held than may be at once
pub record HasRoom (facts : List Fact) (run stage job : ℕ) : Type 0 where
  pub at : JobOf
  pub of_run : at.run ≡ run
  pub of_stage : at.stage ≡ stage
  pub of_job : at.job ≡ job
  pub there : IsJobOf facts at
  pub room : legs_taken facts at < at.planned.max_parallel

abbrev pub Roomy : List Fact → Event → Type 0
Roomy facts (event.JobTaken run stage job agent) = HasRoom facts run stage job
Roomy facts _ = Unit {0}

due_roomy : (facts : List Fact) (moment : ℕ) (told : Event) → Gives facts moment told →
    Roomy facts told
due_roomy facts moment (event.JobTaken run stage job agent) none = absurd none
due_roomy facts moment _ gives = tt

asked_roomy : (log : Log) (made : Made) (told : Event) → Tells log made told →
    Roomy log.facts told
asked_roomy log made (event.JobTaken run stage job agent) is = record {
  at = is.at;
  of_run = is.of_run;
  of_stage = is.of_stage;
  of_job = is.of_job;
  there = is.there;
  room = is.free.room;
}
asked_roomy log made _ is = tt

no_take : (told : Event) (run stage job : ℕ) → is_taking told ≡ false →
    (same_key (key_of told) (key.Job run stage job) && is_taking told) ≡ false
no_take told run stage job e =
    ap (λ (b : Bool). same_key (key_of told) (key.Job run stage job) && b) e
    ∙ never (same_key (key_of told) (key.Job run stage job))
  where
    never : (b : Bool) → (b && false) ≡ false
    never true = refl
    never false = refl

taken_there : (r s j : ℕ) (agent : List ℕ) (run stage job : ℕ) →
    (same_key (key_of (event.JobTaken r s j agent)) (key.Job run stage job) &&
    is_taking (event.JobTaken r s j agent)) ≡ true → (r ≡ run) × (s ≡ stage) × (j ≡ job)
taken_there r s j agent run stage job is =
    let e : key.Job r s j ≡ key.Job run stage job = exact_key (key.Job r s j)
    (key.Job run stage job)
    (first_of_two (same_key (key.Job r s j) (key.Job run stage job)) true is) in
    let l : r ≡ run = cc in
    let m : s ≡ stage = cc in
    let n : j ≡ job = cc in
    (l, m, n)

-- ---- legs that are held, by the name of their job

abbrev pub is_leg : List Fact → ℕ → ℕ → PlanStage → List ℕ → ℕ → Bool
is_leg facts run stage staged name place = option_map_or (λ one. is one.name name
    && is_some (holding run stage place facts)) (slice_get staged.jobs place) false

abbrev legs_of : List Fact → ℕ → ℕ → PlanStage → List ℕ → ℕ
legs_of facts run stage staged name =
    count_by (is_leg facts run stage staged name) (range_with_len 0 (length staged.jobs))

at_most : (a b c d : ℕ) → a ≡ c → b ≡ d → c ≤ d → a ≤ b
at_most a b c d e f few = omega (arith, e, f, few)

one_more_most : (a b c d : ℕ) → a ≡ c → b ≡ d → c ≤ d + 1 → a ≤ b + 1
one_more_most a b c d e f few = omega (arith, e, f, few)

module _ (facts : List Fact) (one : Fact) (jobs : AreJobsInTime facts)
    (after : AreJobsInTime (facts ++ one ∷ [])) where
  was_held : (run stage job : ℕ) → is_some (holding run stage job (facts ++ one ∷ [])) ≡ true →
      takes run stage job one ≡ false → is_some (holding run stage job facts) ≡ true
  was_held run stage job held not = go (job_end run stage job (facts ++ one ∷ [])) refl where
    now : is_some (if is_some (job_end run stage job (facts ++ one ∷ [])) then None
        else taking run stage job (facts ++ one ∷ [])) ≡ true
    now = sym (ap is_some (holding_is (facts ++ one ∷ []) after run stage job)) ∙ held

    go : (o : Option Fact) → job_end run stage job (facts ++ one ∷ []) ≡ o →
        is_some (holding run stage job facts) ≡ true
    go (Some end) e = absurd (true≢false (sym now ∙ ap (λ (o : Option Fact).
        is_some (if is_some o then None else taking run stage job (facts ++ one ∷ []))) e))
    go None e =
        ap is_some (holding_is facts jobs run stage job)
        ∙ (ap (λ (o : Option Fact). is_some (if is_some o then None
        else taking run stage job facts)) (none_before (job_ends run stage job) facts one e)
        ∙ (ap is_some (sym (untouched (takes run stage job) facts one not))
        ∙ (sym (ap (λ (o : Option Fact). is_some (if is_some o then None
        else taking run stage job (facts ++ one ∷ []))) e) ∙ now)))

  was_leg : (run stage : ℕ) (staged : PlanStage) (name : List ℕ) (place : ℕ) →
      is_leg (facts ++ one ∷ []) run stage staged name place ≡ true →
      takes run stage place one ≡ false → is_leg facts run stage staged name place ≡ true
  was_leg run stage staged name place leg not = go (slice_get staged.jobs place) leg where
    both_true : (a b : Bool) → a ≡ true → b ≡ true → (a && b) ≡ true
    both_true a b e f = ap (λ (c : Bool). c && b) e ∙ f

    go : (o : Option PlanJob) → option_map_or (λ it. is it.name name
        && is_some (holding run stage place (facts ++ one ∷ []))) o false ≡ true →
        option_map_or (λ it. is it.name name && is_some (holding run stage place facts)) o false
        ≡ true
    go None h = h
    go (Some it) h = both_true (is it.name name) (is_some (holding run stage place facts))
        (first_of_two (is it.name name) (is_some (holding run stage place (facts ++ one ∷ []))) h)
        (was_held run stage place (second_of_two (is it.name name)
        (is_some (holding run stage place (facts ++ one ∷ []))) h) not)

  fewer_legs : (run stage : ℕ) (staged : PlanStage) (name : List ℕ) →
      ((place : ℕ) → is_leg (facts ++ one ∷ []) run stage staged name place ≡ true →
      is_leg facts run stage staged name place ≡ true) →
      legs_of (facts ++ one ∷ []) run stage staged name ≤ legs_of facts run stage staged name
  fewer_legs run stage staged name leads =
      at_most (legs_of (facts ++ one ∷ []) run stage staged name)
      (legs_of facts run stage staged name)
      (many (is_leg (facts ++ one ∷ []) run stage staged name)
      (range_with_len 0 (length staged.jobs)))
      (many (is_leg facts run stage staged name) (range_with_len 0 (length staged.jobs)))
      (many_is (is_leg (facts ++ one ∷ []) run stage staged name)
      (range_with_len 0 (length staged.jobs)))
      (many_is (is_leg facts run stage staged name) (range_with_len 0 (length staged.jobs)))
      (fewer (is_leg (facts ++ one ∷ []) run stage staged name)
      (is_leg facts run stage staged name) (length staged.jobs) leads)

  one_leg_more : (run stage : ℕ) (staged : PlanStage) (name : List ℕ) (at : ℕ) →
      ((place : ℕ) → nat_eq place at ≡ false → takes run stage place one ≡ false) →
      legs_of (facts ++ one ∷ []) run stage staged name ≤
      legs_of facts run stage staged name + 1
  one_leg_more run stage staged name at others =
      one_more_most (legs_of (facts ++ one ∷ []) run stage staged name)
      (legs_of facts run stage staged name)
      (many (is_leg (facts ++ one ∷ []) run stage staged name)
      (range_with_len 0 (length staged.jobs)))
      (many (is_leg facts run stage staged name) (range_with_len 0 (length staged.jobs)))
      (many_is (is_leg (facts ++ one ∷ []) run stage staged name)
      (range_with_len 0 (length staged.jobs)))
      (many_is (is_leg facts run stage staged name) (range_with_len 0 (length staged.jobs)))
      (one_more (is_leg (facts ++ one ∷ []) run stage staged name)
      (is_leg facts run stage staged name) at (length staged.jobs)
      (λ place off leg. was_leg run stage staged name place leg (others place off)))

  module _ (alike : LegsAreAlike) (fresh : Fresh facts one.event) (roomy : Roomy facts one.event)
      (own : AreOwn facts) (queued : (run stage : ℕ) → ¬ (stage_start run stage facts ≡ None) →
      ¬ (queueing run facts ≡ None)) (was : HaveRoom facts) where
    -- ---- of a run that was queued before

    module _ (at : JobOf) (is_at : IsJobOf facts at) where
      -- where no job of its stage is taken
      untaken : ((place : ℕ) → takes at.run at.stage place one ≡ false) →
          legs_taken (facts ++ one ∷ []) at ≤ at.planned.max_parallel
      untaken none =
          let few = fewer_legs at.run at.stage at.staged at.planned.name
          (λ place leg. was_leg at.run at.stage at.staged at.planned.name place leg (none place)) in
          let room = was at is_at in
          omega (arith, few, room)

      -- where one of its stage is
      module _ (r s j : ℕ) (agent : List ℕ) (told : one.event ≡ event.JobTaken r s j agent)
          (its : HasRoom facts r s j) (of_run : r ≡ at.run) (of_stage : s ≡ at.stage) where
        same_run : its.at.run ≡ at.run
        same_run = its.of_run ∙ of_run

        same_stage : its.at.stage ≡ at.stage
        same_stage = its.of_stage ∙ of_stage

        same_queued : its.at.queued ≡ at.queued
        same_queued = the_same (by run_told (queueing at.run facts)) its.at.queued at.queued
            (ap (λ x. by run_told (queueing x facts)) (sym same_run) ∙ its.there.queued)
            is_at.queued

        same_staged : its.at.staged ≡ at.staged
        same_staged = the_same (slice_get at.queued.compiled.plan.stages at.stage) its.at.staged
            at.staged
            (ap (λ (it : QueuedRun). slice_get it.compiled.plan.stages at.stage) (sym same_queued)
            ∙ (ap (slice_get its.at.queued.compiled.plan.stages) (sym same_stage)
            ∙ its.there.staged)) is_at.staged

        planned_so : slice_get at.staged.jobs its.at.job ≡ Some its.at.planned
        planned_so = ap (λ (it : PlanStage). slice_get it.jobs its.at.job) (sym same_staged)
            ∙ its.there.planned

        takes_its : (place : ℕ) → takes at.run at.stage place one ≡ true → place ≡ its.at.job
        takes_its place is =
            let where_it_is = taken_there r s j agent at.run at.stage place
            (subst (λ (it : Event). (same_key (key_of it) (key.Job at.run at.stage place) &&
            is_taking it) ≡ true) told is) in
            sym where_it_is.2 ∙ sym its.of_job

        not_its : (place : ℕ) → nat_eq place its.at.job ≡ false →
            takes at.run at.stage place one ≡ false
        not_its place off = go (takes at.run at.stage place one) refl where
          go : (b : Bool) → takes at.run at.stage place one ≡ b →
              takes at.run at.stage place one ≡ false
          go true e =
              let same = takes_its place e in
              let on : nat_eq place its.at.job ≡ true = grind (arith, nat_tests, same) in
              absurd (true≢false (sym on ∙ off))
          go false e = e

        legs_same : its.at.planned.name ≡ at.planned.name →
            legs_taken facts its.at ≡ legs_taken facts at
        legs_same same =
            ap (λ x. legs_of facts x its.at.stage its.at.staged its.at.planned.name) same_run
            ∙ (ap (λ x. legs_of facts at.run x its.at.staged its.at.planned.name) same_stage
            ∙ (ap (λ (x : PlanStage). legs_of facts at.run at.stage x its.at.planned.name)
            same_staged
            ∙ ap (λ (x : List ℕ). legs_of facts at.run at.stage at.staged x) same))

        by_name : (b : Bool) → is its.at.planned.name at.planned.name ≡ b →
            legs_taken (facts ++ one ∷ []) at ≤ at.planned.max_parallel
        by_name true e =
            let name = same_name its.at.planned.name at.planned.name e in
            let most : its.at.planned.max_parallel ≡ at.planned.max_parallel =
            alike (files_of at.queued.compiled.sources) at.queued.compiled.sources.root
            at.queued.compiled.sources.arguments at.queued.compiled
            (own_queued facts at.run at.queued own is_at.queued).is at.stage its.at.job at.job
            at.staged its.at.planned at.planned is_at.staged planned_so is_at.planned name in
            let more = one_leg_more at.run at.stage at.staged at.planned.name its.at.job not_its in
            let legs = legs_same name in
            let room = its.room in
            omega (arith, most, more, legs, room)
        by_name false e =
            let few = fewer_legs at.run at.stage at.staged at.planned.name still_leg in
            let room = was at is_at in
            omega (arith, few, room)
          where
            still_leg : (place : ℕ) →
                is_leg (facts ++ one ∷ []) at.run at.stage at.staged at.planned.name place ≡ true →
                is_leg facts at.run at.stage at.staged at.planned.name place ≡ true
            still_leg place leg = go (takes at.run at.stage place one) refl where
              go : (b : Bool) → takes at.run at.stage place one ≡ b →
                  is_leg facts at.run at.stage at.staged at.planned.name place ≡ true
              go false f = was_leg at.run at.stage at.staged at.planned.name place leg f
              go true f =
                  let here : slice_get at.staged.jobs place ≡ Some its.at.planned =
                  ap (slice_get at.staged.jobs) (takes_its place f) ∙ planned_so in
                  let both : (is its.at.planned.name at.planned.name &&
                  is_some (holding at.run at.stage place (facts ++ one ∷ []))) ≡ true =
                  sym (ap (λ (o : Option PlanJob). option_map_or (λ it. is it.name at.planned.name
                  && is_some (holding at.run at.stage place (facts ++ one ∷ []))) o false) here)
                  ∙ leg in
                  absurd (true≢false (sym (first_of_two
                  (is its.at.planned.name at.planned.name)
                  (is_some (holding at.run at.stage place (facts ++ one ∷ []))) both) ∙ e))

      by_event : (told : Event) → one.event ≡ told → Roomy facts told →
          legs_taken (facts ++ one ∷ []) at ≤ at.planned.max_parallel
      by_event (event.JobTaken r s j agent) told its =
          go (nat_eq r at.run) refl (nat_eq s at.stage) refl
        where
          -- another stage's
          apart : ((r ≡ at.run) → (s ≡ at.stage) → ⊥) → (place : ℕ) →
              takes at.run at.stage place one ≡ false
          apart off place = by_test (takes at.run at.stage place one) refl where
            by_test : (b : Bool) → takes at.run at.stage place one ≡ b →
                takes at.run at.stage place one ≡ false
            by_test true e =
                let where_it_is = taken_there r s j agent at.run at.stage place
                (subst (λ (it : Event). (same_key (key_of it) (key.Job at.run at.stage place) &&
                is_taking it) ≡ true) told e) in
                absurd (off where_it_is.0 where_it_is.1)
            by_test false e = e

          go : (a : Bool) → nat_eq r at.run ≡ a → (b : Bool) → nat_eq s at.stage ≡ b →
              legs_taken (facts ++ one ∷ []) at ≤ at.planned.max_parallel
          go true e true f =
              let of_run : r ≡ at.run = grind (arith, nat_tests, e) in
              let of_stage : s ≡ at.stage = grind (arith, nat_tests, f) in
              by_name r s j agent told its of_run of_stage
              (is its.at.planned.name at.planned.name) refl
          go true e false f = untaken (apart (λ l m.
              let on : nat_eq s at.stage ≡ true = grind (arith, nat_tests, m) in
              true≢false (sym on ∙ f)))
          go false e b f = untaken (apart (λ l m.
              let on : nat_eq r at.run ≡ true = grind (arith, nat_tests, l) in
              true≢false (sym on ∙ e)))
      by_event _ told its = untaken (λ place.
          no_take one.event at.run at.stage place (ap is_taking told))

    -- ---- of a run that is queued now

    taken_queued : (run stage job : ℕ) (told : Event) →
        (same_key (key_of told) (key.Job run stage job) && is_taking told) ≡ true →
        Roomy facts told → ¬ (queueing run facts ≡ None)
    taken_queued run stage job (event.JobTaken r s j agent) is its none =
        let where_it_is = taken_there r s j agent run stage job is in
        let at_run : queueing its.at.run facts ≡ None =
        ap (λ x. queueing x facts) (its.of_run ∙ where_it_is.0) ∙ none in
        none_some (by run_told (queueing its.at.run facts)) its.at.queued
        (ap (by run_told) at_run) its.there.queued
    taken_queued run stage job told is its none = true≢false (sym
        (second_of_two (same_key (key_of told) (key.Job run stage job)) (is_taking told) is))

    none_taken : (run stage job : ℕ) → queueing run facts ≡ None →
        taking run stage job (facts ++ one ∷ []) ≡ None
    none_taken run stage job none = go (takes run stage job one) refl where
      by_take : (o : Option Fact) → taking run stage job facts ≡ o → o ≡ None
      by_take None e = refl
      by_take (Some take) e = absurd (queued run stage
          (jobs.taken run stage job (λ nothing. none_some (taking run stage job facts) take nothing
          e)) none)

      go : (b : Bool) → takes run stage job one ≡ b →
          taking run stage job (facts ++ one ∷ []) ≡ None
      go true e = absurd (taken_queued run stage job one.event e roomy none)
      go false e = untouched (takes run stage job) facts one e
          ∙ by_take (taking run stage job facts) refl

    none_held : (run stage job : ℕ) → queueing run facts ≡ None →
        is_some (holding run stage job (facts ++ one ∷ [])) ≡ true → ⊥
    none_held run stage job none held = true≢false (sym held
        ∙ ap is_some (none_either (is_some (job_ending run stage job (facts ++ one ∷ [])))
        (taking run stage job (facts ++ one ∷ [])) (none_taken run stage job none)))

    new_run : (at : JobOf) → queueing at.run facts ≡ None →
        legs_taken (facts ++ one ∷ []) at ≤ at.planned.max_parallel
    new_run at none =
        let zero_legs : legs_taken (facts ++ one ∷ []) at ≡ 0 =
        many_is (is_leg (facts ++ one ∷ []) at.run at.stage at.staged at.planned.name)
        (range_with_len 0 (length at.staged.jobs))
        ∙ none_pass (is_leg (facts ++ one ∷ []) at.run at.stage at.staged at.planned.name)
        (length at.staged.jobs) no_leg in
        omega (arith, zero_legs)
      where
        no_leg : (place : ℕ) →
            is_leg (facts ++ one ∷ []) at.run at.stage at.staged at.planned.name place ≡ true → ⊥
        no_leg place leg = go (slice_get at.staged.jobs place) leg where
          go : (o : Option PlanJob) → option_map_or (λ it. is it.name at.planned.name
              && is_some (holding at.run at.stage place (facts ++ one ∷ []))) o false ≡ true → ⊥
          go None h = true≢false (sym h)
          go (Some it) h = none_held at.run at.stage place none
              (second_of_two (is it.name at.planned.name)
              (is_some (holding at.run at.stage place (facts ++ one ∷ []))) h)

    pub room_more : HaveRoom (facts ++ one ∷ [])
    room_more at is_at = go (queueing at.run facts) refl where
      go : (o : Option Fact) → queueing at.run facts ≡ o →
          legs_taken (facts ++ one ∷ []) at ≤ at.planned.max_parallel
      go None e = new_run at e
      go (Some fact) e =
          let stays_so = queueing_stays facts one fresh at.run
          (λ none. none_some (queueing at.run facts) fact none e) in
          by_event at (record {
            queued = ap (by run_told) (sym stays_so) ∙ is_at.queued;
            staged = is_at.staged;
            planned = is_at.planned;
          }) one.event refl roomy

-- ---- along a legal history

abbrev pub Roomed : Log → Type 0
Roomed log = Holding log × AreOwn log.facts × HaveRoom log.facts

module _ (again : SourcesCompileAgain) (alike : LegsAreAlike) where
  roomed_keep : Keeps Roomed
  roomed_keep = record {
    due = λ log one before is_due was.
        let given = gives log.facts one.moment one.event is_due in
        let behind = holding_keep.due log one before is_due was.0 in (
          behind,
          (own_keeps again).due log one before is_due was.1,
          room_more log.facts one was.0.0.2 behind.0.2 alike
              (due_fresh log.facts one.moment one.event given)
              (due_roomy log.facts one.moment one.event given) was.1 was.0.0.0.queued was.2,
        );
    asked = λ log made one has before few tells was.
        let behind = holding_keep.asked log made one has before few tells was.0 in (
          behind,
          (own_keeps again).asked log made one has before few tells was.1,
          room_more log.facts one was.0.0.2 behind.0.2 alike
              (asked_fresh log made one few was.0.0.0 one.event refl tells)
              (asked_roomy log made one.event tells) was.1 was.0.0.0.queued was.2,
        );
    installed = λ log count was. (
      holding_keep.installed log count was.0,
      (own_keeps again).installed log count was.1,
      was.2,
    );
  }

  pub room_all : Laws → (opening : Opening) (entries : List Entry) → IsOrderly opening →
      NoneLater (log_of opening []) → Roomed (log_of opening []) → Legal opening entries →
      Roomed (log_of opening entries)
  room_all laws opening entries first later was legal =
      stays laws Roomed roomed_keep opening entries first later was legal
