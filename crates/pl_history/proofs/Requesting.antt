-- How a history stays sound behind what happens by a request.
use Rattle.std.proofs.Common.{◌≡◌, ◌&&◌, ◌≤◌, ◌+◌, ◌<◌, ℕ, Bool, true, false, cond, List, [], ◌∷◌}
use Rattle.std.proofs.Common.{◌++◌, Option, Some, None, is_some, is_none, refl, sym, ap, subst, ◌∙◌}
use Rattle.std.proofs.Common.{max, arith, filter_map, flat_map, length}
use Rattle.std.specs.Prelude.{if◌then◌else◌, nat_le}
use Rattle.std.specs.List.{Contains, cons_option, range_with_len}
use Rattle.std.specs.Option.{option_and_then, option_map_or}
use Rattle.std.specs.Ordering.{is_eq}
use Rattle.std.proofs.lemmas.Bool.{leb-false}
use Rattle.std.proofs.lemmas.List.FromFn.{get_or-range_with_len, length-range_with_len}
use Rattle.std.proofs.lemmas.Option.{none-some, slice_get_within}
use Rattle.pl_base.specs.declared.resource.ResourceKey.{ResourceKey}
use Rattle.pl_granting_laws.specs.Below.pl_settling.specs.Below.pl_due.proofs.Standing.{both, first_of_two, is_nothing}
use Rattle.pl_granting_laws.specs.Below.pl_settling.specs.Below.pl_due.proofs.Standing.{second_of_two}
use Rattle.pl_granting_laws.specs.Below.pl_settling.specs.Below.pl_due.specs.Checked.{is_exclusive}
use Rattle.pl_granting_laws.specs.Below.pl_settling.specs.Below.pl_due.specs.Nodes.{IsStageOf, is_running}
use Rattle.pl_facts.specs.declared.fact.Event.{Event}
use Rattle.pl_facts.specs.declared.fact.Event.TheVariants as event
use Rattle.pl_facts.specs.declared.fact.Fact.{Fact}
use Rattle.pl_facts.specs.declared.fact.QueuedRun.{QueuedRun}
use Rattle.pl_journal.specs.About.{is_about, is_also_about}
use Rattle.pl_journal.specs.Kinds.{is_queueing, is_stage_end, is_start}
use Rattle.pl_journal.specs.Log.{Log, last_run}
use Rattle.pl_journal.specs.Runs.{number_told, queueing, run_told, stage_end, stage_start}
use Rattle.pl_journal.specs.Settings.{by}
use Rattle.pl_log.proofs.Naming.{exact_key}
use Rattle.pl_log.specs.Keys.{Queue, Resource, Run, Stage, resource_cmp, same_key}
use Rattle.pl_open_runs.specs.Open.{queued_runs}
use Rattle.pl_plan.specs.declared.plan.PlanStage.{PlanStage}
use Rattle.pl_step.specs.Below.pl_queueing.specs.Queueing.{next_run}
use Rattle.pl_requests.specs.declared.settings.ResourceSetting.{ResourceSetting}
use Rattle.pl_step.specs.Below.pl_settings.specs.Running.{Stage as RunningStage, running_among}
use Rattle.pl_step.specs.Below.pl_settings.specs.Running.{running_at, running_of}
use Rattle.pl_step.specs.Below.pl_settings.specs.Running.{running_on, uses}
use Rattle.pl_step.specs.Below.pl_settings.specs.Running as running
use Rattle.pl_step.specs.Below.pl_settings.specs.Settings.{busy, busy_with}
use Rattle.pl_granting_laws.specs.Below.pl_settling.proofs.Behind.{none_before, touched, untouched}
use Rattle.pl_granting_laws.specs.Below.pl_settling.specs.Laws.{Occupies}
use Rattle.pl_step.specs.Full.{last_number}
use Rattle.pl_history.proofs.Happening.{Happens}
use Rattle.pl_history.proofs.Keeping.{AreBelow, Sound, idle_keeps, no_start, numbers_stay}
use Rattle.pl_history.proofs.Keeping.{queued_stays, same_run, same_start, with_one}
use Rattle.pl_history.proofs.Members.{any_contains, each_within, in_filter, kept_in_filter}
use Rattle.pl_history.proofs.Members.{one_giver, some_in}
use Rattle.pl_history.proofs.Queued.{queued_contains}

-- ---- who holds a resource behind a fact that starts no stage of this run and doesn't queue it

module _ (facts : List Fact) (one : Fact) (run stage : ℕ)
    (starts : (is_about (Stage run stage) one && is_start one.event) ≡ false)
    (queues : (is_about (Run run) one && is_queueing one.event) ≡ false) where
  running_before : is_running run stage (facts ++ one ∷ []) ≡ true →
      is_running run stage facts ≡ true
  running_before runs =
      let start = untouched (λ fact. is_about (Stage run stage) fact && is_start fact.event) facts
      one starts in
      let now_start = first_of_two (is_some (stage_start run stage (facts ++ one ∷ [])))
      (is_none (stage_end run stage (facts ++ one ∷ []))) runs in
      let now_end = is_nothing (stage_end run stage (facts ++ one ∷ []))
      (second_of_two (is_some (stage_start run stage (facts ++ one ∷ [])))
      (is_none (stage_end run stage (facts ++ one ∷ []))) runs) in
      let end = none_before (λ fact. is_about (Stage run stage) fact && is_stage_end fact.event)
      facts one now_end in
      both (is_some (stage_start run stage facts)) (is_none (stage_end run stage facts))
      (ap is_some (sym start) ∙ now_start) (ap is_none end)

  stage_before : (told : QueuedRun) (planned : PlanStage) →
      IsStageOf (facts ++ one ∷ []) run stage told planned → IsStageOf facts run stage told planned
  stage_before told planned there = record {
    queued =
        ap (by run_told) (sym (untouched (λ fact. is_about (Run run) fact
        && is_queueing fact.event) facts one queues)) ∙ there.queued;
    planned = there.planned;
  }

  -- where it is as exclusive as it was
  occupied_before : (key : ResourceKey) →
      is_exclusive (facts ++ one ∷ []) key ≡ is_exclusive facts key →
      Occupies (facts ++ one ∷ []) key run stage → Occupies facts key run stage
  occupied_before key same (told, planned, there, runs, in_it) =
      let parts = in_filter (is_exclusive (facts ++ one ∷ [])) planned.uses key in_it in (
        told,
        planned,
        stage_before told planned there,
        running_before runs,
        kept_in_filter (is_exclusive facts) planned.uses key (sym same ∙ parts.0) parts.1,
      )

same_exclusive : (facts : List Fact) (one : Fact) (key : ResourceKey) →
    is_about (Resource key) one ≡ false →
    is_exclusive (facts ++ one ∷ []) key ≡ is_exclusive facts key
same_exclusive facts one key lacks =
    let e = untouched (is_about (Resource key)) facts one lacks in rw e refl

-- ---- a run is queued

named_run : (a b : ℕ) (same : Bool) → same_key (Run a) (Run b) ≡ same → ¬ (a ≡ b) → same ≡ false
named_run a b true is other =
    let named : Run a ≡ Run b = exact_key (Run a) (Run b) is in
    let e : a ≡ b = cc in absurd (other e)
named_run a b false is other = refl

module _ (log : Log) (one : Fact) (told : QueuedRun) (is : one.event ≡ event.RunQueued told)
    (number : told.run ≡ next_run log) (few : last_run (with_one log one) ≤ last_number)
    (below : AreBelow log) where
  last_is : last_run (with_one log one) ≡ max log.opening.run told.run
  last_is = ap (λ (found : Option Fact). option_map_or (λ run. max log.opening.run run)
      (by number_told found) log.opening.run)
      (touched (is_also_about Queue) log.facts one (rw is refl))
      ∙ ap (λ (e : Event). option_map_or (λ run. max log.opening.run run)
      (number_told e) log.opening.run) is

  is_new : told.run ≡ last_run log + 1
  is_new =
      let bound : max log.opening.run told.run ≤ last_number =
      subst (λ n. n ≤ last_number) last_is few in
      omega (arith, number, bound)

  -- no run that was queued before has its number
  pub other_run : (run : ℕ) → ¬ (queueing run log.facts ≡ None) → ¬ (told.run ≡ run)
  other_run run there same = omega (arith, below run there, is_new, same)

  pub is_fresh : queueing told.run log.facts ≡ None
  is_fresh = go (queueing told.run log.facts) refl
    where
      go : (found : Option Fact) → queueing told.run log.facts ≡ found →
          queueing told.run log.facts ≡ None
      go None was = was
      go (Some fact) was =
          absurd (other_run told.run (λ none. none-some fact (sym none ∙ was)) refl)

  pub number_stays : AreBelow (with_one log one)
  number_stays = λ run there.
      by_run run there (is_about (Run run) one && is_queueing one.event) refl
    where
      by_run : (run : ℕ) → ¬ (queueing run (log.facts ++ one ∷ []) ≡ None) → (b : Bool) →
          (is_about (Run run) one && is_queueing one.event) ≡ b → run ≤ last_run (with_one log one)
      by_run run there true passes =
          let about : same_key (Run told.run) (Run run) ≡ true =
          first_of_two (same_key (Run told.run) (Run run)) true (rw is at passes) in
          let named : Run told.run ≡ Run run = exact_key (Run told.run) (Run run) about in
          let e : told.run ≡ run = cc in
          omega (arith, e, last_is)
      by_run run there false fails =
          omega (
            arith,
            below run (λ none. there (same_run log one run fails ∙ none)),
            is_new,
            last_is,
          )

module _ (log : Log) (one : Fact) (told : QueuedRun) (is : one.event ≡ event.RunQueued told)
    (number : told.run ≡ next_run log) (few : last_run (with_one log one) ≤ last_number)
    (sound : Sound log) where
  unqueued : (run : ℕ) → ¬ (queueing run log.facts ≡ None) →
      (is_about (Run run) one && is_queueing one.event) ≡ false
  unqueued run there =
      let about : is_about (Run run) one ≡ false =
      rw is (named_run told.run run (same_key (Run told.run) (Run run)) refl
      (other_run log one told is number few sound.numbers run there)) in
      ap (λ (b : Bool). b && is_queueing one.event) about

  unstarted : (run stage : ℕ) → (is_about (Stage run stage) one && is_start one.event) ≡ false
  unstarted run stage = rw is refl

  was_queued : (run stage : ℕ) → is_running run stage (log.facts ++ one ∷ []) ≡ true →
      ¬ (queueing run log.facts ≡ None)
  was_queued run stage runs =
      sound.queued run stage (λ none.
      let some = first_of_two (is_some (stage_start run stage (log.facts ++ one ∷ [])))
      (is_none (stage_end run stage (log.facts ++ one ∷ []))) runs in
      let e : false ≡ true =
      sym (ap is_some (same_start log one run stage (unstarted run stage) ∙ none)) ∙ some in
      absurd (cc))

  held_before : (key : ResourceKey) (run stage : ℕ) →
      Occupies (log.facts ++ one ∷ []) key run stage → Occupies log.facts key run stage
  held_before key run stage held =
      occupied_before log.facts one run stage (unstarted run stage)
      (unqueued run (was_queued run stage held.3))
      key (same_exclusive log.facts one key (rw is refl)) held

  queued_keeps : Sound (with_one log one)
  queued_keeps = record {
    one = λ key run stage r s left right.
        sound.one key run stage r s (held_before key run stage left) (held_before key r s right);
    queued = queued_stays log one unstarted sound;
    numbers = number_stays log one told is number few sound.numbers;
  }

-- ---- a resource is set

abbrev as_list : {X : Type 0} → Option X → List X
as_list o = cons_option o []

filter_map_is : {X Y : Type 0} (f : X → Option Y) (xs : List X) →
    filter_map f xs ≡ flat_map (λ x. as_list (f x)) xs
filter_map_is f [] = refl
filter_map_is {Y = Y} f (x ∷ xs) = go (f x) (filter_map_is f xs)
  where
    go : (o : Option Y) → filter_map f xs ≡ flat_map (λ x. as_list (f x)) xs →
        cons_option o (filter_map f xs) ≡ as_list o ++ flat_map (λ x. as_list (f x)) xs
    go None rest = rest
    go (Some y) rest = ap (λ ys. y ∷ ys) rest

in_range : (stage count : ℕ) → stage < count → Contains (range_with_len 0 count) stage
in_range stage count within = (
  stage,
  omega (arith, within, length-range_with_len 0 count),
  omega (arith, get_or-range_with_len 0 count stage stage within),
)

-- the stages that are running on it: of two there is one
module _ (facts : List Fact) (key : ResourceKey)
    (few : length (running_on facts key) ≤ 1) where
  -- a stage that is running on it is among them
  found_at : (run stage : ℕ) (told : QueuedRun) (planned : PlanStage) →
      IsStageOf facts run stage told planned → is_running run stage facts ≡ true →
      uses key planned ≡ true →
      1 ≤ length (as_list (running_at facts key run told.compiled.plan.stages stage))
  found_at run stage told planned there runs uses_it =
      let found : RunningStage = (run, planned.name) in
      let at : running_at facts key run told.compiled.plan.stages stage ≡ Some found =
      ap (λ (o : Option PlanStage). option_and_then {U = RunningStage} (λ one.
      if uses key one && running.is_running run stage facts then Some (run, one.name) else None) o)
      there.planned
      ∙ ap (λ (b : Bool). cond b (Some found) None)
      (both (uses key planned) (running.is_running run stage facts) uses_it runs) in
      rw at (omega arith)

  among : (run stage : ℕ) (told : QueuedRun) (planned : PlanStage) →
      IsStageOf facts run stage told planned → running_of facts key run ≡
      flat_map (λ place. as_list (running_at facts key run told.compiled.plan.stages place))
      (range_with_len 0 (length told.compiled.plan.stages))
  among run stage told planned there =
      ap (λ (o : Option QueuedRun). option_map_or (λ queued.
      running_among facts key run queued.compiled.plan.stages) o []) there.queued
      ∙ filter_map_is (running_at facts key run told.compiled.plan.stages)
      (range_with_len 0 (length told.compiled.plan.stages))

  in_places : (run stage : ℕ) (told : QueuedRun) (planned : PlanStage) →
      IsStageOf facts run stage told planned →
      Contains (range_with_len 0 (length told.compiled.plan.stages)) stage
  in_places run stage told planned there = in_range stage (length told.compiled.plan.stages)
      (slice_get_within told.compiled.plan.stages stage planned there.planned)

  found_in : (run stage : ℕ) (told : QueuedRun) (planned : PlanStage) →
      IsStageOf facts run stage told planned → is_running run stage facts ≡ true →
      uses key planned ≡ true → 1 ≤ length (running_of facts key run)
  found_in run stage told planned there runs uses_it =
      subst (λ (found : List RunningStage). 1 ≤ length found)
      (sym (among run stage told planned there))
      (some_in (λ place. as_list (running_at facts key run told.compiled.plan.stages place))
      (range_with_len 0 (length told.compiled.plan.stages)) stage
      (in_places run stage told planned there)
      (found_at run stage told planned there runs uses_it))

  was_queued_so : (run stage : ℕ) (told : QueuedRun) (planned : PlanStage) →
      IsStageOf facts run stage told planned → ¬ (queueing run facts ≡ None)
  was_queued_so run stage told planned there none =
      none-some told (sym (ap (by run_told) none) ∙ there.queued)

  -- of one run
  one_place : (run stage s : ℕ) (told : QueuedRun) (planned also : PlanStage) →
      IsStageOf facts run stage told planned → IsStageOf facts run s told also →
      is_running run stage facts ≡ true → is_running run s facts ≡ true →
      uses key planned ≡ true → uses key also ≡ true → stage ≡ s
  one_place run stage s told planned also there there_too runs runs_too uses_it uses_too =
      let most : length (running_of facts key run) ≤ length (running_on facts key) =
      each_within (running_of facts key) (queued_runs facts) run
      (queued_contains facts run (was_queued_so run stage told planned there)) in
      let few_here : length (flat_map (λ place.
      as_list (running_at facts key run told.compiled.plan.stages place))
      (range_with_len 0 (length told.compiled.plan.stages))) ≤ 1 =
      subst (λ (found : List RunningStage). length found ≤ 1)
      (among run stage told planned there) (omega (arith, most, few)) in
      one_giver (λ place. as_list (running_at facts key run told.compiled.plan.stages place))
      (range_with_len 0 (length told.compiled.plan.stages)) stage s few_here
      (in_places run stage told planned there) (in_places run s told also there_too)
      (found_at run stage told planned there runs uses_it)
      (found_at run s told also there_too runs_too uses_too)

  pub one_runs : (run stage r s : ℕ) (told other : QueuedRun) (planned also : PlanStage) →
      IsStageOf facts run stage told planned → IsStageOf facts r s other also →
      is_running run stage facts ≡ true → is_running r s facts ≡ true →
      uses key planned ≡ true → uses key also ≡ true → (run ≡ r) × (stage ≡ s)
  one_runs run stage r s told other planned also there there_too runs runs_too uses_it uses_too =
      let run_is : run ≡ r =
      one_giver (running_of facts key) (queued_runs facts) run r few
      (queued_contains facts run (was_queued_so run stage told planned there))
      (queued_contains facts r (was_queued_so r s other also there_too))
      (found_in run stage told planned there runs uses_it)
      (found_in r s other also there_too runs_too uses_too) in
      let moved : IsStageOf facts run s other also =
      subst (λ x. IsStageOf facts x s other also) (sym run_is) there_too in
      let told_is : Some told ≡ Some other = sym there.queued ∙ moved.queued in
      let same : told ≡ other = cc in (
        run_is,
        one_place run stage s told planned also there
            (subst (λ (q : QueuedRun). IsStageOf facts run s q also) (sym same) moved) runs
            (subst (λ x. is_running x s facts ≡ true) (sym run_is) runs_too) uses_it uses_too,
      )

-- what becomes exclusive is held by one stage at most
module _ (log : Log) (one : Fact) (told : ResourceSetting)
    (is : one.event ≡ event.ResourceSet told) (free : busy log.facts told ≡ None)
    (sound : Sound log) where
  starts_none : (run stage : ℕ) → (is_about (Stage run stage) one && is_start one.event) ≡ false
  starts_none run stage = rw is refl

  queues_none : (run : ℕ) → (is_about (Run run) one && is_queueing one.event) ≡ false
  queues_none run = rw is refl

  -- a resource of another key
  other_key : (key : ResourceKey) → is_about (Resource key) one ≡ false →
      (run stage r s : ℕ) → Occupies (log.facts ++ one ∷ []) key run stage →
      Occupies (log.facts ++ one ∷ []) key r s → (run ≡ r) × (stage ≡ s)
  other_key key lacks run stage r s left right =
      let same = same_exclusive log.facts one key lacks in
      sound.one key run stage r s
      (occupied_before log.facts one run stage (starts_none run stage) (queues_none run) key same
      left)
      (occupied_before log.facts one r s (starts_none r s) (queues_none r) key same right)

  -- ... of this one
  is_now : (key : ResourceKey) → is_about (Resource key) one ≡ true →
      is_exclusive (log.facts ++ one ∷ []) key ≡ told.exclusive
  is_now key about =
      let e = touched (is_about (Resource key)) log.facts one about in
      rw e (rw is refl)

  few_on : told.exclusive ≡ true → length (running_on log.facts told.key) ≤ 1
  few_on exclusive =
      let none : busy_with (running_on log.facts told.key) ≡ None = rw exclusive at free in
      go (nat_le 2 (length (running_on log.facts told.key))) refl none
    where
      go : (b : Bool) → nat_le 2 (length (running_on log.facts told.key)) ≡ b →
          busy_with (running_on log.facts told.key) ≡ None →
          length (running_on log.facts told.key) ≤ 1
      go true is_two none = absurd (let e = rw is_two at none in cc)
      go false is_two none =
          let low = leb-false 2 (length (running_on log.facts told.key)) is_two in omega arith

  this_key : (key : ResourceKey) → is_about (Resource key) one ≡ true →
      (run stage r s : ℕ) → Occupies (log.facts ++ one ∷ []) key run stage →
      Occupies (log.facts ++ one ∷ []) key r s → (run ≡ r) × (stage ≡ s)
  this_key key about run stage r s (told_one, planned, there, runs, in_it)
      (other, also, there_too, runs_too, in_too) =
      let facts = log.facts in
      let here_it = in_filter (is_exclusive (facts ++ one ∷ [])) planned.uses key in_it in
      let here_too = in_filter (is_exclusive (facts ++ one ∷ [])) also.uses key in_too in
      let exclusive : told.exclusive ≡ true = sym (is_now key about) ∙ here_it.0 in
      let about_it : is_eq (resource_cmp told.key key) ≡ true = rw is at about in
      let named : Resource told.key ≡ Resource key =
      exact_key (Resource told.key) (Resource key) about_it in
      let same : told.key ≡ key = cc in
      let itself : is_eq (resource_cmp told.key told.key) ≡ true =
      subst (λ k. is_eq (resource_cmp told.key k) ≡ true) (sym same) about_it in
      let passes : is_eq (resource_cmp key told.key) ≡ true =
      subst (λ k. is_eq (resource_cmp k told.key) ≡ true) same itself in
      one_runs facts told.key (few_on exclusive) run stage r s told_one other planned also
      (stage_before facts one run stage (starts_none run stage) (queues_none run) told_one planned
      there)
      (stage_before facts one r s (starts_none r s) (queues_none r) other also there_too)
      (running_before facts one run stage (starts_none run stage) (queues_none run) runs)
      (running_before facts one r s (starts_none r s) (queues_none r) runs_too)
      (any_contains (λ k. is_eq (resource_cmp k told.key)) planned.uses key passes here_it.1)
      (any_contains (λ k. is_eq (resource_cmp k told.key)) also.uses key passes here_too.1)

  set_keeps : Sound (with_one log one)
  set_keeps = record {
    one = λ key run stage r s left right.
        by_key key run stage r s left right (is_about (Resource key) one) refl;
    queued = queued_stays log one starts_none sound;
    numbers = numbers_stay log one queues_none (rw is refl) sound.numbers;
  }
    where
      by_key : (key : ResourceKey) (run stage r s : ℕ) →
          Occupies (log.facts ++ one ∷ []) key run stage →
          Occupies (log.facts ++ one ∷ []) key r s → (b : Bool) →
          is_about (Resource key) one ≡ b → (run ≡ r) × (stage ≡ s)
      by_key key run stage r s left right true about =
          this_key key about run stage r s left right
      by_key key run stage r s left right false lacks =
          other_key key lacks run stage r s left right

-- ---- whatever happens

pub request_keeps : (log : Log) (one : Fact) → Happens log one.event →
    last_run (with_one log one) ≤ last_number → Sound log → Sound (with_one log one)
request_keeps log one happens few sound = go one.event refl happens
  where
    idle : ((run : ℕ) → (is_about (Run run) one && is_queueing one.event) ≡ false) →
        ((key : ResourceKey) → is_about (Resource key) one ≡ false) →
        ((run stage : ℕ) → (is_about (Stage run stage) one && is_start one.event) ≡ false) →
        is_also_about Queue one ≡ false → Sound (with_one log one)
    idle run resource start queue = idle_keeps log one (record {
      quiet = record { run = run; resource = resource };
      start = start;
      queue = queue;
    }) sound

    go : (told : Event) → one.event ≡ told → Happens log told → Sound (with_one log one)
    go (event.FilePut file) e is =
        idle (λ run. rw e refl) (λ key. rw e refl) (λ run stage. rw e refl) (rw e refl)
    go (event.FileRemoved key) e is =
        idle (λ run. rw e refl) (λ k. rw e refl) (λ run stage. rw e refl) (rw e refl)
    go (event.PipelineSet told) e is =
        idle (λ run. rw e refl) (λ key. rw e refl) (λ run stage. rw e refl) (rw e refl)
    go (event.ResourceSet told) e is = set_keeps log one told e is sound
    go (event.PrincipalSet told) e is =
        idle (λ run. rw e refl) (λ key. rw e refl) (λ run stage. rw e refl) (rw e refl)
    go (event.AgentSet told) e is =
        idle (λ run. rw e refl) (λ key. rw e refl) (λ run stage. rw e refl) (rw e refl)
    go (event.RunQueued told) e is = queued_keeps log one told e is few sound
    go (event.DecisionMade run stage approver approve) e is =
        idle (λ r. rw e refl) (λ key. rw e refl)
        (λ r s. rw e (no_start (same_key (Stage run stage) (Stage r s)))) (rw e refl)
    go (event.JobTaken run stage job agent) e is =
        idle (λ r. rw e refl) (λ key. rw e refl) (λ r s. rw e refl) (rw e refl)
    go (event.JobEnded outcome reported stage job run rule outputs) e is =
        idle (λ r. rw e refl) (λ key. rw e refl) (λ r s. rw e refl) (rw e refl)
    go (event.RunCanceled run) e is =
        idle (λ r. rw e (no_start (same_key (Run run) (Run r)))) (λ key. rw e refl)
        (λ r s. rw e refl) (rw e refl)
    go (event.StageStarted run stage) e none = absurd none
    go (event.StageEnded run stage outcome rule) e none = absurd none
