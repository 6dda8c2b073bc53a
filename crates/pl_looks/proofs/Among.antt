-- The jobs that are told are all that wait for an agent, or that one holds.
use Rattle.std.proofs.Common.{◌≡◌, ◌<◌, ◌+◌, ℕ, Bool, true, List, [], ◌∷◌, Option, Some, None}
use Rattle.std.proofs.Common.{sym, ap, subst, ◌∙◌, arith, length, flat_map, slice_get, ⊎_elim}
use Rattle.std.specs.List.{Contains, cons_option, filter_map, range_with_len}
use Rattle.std.specs.Option.{option_map}
use Rattle.std.specs.Prelude.{if◌then◌else◌}
use Rattle.std.proofs.lemmas.List.Concat.{flat_map-cons}
use Rattle.std.proofs.lemmas.List.Elements.{Contains-append_left, Contains-append_right}
use Rattle.std.proofs.lemmas.List.FromFn.{get_or-range_with_len, length-range_with_len}
use Rattle.std.proofs.lemmas.Option.{slice_get_within}
use Rattle.pl_due.proofs.Members.{cons_cases, here, there}
use Rattle.pl_due.proofs.Opened.{in_run}
use Rattle.pl_due.specs.Below.pl_journal.specs.Runs.{holding, taker_told}
use Rattle.pl_due.specs.Below.pl_journal.specs.Settings.{by}
use Rattle.pl_due.specs.Nodes.{IsStageOf, awaits_agent, is_running}
use Rattle.pl_due.specs.Open.{at_place, of_run, runs}
use Rattle.pl_due.specs.declared.open_stages.Place.{Place}
use Rattle.pl_facts.specs.declared.fact.Fact.{Fact}
use Rattle.pl_facts.specs.declared.fact.QueuedRun.{QueuedRun}
use Rattle.pl_facts.specs.Below.pl_plan.specs.declared.plan.PlanJob.{PlanJob}
use Rattle.pl_facts.specs.Below.pl_plan.specs.declared.plan.PlanStage.{PlanStage}
use Rattle.pl_looks.specs.Jobs.{Telling, of_place, ready_job, ready_jobs, taken_job, taken_jobs}
use Rattle.pl_looks.specs.Jobs.{told_jobs}
use Rattle.pl_looks.specs.declared.types.ReadyJob.{ReadyJob}
use Rattle.pl_looks.specs.declared.types.TakenJob.{TakenJob}
use Rattle.pl_looks.proofs.Telling.{place_told, ready_is}

flat_in : {X Y : Type 0} (f : X → List Y) (x : X) (y : Y) (xs : List X) → Contains xs x →
    Contains (f x) y → Contains (flat_map f xs) y
flat_in f x y [] (k, below, is) in_it = absurd (omega arith)
flat_in {X} {Y} f x y (first ∷ xs) in_some in_it =
    subst (λ zs. Contains zs y) (sym (flat_map-cons f first xs)) (⊎_elim
    (λ same. Contains-append_left (f first) (flat_map f xs) y
    (subst (λ z. Contains (f z) y) (sym same) in_it))
    (λ behind. Contains-append_right (f first) (flat_map f xs) y (flat_in f x y xs behind in_it))
    (cons_cases x first xs in_some))

more : {Y : Type 0} (o : Option Y) (y : Y) (ys : List Y) → Contains ys y →
    Contains (cons_option o ys) y
more None y ys is = is
more (Some z) y ys is = there y z ys is

told_in : {X Y : Type 0} (h : X → Option Y) (x : X) (y : Y) (xs : List X) → Contains xs x →
    h x ≡ Some y → Contains (filter_map h xs) y
told_in h x y [] (k, below, is) told = absurd (omega arith)
told_in {X} {Y} h x y (first ∷ xs) in_some told = ⊎_elim
    (λ same. subst (λ (o : Option Y). Contains (cons_option o (filter_map h xs)) y)
    (sym (ap h same ∙ told)) (here y (filter_map h xs)))
    (λ behind. more (h first) y (filter_map h xs) (told_in h x y xs behind told))
    (cons_cases x first xs in_some)

range_in : (count n : ℕ) → n < count → Contains (range_with_len 0 count) n
range_in count n less =
    let len : length (range_with_len 0 count) ≡ count = length-range_with_len 0 count in
    let same : 0 + n ≡ n = omega arith in
    (n, omega (arith, len, less), get_or-range_with_len 0 count n n less ∙ same)

module _ (facts : List Fact) (told : QueuedRun) (one : PlanStage) (planned : PlanJob)
    (run stage job : ℕ) (there : IsStageOf facts run stage told one)
    (now : is_running run stage facts ≡ true) (is : slice_get one.jobs job ≡ Some planned) where
  among : {X : Type 0} (telling : Telling X) (x : X) → telling facts one run stage job ≡ Some x →
      Contains (told_jobs telling run facts) x
  among {X} telling x tells =
      flat_in (λ (at : Place). of_place telling facts run at.stage) (at_place run stage) x
      (of_run facts (runs facts) run) (in_run facts (runs facts) told one run stage there now)
      (subst (λ (xs : List X). Contains xs x)
      (sym (place_told telling facts run stage told one there.queued there.planned))
      (told_in (telling facts one run stage) job x (range_with_len 0 (length one.jobs))
      (range_in (length one.jobs) job (slice_get_within one.jobs job planned is)) tells))

  pub ready_among : awaits_agent one run stage job facts ≡ true → Contains (ready_jobs run facts)
      (record { pool = planned.pool; stage = stage; job = job })
  ready_among waits =
      let this : ReadyJob = record { pool = planned.pool; stage = stage; job = job } in
      among ready_job this (ready_is facts one run stage job planned is
      ∙ ap (λ (b : Bool). if b then Some this else None) waits)

  pub taken_among : (agent : List ℕ) → by taker_told (holding run stage job facts) ≡ Some agent →
      Contains (taken_jobs run facts) (record { agent = agent; stage = stage; job = job })
  taken_among agent held =
      let this : TakenJob = record { agent = agent; stage = stage; job = job } in
      among taken_job this (ap (option_map
      (λ (a : List ℕ). record { agent = a; stage = stage; job = job })) held)
