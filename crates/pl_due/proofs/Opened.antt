-- The stages of open runs that run, or wait, are all stages of queued runs that do.
use Rattle.std.proofs.Common.{◌≡◌, ◌<◌, ◌+◌, ◌⊎◌, eqb, ℕ, Bool, true, false, List, []}
use Rattle.std.proofs.Common.{◌∷◌, ◌++◌, length, map, flat_map, Option, Some, None, is_none}
use Rattle.std.proofs.Common.{refl, sym, ap, ◌∙◌, subst, arith, inl, inr, ⊎_elim}
use Rattle.std.specs.List.{AllPairs, Contains, filter, list_any, range_with_len}
use Rattle.std.specs.Option.{option_map_or}
use Rattle.std.proofs.lemmas.List.{append-nil}
use Rattle.std.proofs.lemmas.List.Concat.{flat_map-cons}
use Rattle.std.proofs.lemmas.List.Elements.{Contains-append_cases, Contains-append_left}
use Rattle.std.proofs.lemmas.List.Elements.{Contains-append_right}
use Rattle.std.proofs.lemmas.List.Folds.{Any-from_list_any, list_any-from_Any}
use Rattle.std.proofs.lemmas.List.FromFn.{get_or-range_with_len, length-range_with_len}
use Rattle.std.proofs.lemmas.List.Kept.{AllPairs-filter}
use Rattle.std.proofs.lemmas.Option.{slice_get_within}
use Rattle.pl_facts.specs.declared.fact.Fact.{Fact}
use Rattle.pl_facts.specs.declared.fact.QueuedRun.{QueuedRun}
use Rattle.pl_journal.specs.Runs.{queueing, run_told, stage_end}
use Rattle.pl_journal.specs.Settings.{by}
use Rattle.pl_open_runs.specs.Open.{is_open, open_runs}
use Rattle.pl_plan.specs.declared.plan.PlanStage.{PlanStage}
use Rattle.pl_due.specs.declared.open_stages.Place.{Place}
use Rattle.pl_due.specs.Contention.{Holds, InRun}
use Rattle.pl_due.specs.Nodes.{IsStageOf, is_waiting}
use Rattle.pl_due.specs.Open.{Test, at_place, of_open, of_run, passing, runs, waits}
use Rattle.pl_due.specs.Scans.{HasRunning, HasStages, HasWaiting, IsBefore, Waits}
use Rattle.pl_due.proofs.Members.{cons_cases, head_before, here, pairs_append, tail_pairs, there}
use Rattle.pl_due.proofs.Standing.{running_open, waiting_open}

-- ---- lists

filter_cases : {X : Type 0} (p : X → Bool) (x : X) (xs : List X) → Contains (filter p xs) x →
    Contains xs x
filter_cases p x [] in_none = in_none
filter_cases {X} p x (y ∷ xs) in_some = go (p y) refl (λ h. filter_cases p x xs h)
  where
    go : (b : Bool) → p y ≡ b → (Contains (filter p xs) x → Contains xs x) → Contains (y ∷ xs) x
    go true is rest = ⊎_elim (λ same. subst (λ z. Contains (y ∷ xs) z) same (here y xs))
        (λ behind. there x y xs (rest behind))
        (cons_cases x y (filter p xs) (rw is at in_some))
    go false is rest = there x y xs (rest (rw is at in_some))

filter_in : {X : Type 0} (p : X → Bool) (x : X) (xs : List X) → p x ≡ true → Contains xs x →
    Contains (filter p xs) x
filter_in p x [] passes in_none = in_none
filter_in {X} p x (y ∷ xs) passes in_some = ⊎_elim
    (λ same. let e : p y ≡ true = ap p same ∙ passes in
    rw e (subst (λ z. Contains (y ∷ filter p xs) z) same (here y (filter p xs))))
    (λ behind. go (p y) refl (filter_in p x xs passes behind))
    (cons_cases x y xs in_some)
  where
    go : (b : Bool) → p y ≡ b → Contains (filter p xs) x → Contains (filter p (y ∷ xs)) x
    go true is h = rw is (there x y (filter p xs) h)
    go false is h = rw is h

map_in : {X Y : Type 0} (f : X → Y) (x : X) (xs : List X) → Contains xs x →
    Contains (map f xs) (f x)
map_in f x [] (k, below, is) = absurd (omega arith)
map_in {X} {Y} f x (y ∷ xs) in_some = ⊎_elim
    (λ same. subst (λ z. Contains (f y ∷ map f xs) z) (ap f same) (here (f y) (map f xs)))
    (λ behind. there (f x) (f y) (map f xs) (map_in f x xs behind))
    (cons_cases x y xs in_some)

map_from : {X Y : Type 0} (f : X → Y) (y : Y) (xs : List X) → Contains (map f xs) y →
    (x : X) × Contains xs x × (f x ≡ y)
map_from f y [] (k, below, is) = absurd (omega arith)
map_from {X} {Y} f y (x ∷ xs) in_some = ⊎_elim
    (λ same. (x, here x xs, same))
    (λ behind. let (z, in_xs, is) = map_from f y xs behind in (z, there z x xs in_xs, is))
    (cons_cases y (f x) (map f xs) in_some)

flat_in : {X Y : Type 0} (f : X → List Y) (x : X) (y : Y) (xs : List X) → Contains xs x →
    Contains (f x) y → Contains (flat_map f xs) y
flat_in f x y [] (k, below, is) in_it = absurd (omega arith)
flat_in {X} {Y} f x y (first ∷ xs) in_some in_it =
    subst (λ zs. Contains zs y) (sym (flat_map-cons f first xs)) (⊎_elim
    (λ same. Contains-append_left (f first) (flat_map f xs) y
    (subst (λ z. Contains (f z) y) (sym same) in_it))
    (λ behind. Contains-append_right (f first) (flat_map f xs) y (flat_in f x y xs behind in_it))
    (cons_cases x first xs in_some))

flat_from : {X Y : Type 0} (f : X → List Y) (y : Y) (xs : List X) → Contains (flat_map f xs) y →
    (x : X) × Contains xs x × Contains (f x) y
flat_from f y [] (k, below, is) = absurd (omega arith)
flat_from {X} {Y} f y (first ∷ xs) in_some = ⊎_elim
    (λ in_first. (first, here first xs, in_first))
    (λ behind. let (x, in_xs, in_it) = flat_from f y xs behind in
    (x, there x first xs in_xs, in_it))
    (Contains-append_cases (f first) (flat_map f xs) y
    (subst (λ zs. Contains zs y) (flat_map-cons f first xs) in_some))

range_in : (count n : ℕ) → n < count → Contains (range_with_len 0 count) n
range_in count n less =
    let len : length (range_with_len 0 count) ≡ count = length-range_with_len 0 count in
    let same : 0 + n ≡ n = omega arith in
    (n, omega (arith, len, less), get_or-range_with_len 0 count n n less ∙ same)

-- ---- places of one run, and counted ones

map_pairs : (run : ℕ) (stages : List ℕ) → AllPairs (λ a b. a < b) stages →
    AllPairs IsBefore (map (at_place run) stages)
map_pairs run [] pairs = λ i j d less within. absurd (omega arith)
map_pairs run (stage ∷ stages) pairs =
    pairs_append IsBefore (at_place run stage ∷ []) (map (at_place run) stages)
    (λ i j d less within. absurd (omega arith))
    (map_pairs run stages (tail_pairs (λ a b. a < b) stage stages pairs))
    (λ x y in_one in_rest.
    let (s, in_stages, is) = map_from (at_place run) y stages in_rest in
    let less = head_before (λ a b. a < b) stage s stages pairs in_stages in
    ⊎_elim (λ same. subst (λ p. IsBefore p y) same (subst (IsBefore (at_place run stage)) is
    (inr (refl, less))))
    (λ none. let (k, below, e) = none in absurd (omega arith))
    (cons_cases x (at_place run stage) [] in_one))

range_pairs : (count : ℕ) → AllPairs (λ a b. a < b) (range_with_len 0 count)
range_pairs count = λ i j d less within.
    let len : length (range_with_len 0 count) ≡ count = length-range_with_len 0 count in
    let a = get_or-range_with_len 0 count i d (omega (arith, len, less, within)) in
    let b = get_or-range_with_len 0 count j d (omega (arith, len, within)) in
    rw (a, b) (omega (arith, less))

-- ---- stages of one run that pass a test

module _ (facts : List Fact) (test : Test) where
  among_run : (stages : List PlanStage) (run count : ℕ) (at : Place) →
      Contains (passing test stages run count) at → at.run ≡ run
  among_run stages run count at in_it =
      let (stage, in_xs, is) = map_from (at_place run) at
      (filter (test stages run) (range_with_len 0 count)) in_it in
      sym (ap (λ (p : Place). p.run) is)

  abbrev of_queued : ℕ → Option QueuedRun → List Place
  of_queued run told = option_map_or (λ (t : QueuedRun). passing test t.compiled.plan.stages run
      (length t.compiled.plan.stages)) told []

  pub in_its_run : (run : ℕ) (at : Place) → Contains (of_run facts test run) at → at.run ≡ run
  in_its_run run at = go (by run_told (queueing run facts))
    where
      go : (told : Option QueuedRun) → Contains (of_queued run told) at → at.run ≡ run
      go None (k, below, is) = absurd (omega arith)
      go (Some t) in_it =
          among_run t.compiled.plan.stages run (length t.compiled.plan.stages) at in_it

  pub run_pairs : (run : ℕ) → AllPairs IsBefore (of_run facts test run)
  run_pairs run = go (by run_told (queueing run facts))
    where
      go : (told : Option QueuedRun) → AllPairs IsBefore (of_queued run told)
      go None = λ i j d less within. absurd (omega arith)
      go (Some t) =
          let count = length t.compiled.plan.stages in
          map_pairs run (filter (test t.compiled.plan.stages run) (range_with_len 0 count))
          (AllPairs-filter (λ a b. a < b) (test t.compiled.plan.stages run)
          (range_with_len 0 count) (range_pairs count))

  pub of_told : (run : ℕ) (told : QueuedRun) → by run_told (queueing run facts) ≡ Some told →
      of_run facts test run
      ≡ passing test told.compiled.plan.stages run (length told.compiled.plan.stages)
  of_told run told is = ap (of_queued run) is

  pub no_run : (run : ℕ) (places : List Place) → by run_told (queueing run facts) ≡ None →
      places ≡ places ++ of_run facts test run
  no_run run places is = sym (append-nil places) ∙ ap (λ more. places ++ more)
      (sym (ap (of_queued run) is))

  -- ---- of all runs

  all_pairs : (runs : List ℕ) → AllPairs (λ a b. a < b) runs →
      AllPairs IsBefore (flat_map (of_run facts test) runs)
  all_pairs [] pairs = λ i j d less within. absurd (omega arith)
  all_pairs (run ∷ runs) pairs =
      subst (AllPairs IsBefore) (sym (flat_map-cons (of_run facts test) run runs))
      (pairs_append IsBefore (of_run facts test run) (flat_map (of_run facts test) runs)
      (run_pairs run) (all_pairs runs (tail_pairs (λ a b. a < b) run runs pairs))
      (λ x y in_run in_rest.
      let (other, in_runs, in_other) = flat_from (of_run facts test) y runs in_rest in
      let a = in_its_run run x in_run in
      let b = in_its_run other y in_other in
      let less = head_before (λ m n. m < n) run other runs pairs in_runs in
      inl (omega (arith, a, b, less))))

  pub in_run : (told : QueuedRun) (one : PlanStage) (run stage : ℕ) →
      IsStageOf facts run stage told one → test told.compiled.plan.stages run stage ≡ true →
      Contains (of_run facts test run) (at_place run stage)
  in_run told one run stage is passes =
      let stages = told.compiled.plan.stages in
      let within = slice_get_within stages stage one is.planned in
      rw is.queued (map_in (at_place run) stage
      (filter (test stages run) (range_with_len 0 (length stages)))
      (filter_in (test stages run) stage (range_with_len 0 (length stages)) passes
      (range_in (length stages) stage within)))

-- ---- open runs

eqb_same : (a b : ℕ) → eqb a b ≡ true → a ≡ b
eqb_same a b h = grind arith

-- an open run is one of the open runs
run_in : (runs : List ℕ) (run : ℕ) → list_any (λ one. eqb one run) runs ≡ true →
    Contains runs run
run_in runs run h =
    let (k, one, below, is, same) = Any-from_list_any (λ one. eqb one run) runs h in
    subst (Contains runs) (eqb_same one run same) (k, below, is)

pub open_run : (facts : List Fact) (told : QueuedRun) (one : PlanStage) (run stage : ℕ) →
    IsStageOf facts run stage told one → stage_end run stage facts ≡ None →
    is_open run facts ≡ true
open_run facts told one run stage is unended =
    let within = slice_get_within told.compiled.plan.stages stage one is.planned in
    let (k, below, at) = range_in (length told.compiled.plan.stages) stage within in
    let here : is_none (stage_end run stage facts) ≡ true = ap is_none unended in
    rw is.queued (list_any-from_Any (λ s. is_none (stage_end run s facts))
    (range_with_len 0 (length told.compiled.plan.stages)) (k, stage, below, at, here))

module _ (facts : List Fact) (ascend : AllPairs (λ a b. a < b) (open_runs facts))
    (hold : (run : ℕ) →
    list_any (λ one. eqb one run) (open_runs facts) ≡ is_open run facts) where
  -- those that pass a test are among those of open runs, where they haven't ended
  has_stages : (test : Test) (P : InRun) → ((told : QueuedRun) (one : PlanStage) (run stage : ℕ) →
      IsStageOf facts run stage told one → P told one run stage →
      (test told.compiled.plan.stages run stage ≡ true) × (stage_end run stage facts ≡ None)) →
      HasStages facts P (of_open facts test)
  has_stages test P passes = record {
    ordered = all_pairs facts test (open_runs facts) ascend;
    all = λ told one run stage is holds.
        let (h, unended) = passes told one run stage is holds in
        flat_in (of_run facts test) run (at_place run stage) (open_runs facts)
        (run_in (open_runs facts) run (hold run ∙ open_run facts told one run stage is unended))
        (in_run facts test told one run stage is h);
  }

  pub has_running : HasRunning facts (of_open facts (runs facts))
  has_running = has_stages (runs facts) (Holds facts)
      (λ told one run stage is holds. (holds, running_open run stage facts holds))

  pub has_waiting : HasWaiting facts (of_open facts (waits facts))
  has_waiting = has_stages (waits facts) (Waits facts)
      (λ told one run stage is holds. (
        ap (λ o. option_map_or (λ (p : PlanStage). is_waiting p run stage facts) o false)
            is.planned ∙ holds,
        waiting_open one run stage facts holds,
      ))
