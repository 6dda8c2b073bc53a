-- Who holds exclusive resources behind one fact more.
use Rattle.std.proofs.Common.{◌≡◌, ◌&&◌, ◌⊎◌, ℕ, Bool, true, false, cond, List, [], ◌∷◌, ◌++◌}
use Rattle.std.proofs.Common.{is_some, is_none, refl, sym, ap, ◌∙◌, subst, inl}
use Rattle.std.proofs.Common.{inr, ⊎_elim}
use Rattle.std.specs.List.{Contains, filter}
use Rattle.pl_base.specs.declared.resource.ResourceKey.{ResourceKey}
use Rattle.pl_facts.specs.declared.fact.Event.{Event}
use Rattle.pl_facts.specs.declared.fact.Event.TheVariants as event
use Rattle.pl_facts.specs.declared.fact.Fact.{Fact}
use Rattle.pl_facts.specs.declared.fact.QueuedRun.{QueuedRun}
use Rattle.pl_due.specs.Below.pl_journal.specs.About.{is_about}
use Rattle.pl_due.specs.Below.pl_journal.specs.Kinds.{is_queueing, is_stage_end, is_start}
use Rattle.pl_due.specs.Below.pl_journal.specs.Runs.{queueing, run_told, stage_end, stage_start}
use Rattle.pl_due.specs.Below.pl_journal.specs.Settings.{by, resource}
use Rattle.pl_log.specs.Keys.{Resource, Run, Stage, same_key}
use Rattle.pl_log.proofs.Naming.{exact_key}
use Rattle.pl_facts.specs.Below.pl_plan.specs.declared.plan.PlanStage.{PlanStage}
use Rattle.pl_due.specs.Checked.{exclusive_uses, is_exclusive}
use Rattle.pl_due.specs.Nodes.{IsStageOf, is_running}
use Rattle.pl_due.proofs.OneStage.{one_planned}
use Rattle.pl_due.proofs.Standing.{both, first_of_two, is_nothing, second_of_two}
use Rattle.pl_settling.specs.Gives.{Gives}
use Rattle.pl_settling.specs.Laws.{HasOneHolder, Occupies, WasNext}
use Rattle.pl_settling.proofs.Behind.{none_before, untouched}

filter_same : {X : Type 0} (p q : X → Bool) → ((x : X) → p x ≡ q x) → (xs : List X) →
    filter p xs ≡ filter q xs
filter_same p q same [] = refl
filter_same {X} p q same (x ∷ xs) =
    ap (λ b. cond b (x ∷ filter p xs) (filter p xs)) (same x)
    ∙ ap (λ (ys : List X). cond (q x) (x ∷ ys) ys) (filter_same p q same xs)

-- a fact of which neither runs that are queued nor resources that are set come
pub record IsQuiet (fact : Fact) : Type 0 where
  pub run : (number : ℕ) → (is_about (Run number) fact && is_queueing fact.event) ≡ false
  pub resource : (key : ResourceKey) → is_about (Resource key) fact ≡ false

module _ (facts : List Fact) (one : Fact) (quiet : IsQuiet one) where
  same_run : (run : ℕ) → queueing run (facts ++ one ∷ []) ≡ queueing run facts
  same_run run = untouched (λ fact. is_about (Run run) fact && is_queueing fact.event) facts one
      (quiet.run run)

  same_exclusive : (key : ResourceKey) →
      is_exclusive (facts ++ one ∷ []) key ≡ is_exclusive facts key
  same_exclusive key =
      let e = untouched (is_about (Resource key)) facts one (quiet.resource key) in
      rw e refl

  same_uses : (planned : PlanStage) →
      exclusive_uses (facts ++ one ∷ []) planned ≡ exclusive_uses facts planned
  same_uses planned = filter_same (is_exclusive (facts ++ one ∷ [])) (is_exclusive facts)
      same_exclusive planned.uses

  pub stage_before : (run stage : ℕ) (told : QueuedRun) (planned : PlanStage) →
      IsStageOf (facts ++ one ∷ []) run stage told planned → IsStageOf facts run stage told planned
  stage_before run stage told planned there = record {
    queued = ap (by run_told) (sym (same_run run)) ∙ there.queued;
    planned = there.planned;
  }

  -- a stage that runs, but for one that this fact starts, has run before
  running_before : (run stage : ℕ) →
      (is_about (Stage run stage) one && is_start one.event) ≡ false →
      is_running run stage (facts ++ one ∷ []) ≡ true → is_running run stage facts ≡ true
  running_before run stage lacks runs =
      let start = untouched (λ fact. is_about (Stage run stage) fact && is_start fact.event) facts
      one lacks in
      let now_start = first_of_two (is_some (stage_start run stage (facts ++ one ∷ [])))
      (is_none (stage_end run stage (facts ++ one ∷ []))) runs in
      let now_end = is_nothing (stage_end run stage (facts ++ one ∷ []))
      (second_of_two (is_some (stage_start run stage (facts ++ one ∷ [])))
      (is_none (stage_end run stage (facts ++ one ∷ []))) runs) in
      let end = none_before (λ fact. is_about (Stage run stage) fact && is_stage_end fact.event)
      facts one now_end in
      both (is_some (stage_start run stage facts)) (is_none (stage_end run stage facts))
      (ap is_some (sym start) ∙ now_start) (ap is_none end)

  occupied_before : (key : ResourceKey) (run stage : ℕ) →
      (is_about (Stage run stage) one && is_start one.event) ≡ false →
      Occupies (facts ++ one ∷ []) key run stage → Occupies facts key run stage
  occupied_before key run stage lacks (told, planned, there, runs, in_it) = (
    told,
    planned,
    stage_before run stage told planned there,
    running_before run stage lacks runs,
    subst (λ keys. Contains keys key) (same_uses planned) in_it,
  )

  -- ---- where no stage starts

  pub still_one : ((run stage : ℕ) →
      (is_about (Stage run stage) one && is_start one.event) ≡ false) → HasOneHolder facts →
      HasOneHolder (facts ++ one ∷ [])
  still_one lacks holds = λ key run stage r s left right.
      holds key run stage r s (occupied_before key run stage (lacks run stage) left)
      (occupied_before key r s (lacks r s) right)

  -- ---- where the next one does

  module _ (moment started place : ℕ) (next : WasNext facts moment started place)
      (names : (run stage : ℕ) →
      ((run ≡ started) × (stage ≡ place)) ⊎
      ((is_about (Stage run stage) one && is_start one.event) ≡ false)) where
    takes : (key : ResourceKey) (run stage : ℕ) → run ≡ started → stage ≡ place →
        Occupies (facts ++ one ∷ []) key run stage →
        Contains (exclusive_uses facts next.one) key
    takes key run stage is_run is_stage (told, planned, there, runs, in_it) =
        let was : IsStageOf facts started place told planned =
        subst (λ s. IsStageOf facts started s told planned) is_stage
        (subst (λ r. IsStageOf facts r stage told planned) is_run
        (stage_before run stage told planned there)) in
        let same = one_planned facts started place told next.told planned next.one was next.there in
        subst (λ o. Contains (exclusive_uses facts o) key) same
        (subst (λ keys. Contains keys key) (same_uses planned) in_it)

    pub one_more : HasOneHolder facts → HasOneHolder (facts ++ one ∷ [])
    one_more holds = λ key run stage r s left right.
        ⊎_elim
        (λ (is_run, is_stage). ⊎_elim
        (λ (also_run, also_stage). (is_run ∙ sym also_run, is_stage ∙ sym also_stage))
        (λ lacks. absurd (next.free key (takes key run stage is_run is_stage left) r s
        (occupied_before key r s lacks right)))
        (names r s))
        (λ lacks. ⊎_elim
        (λ (also_run, also_stage). absurd (next.free key
        (takes key r s also_run also_stage right) run stage
        (occupied_before key run stage lacks left)))
        (λ neither. holds key run stage r s (occupied_before key run stage lacks left)
        (occupied_before key r s neither right))
        (names r s))
        (names run stage)

-- ---- a stage that starts

names_one : (started place run stage : ℕ) (b : Bool) →
    (b ≡ true → Stage started place ≡ Stage run stage) →
    ((run ≡ started) × (stage ≡ place)) ⊎ ((b && true) ≡ false)
names_one started place run stage true exact =
    let e : Stage started place ≡ Stage run stage = exact refl in
    let a : run ≡ started = cc in
    let c : stage ≡ place = cc in
    inl (a, c)
names_one started place run stage false exact = inr refl

no_start : (b : Bool) → (b && false) ≡ false
no_start true = refl
no_start false = refl

-- nothing that is due queues a run or sets a resource
pub quiet_if : (facts : List Fact) (moment : ℕ) (one : Fact) → Gives facts moment one.event →
    IsQuiet one
quiet_if facts moment one is = go one.event refl is
  where
    go : (told : Event) → one.event ≡ told → Gives facts moment told → IsQuiet one
    go (event.StageStarted run stage) e due =
        record { run = λ number. rw e refl; resource = λ key. rw e refl }
    go (event.StageEnded run stage outcome rule) e due =
        record { run = λ number. rw e refl; resource = λ key. rw e refl }
    go (event.JobEnded outcome reported stage job run rule outputs) e due =
        record { run = λ number. rw e refl; resource = λ key. rw e refl }
    go (event.FilePut file) e none = absurd none
    go (event.FileRemoved key) e none = absurd none
    go (event.PipelineSet told) e none = absurd none
    go (event.ResourceSet told) e none = absurd none
    go (event.PrincipalSet told) e none = absurd none
    go (event.AgentSet told) e none = absurd none
    go (event.RunQueued told) e none = absurd none
    go (event.DecisionMade run stage approver approve) e none = absurd none
    go (event.JobTaken run stage job agent) e none = absurd none
    go (event.RunCanceled run) e none = absurd none

-- every fact that is due keeps it
pub keeps_one : (moment : ℕ) (facts : List Fact) (one : Fact) → one.moment ≡ moment →
    Gives facts moment one.event → HasOneHolder facts → HasOneHolder (facts ++ one ∷ [])
keeps_one moment facts one at is holds = go one.event refl is
  where
    quiet : IsQuiet one
    quiet = quiet_if facts moment one is

    go : (told : Event) → one.event ≡ told → Gives facts moment told →
        HasOneHolder (facts ++ one ∷ [])
    go (event.StageStarted started place) e next =
        one_more facts one quiet moment started place next
        (λ run stage. rw e (names_one started place run stage
        (same_key (Stage started place) (Stage run stage))
        (λ h. exact_key (Stage started place) (Stage run stage) h)))
        holds
    go (event.StageEnded run stage outcome rule) e ended =
        still_one facts one quiet
        (λ r s. rw e (no_start (same_key (Stage run stage) (Stage r s)))) holds
    go (event.JobEnded outcome reported stage job run rule outputs) e ended =
        still_one facts one quiet
        (λ r s. rw e refl) holds
    go (event.FilePut file) e none = absurd none
    go (event.FileRemoved key) e none = absurd none
    go (event.PipelineSet told) e none = absurd none
    go (event.ResourceSet told) e none = absurd none
    go (event.PrincipalSet told) e none = absurd none
    go (event.AgentSet told) e none = absurd none
    go (event.RunQueued told) e none = absurd none
    go (event.DecisionMade run stage approver approve) e none = absurd none
    go (event.JobTaken run stage job agent) e none = absurd none
    go (event.RunCanceled run) e none = absurd none
