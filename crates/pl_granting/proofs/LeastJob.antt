-- The least job that an agent may have.
use Rattle.std.proofs.Common.{◌≡◌, ◌<◌, ◌≤◌, ◌⊎◌, ℕ, Bool, true, false, List}
use Rattle.std.proofs.Common.{Option, Some, None, get_or, length, refl, sym, ap, ◌∙◌, subst}
use Rattle.std.proofs.Common.{arith, ⊎_elim}
use Rattle.std.specs.List.{Contains}
use Rattle.std.specs.Option.{option_map_or}
use Rattle.std.proofs.lemmas.Bool.{cases_lt, true≢false}
use Rattle.std.proofs.lemmas.List.{get_or_default}
use Rattle.std.proofs.lemmas.Option.{slice_get_within}
use Rattle.pl_facts.specs.declared.fact.Fact.{Fact}
use Rattle.pl_facts.specs.declared.fact.QueuedRun.{QueuedRun}
use Rattle.pl_journal.specs.Runs.{queueing, run_told}
use Rattle.pl_journal.specs.Settings.{by}
use Rattle.pl_plan.specs.declared.plan.PlanStage.{PlanStage}
use Rattle.pl_requests.specs.declared.settings.AgentSetting.{AgentSetting}
use Rattle.pl_due.specs.Nodes.{IsStageOf}
use Rattle.pl_due.specs.Scans.{IsFirstTrue}
use Rattle.pl_due.proofs.OneStage.{one_planned, one_told}
use Rattle.pl_granting.specs.Drawn.{Drawn, Least, Precedes}
use Rattle.pl_granting.specs.Named.{IsJobOf, JobOf, job_in}
use Rattle.pl_granting.specs.Rules.{held_job}
use Rattle.pl_granting.specs.Tests.{IsOpenTo, OfRun, OfStage, is_at_work, may_take, may_take_at}
use Rattle.pl_granting.proofs.Places.{is_in, its_stage, of_job_in, one_job}
use Rattle.pl_granting.proofs.Taking.{free_of, takes_of}

-- ---- there is one least job

trichotomy : (a b : JobOf) → (Precedes a b → ⊥) → (Precedes b a → ⊥) →
    (a.run ≡ b.run) × (a.stage ≡ b.stage) × (a.job ≡ b.job)
trichotomy a b left right = (grind arith, grind arith, grind arith)

pub one_drawn : (facts : List Fact) (agent : AgentSetting) (left right : Option JobOf) →
    Drawn facts agent left → Drawn facts agent right → left ≡ right
one_drawn facts agent None None l r = refl
one_drawn facts agent None (Some b) l r = absurd (l b r.0)
one_drawn facts agent (Some a) None l r = absurd (r a l.0)
one_drawn facts agent (Some a) (Some b) l r =
    let (run, stage, job) = trichotomy a b (r.1 a l.0) (l.1 b r.0) in
    ap (λ (j : JobOf). Some j) (one_job facts a b l.0.0 r.0.0 run stage job)

-- ---- the first job of a stage

module _ (facts : List Fact) (agent : AgentSetting) (run stage : ℕ) (queued : QueuedRun)
    (staged : PlanStage) (there : IsStageOf facts run stage queued staged) where
  abbrev test : ℕ → Bool
  test job = may_take_at facts agent run stage queued staged job

  -- a job of the stage is of the same run and stage
  same_stage : (at : JobOf) → IsJobOf facts at → at.run ≡ run → at.stage ≡ stage →
      (at.queued ≡ queued) × (at.staged ≡ staged)
  same_stage at is r s =
      let itself : IsStageOf facts run stage at.queued at.staged =
      subst (λ n. IsStageOf facts run n at.queued at.staged) s
      (subst (λ n. IsStageOf facts n at.stage at.queued at.staged) r (its_stage facts at is)) in (
        one_told facts run stage at.queued queued at.staged staged itself there,
        one_planned facts run stage at.queued queued at.staged staged itself there,
      )

  its_place : (at : JobOf) → IsJobOf facts at → at.run ≡ run → at.stage ≡ stage →
      job_in run stage queued staged at.job ≡ Some at
  its_place at is r s =
      let (q, p) = same_stage at is r s in
      sym (ap (λ n. job_in n at.stage at.queued at.staged at.job) r
      ∙ ap (λ n. job_in run n at.queued at.staged at.job) s
      ∙ ap (λ one. job_in run stage one at.staged at.job) q
      ∙ ap (λ one. job_in run stage queued one at.job) p)
      ∙ is_in facts at is

  works : (at : JobOf) → IsJobOf facts at → at.run ≡ run → at.stage ≡ stage →
      is_at_work facts at.run at.stage at.staged ≡ is_at_work facts run stage staged
  works at is r s =
      let (q, p) = same_stage at is r s in
      ap (λ n. is_at_work facts n at.stage at.staged) r
      ∙ ap (λ n. is_at_work facts run n at.staged) s
      ∙ ap (λ one. is_at_work facts run stage one) p

  tested : (at : JobOf) → OfStage facts agent run stage at → test at.job ≡ true
  tested at (((is, free), r), s) =
      ap (λ (o : Option JobOf). option_map_or (may_take facts agent) o false)
      (its_place at is r s) ∙ takes_of facts agent at free

  pub stage_none : IsFirstTrue test None → Least (OfStage facts agent run stage) None
  stage_none none = λ at is. true≢false (sym (tested at is) ∙ none at.job)

  pub stage_found : held_job facts agent.name ≡ None →
      is_at_work facts run stage staged ≡ true → (job : ℕ) → IsFirstTrue test (Some job) →
      Least (OfStage facts agent run stage) (job_in run stage queued staged job)
  stage_found idle at_work job first = go (job_in run stage queued staged job) refl
    where
      go : (o : Option JobOf) → job_in run stage queued staged job ≡ o →
          Least (OfStage facts agent run stage) o
      go None is = absurd (true≢false (sym first.0
          ∙ ap (λ (o : Option JobOf). option_map_or (may_take facts agent) o false) is))
      go (Some at) is =
          let found = of_job_in facts run stage job at queued staged there is in
          let takes : may_take facts agent at ≡ true =
          sym (ap (λ (o : Option JobOf). option_map_or (may_take facts agent) o false) is)
          ∙ first.0 in
          let free = free_of facts agent at idle
          (works at found.there found.of_run found.of_stage ∙ at_work) takes in (
            (((found.there, free), found.of_run), found.of_stage),
            λ other of_it before.
                let less = earlier other at of_it.0.1 of_it.1 found.of_run found.of_stage
                found.of_job before in
                true≢false (sym (tested other of_it) ∙ first.1 other.job less),
          )
        where
          earlier : (one at : JobOf) → one.run ≡ run → one.stage ≡ stage → at.run ≡ run →
              at.stage ≡ stage → at.job ≡ job → Precedes one at → one.job < job
          earlier one at a b c d e before = grind (arith, a, b, c, d, e, before)

-- ---- the first job of a run, stage after stage

pub one_queued : (facts : List Fact) (run : ℕ) (queued : QueuedRun) →
    by run_told (queueing run facts) ≡ Some queued → (at : JobOf) → IsJobOf facts at →
    at.run ≡ run → at.queued ≡ queued
one_queued facts run queued told at there same =
    let e : Some at.queued ≡ Some queued = sym there.queued
    ∙ ap (λ r. by run_told (queueing r facts)) same ∙ told in cc

module _ (facts : List Fact) (agent : AgentSetting) (run : ℕ) where
  abbrev pub NoneBelow : ℕ → Type 0
  NoneBelow n = (at : JobOf) → OfRun facts agent run at → at.stage < n → ⊥

  pub run_none : (queued : QueuedRun) (count : ℕ) → NoneBelow count →
      ((at : JobOf) → IsJobOf facts at → at.run ≡ run → at.queued ≡ queued) →
      length queued.compiled.plan.stages ≤ count → Least (OfRun facts agent run) None
  run_none queued count none one within = λ at is.
      let here = slice_get_within at.queued.compiled.plan.stages at.stage at.staged
      is.0.0.staged in
      let same : length at.queued.compiled.plan.stages ≡ length queued.compiled.plan.stages =
      ap (λ (q : QueuedRun). length q.compiled.plan.stages) (one at is.0.0 is.1) in
      none at is (omega (arith, here, same, within))

-- ---- the first job of all, run after run

module _ (facts : List Fact) (agent : AgentSetting) (runs : List ℕ) where
  abbrev pub NoneBefore : ℕ → Type 0
  NoneBefore n = (at : JobOf) → IsOpenTo facts agent at → (k : ℕ) → k < n →
      get_or runs k 0 ≡ at.run → ⊥

  pub all_found : ((i j : ℕ) → i < j → j < length runs → get_or runs i 0 < get_or runs j 0) →
      ((at : JobOf) → IsOpenTo facts agent at → Contains runs at.run) → (n : ℕ) →
      n < length runs → NoneBefore n → (found : Option JobOf) (at : JobOf) → found ≡ Some at →
      Least (OfRun facts agent (get_or runs n 0)) found → Least (IsOpenTo facts agent) found
  all_found ascend among n within none None at told least = absurd (cc)
  all_found ascend among n within none (Some one) at told least = (
    least.0.0,
    λ other is before.
        let (k, below, at_k) = among other is in
        let here : get_or runs k 0 ≡ other.run = zero_at k other below at_k in
        ⊎_elim (λ early. none other is k early here)
        (λ above. ⊎_elim
        (λ same. least.1 other (is, sym here ∙ ap (λ m. get_or runs m 0) (sym same)) before)
        (λ later. let less = ascend n k later below in
        after other one (get_or runs n 0) (get_or runs k 0) here least.0.1 less before)
        (equal_or n k above))
        (cases_lt k n),
  )
    where
      zero_at : (k : ℕ) (other : JobOf) → k < length runs → get_or runs k other.run ≡ other.run →
          get_or runs k 0 ≡ other.run
      zero_at k other below is = get_or_default runs k 0 other.run below ∙ is

      equal_or : (n k : ℕ) → n ≤ k → (n ≡ k) ⊎ (n < k)
      equal_or n k above = grind (arith, above)

      after : (other one : JobOf) (x y : ℕ) → y ≡ other.run → one.run ≡ x → x < y →
          Precedes other one → ⊥
      after other one x y a b less before = grind (arith, a, b, less, before)

  pub all_none : ((at : JobOf) → IsOpenTo facts agent at → Contains runs at.run) → (n : ℕ) →
      length runs ≤ n → NoneBefore n → Least (IsOpenTo facts agent) None
  all_none among n past none = λ at is.
      let (k, below, at_k) = among at is in
      none at is k (omega (arith, below, past)) (get_or_default runs k 0 at.run below ∙ at_k)
