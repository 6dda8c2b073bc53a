-- What is due of each kind.
use Rattle.std.proofs.Common.{◌≡◌, ◌&&◌, ℕ, Bool, true, false, List, Option, Some, None}
use Rattle.std.proofs.Common.{is_some, is_none, refl, sym, ap, ◌∙◌, subst, inl, inr}
use Rattle.std.specs.List.{Contains}
use Rattle.std.specs.Option.{option_map_or, option_or}
use Rattle.std.specs.Prelude.{if◌then◌else◌, slice_get}
use Rattle.pl_facts.specs.declared.fact.Event.{Event}
use Rattle.pl_facts.specs.declared.fact.Fact.{Fact}
use Rattle.pl_facts.specs.declared.fact.QueuedRun.{QueuedRun}
use Rattle.pl_due.specs.Below.pl_journal.specs.Runs.{holding, job_end, job_ending, skipping, stage_end}
use Rattle.pl_due.specs.Below.pl_journal.specs.Runs.{taking}
use Rattle.pl_locks.specs.Locks.{IsNext, Locks, Shares}
use Rattle.pl_locks.specs.declared.contender.Contender.{Contender}
use Rattle.pl_facts.specs.Below.pl_plan.specs.declared.plan.PlanJob.{PlanJob}
use Rattle.pl_facts.specs.Below.pl_plan.specs.declared.plan.PlanStage.{PlanStage}
use Rattle.pl_due.specs.Below.pl_views.specs.Ready.{job_is_ready}
use Rattle.pl_due.specs.Checked.{exclusive_uses}
use Rattle.pl_due.specs.Contention.{Holds, IsContention, IsEligible, IsOne}
use Rattle.pl_due.specs.Due.{Among, IsDue, Next, Superseded}
use Rattle.pl_due.specs.Kinds.{Fails, IsDone, IsPassedOver, JobIsPassedOver, TimesOut}
use Rattle.pl_due.specs.Least.{IsLeastOf}
use Rattle.pl_due.specs.Nodes.{IsStageOf, awaits_agent, has_had, is_out_of_time, is_running}
use Rattle.pl_due.proofs.Members.{any_of, of_member}
use Rattle.pl_due.proofs.OneStage.{one_planned}
use Rattle.pl_due.proofs.Standing.{first_of_two, is_nothing, running_open, second_of_two}
use Rattle.pl_due.proofs.Standing.{waiting_open}
use Rattle.pl_settling.specs.Gives.{Gives}
use Rattle.pl_settling.specs.Laws.{WasNext}

-- ---- jobs that haven't ended

or_none : {X : Type 0} (a b : Option X) → option_or a b ≡ None → a ≡ None
or_none None b h = refl
or_none (Some x) b h = h

unended : (run stage job : ℕ) (facts : List Fact) → job_ending run stage job facts ≡ None →
    job_end run stage job facts ≡ None
unended run stage job facts h =
    or_none (job_end run stage job facts) (skipping run stage facts) h

pub map_or_true : {X : Type 0} (f : X → Bool) (o : Option X) → option_map_or f o false ≡ true →
    (x : X) × (o ≡ Some x) × (f x ≡ true)
map_or_true f None h = absurd (cc)
map_or_true f (Some x) h = (x, refl, h)

else_some : {X Y : Type 0} (o : Option X) (t : Option Y) (y : Y) →
    (if is_some o then None else t) ≡ Some y → o ≡ None
else_some None t y h = refl
else_some (Some x) t y h = absurd (cc)

out_of_time_open : (moment : ℕ) (one : PlanStage) (run stage job : ℕ) (facts : List Fact) →
    is_out_of_time moment one run stage job facts ≡ true → job_end run stage job facts ≡ None
out_of_time_open moment one run stage job facts over =
    let (planned, there, held) = map_or_true
    (λ (p : PlanJob). option_map_or (λ fact. has_had p.timeout fact.moment moment)
    (holding run stage job facts) false) (slice_get one.jobs job) over in
    let (fact, is, had) = map_or_true (λ (f : Fact). has_had planned.timeout f.moment moment)
    (holding run stage job facts) held in
    unended run stage job facts
    (else_some (job_ending run stage job facts) (taking run stage job facts) fact is)

awaiting_open : (one : PlanStage) (run stage job : ℕ) (facts : List Fact) →
    awaits_agent one run stage job facts ≡ true → job_end run stage job facts ≡ None
awaiting_open one run stage job facts awaits =
    let (planned, there, holds) = map_or_true
    (λ (p : PlanJob). is_none (taking run stage job facts)
    && is_none (job_ending run stage job facts) && job_is_ready p run stage facts)
    (slice_get one.jobs job) awaits in
    unended run stage job facts (is_nothing (job_ending run stage job facts)
    (second_of_two (is_none (taking run stage job facts))
    (is_none (job_ending run stage job facts))
    (first_of_two
    (is_none (taking run stage job facts) && is_none (job_ending run stage job facts))
    (job_is_ready planned run stage facts) holds)))

-- ---- among contenders

module _ (facts : List Fact) (moment : ℕ) (locks : Locks)
    (contention : IsContention facts moment locks) where
  pub eligible_one : (stage : Contender) → Contains locks.eligible stage →
      IsOne facts (IsEligible facts moment) stage
  eligible_one stage is = of_member (IsOne facts (IsEligible facts moment)) locks.eligible stage
      contention.eligible.only is

  pub eligible_open : (stage : Contender) → Contains locks.eligible stage →
      stage_end stage.run stage.position facts ≡ None
  eligible_open stage is =
      let one = eligible_one stage is in
      waiting_open one.one stage.run stage.position facts one.holds.waits

  -- a running stage is one of the holders, with what it uses
  pub among_holders : (told : QueuedRun) (one : PlanStage) (run stage : ℕ) →
      IsStageOf facts run stage told one → is_running run stage facts ≡ true →
      (holder : Contender) × Contains locks.holders holder
      × (holder.resources ≡ exclusive_uses facts one)
  among_holders told one run stage there runs =
      let (k, holder, below, is, at) = contention.holders.all told one run stage there runs in
      let is_one = of_member (IsOne facts (Holds facts)) locks.holders holder
      contention.holders.only (k, below, is) in
      let here : IsStageOf facts run stage is_one.told is_one.one =
      subst (λ s. IsStageOf facts run s is_one.told is_one.one) at.1
      (subst (λ r. IsStageOf facts r holder.position is_one.told is_one.one) at.0 is_one.there) in
      let same = one_planned facts run stage is_one.told told is_one.one one here there in (
        holder,
        (k, below, is),
        ap (λ (c : Contender). c.resources) is_one.is
            ∙ ap (λ (o : PlanStage). exclusive_uses facts o) same,
      )

  -- the next stage waits for nothing more
  pub was_next : (stage : Contender) → IsNext locks.eligible locks.holders stage →
      WasNext facts moment stage.run stage.position
  was_next stage next =
      let one = eligible_one stage next.is_eligible in
      record {
        told = one.told;
        one = one.one;
        there = one.there;
        eligible = one.holds;
        free = λ key in_it r s (told, other, is, runs, in_other).
            let (holder, in_holders, uses) = among_holders told other r s is runs in
            next.may_start.unheld (any_of (Shares stage) locks.holders holder in_holders
            (any_of (Contains holder.resources) stage.resources key
            (subst (λ keys. Contains keys key)
            (sym (ap (λ (c : Contender). c.resources) one.is)) in_it)
            (subst (λ keys. Contains keys key) (sym uses) in_other)));
        locks = locks;
        contention = contention;
        contender = stage;
        next = next;
        at = (refl, refl);
      }

-- ---- all kinds

module _ (facts : List Fact) (moment : ℕ) (event : Event) where
  by_timeout : IsLeastOf facts (TimesOut facts moment) event → Gives facts moment event
  by_timeout least =
      let (told, one, there, is) = least.is in
      subst (Gives facts moment) (sym is.gets)
      (out_of_time_open moment one least.run least.stage least.job facts is.over)

  by_false_job : IsLeastOf facts (JobIsPassedOver facts) event → Gives facts moment event
  by_false_job least =
      let (told, one, there, is) = least.is in
      subst (Gives facts moment) (sym is.gets)
      (awaiting_open one least.run least.stage least.job facts is.awaits)

  by_done : IsLeastOf facts (IsDone facts) event → Gives facts moment event
  by_done least =
      let (told, one, there, is) = least.is in
      subst (Gives facts moment) (sym is.gets) (running_open least.run least.stage facts is.runs)

  by_false : IsLeastOf facts (IsPassedOver facts) event → Gives facts moment event
  by_false least =
      let (told, one, there, is) = least.is in
      subst (Gives facts moment) (sym is.gets)
      (waiting_open one least.run least.stage facts is.waits)

  by_fail : IsLeastOf facts (Fails facts moment) event → Gives facts moment event
  by_fail least =
      let (told, one, there, is) = least.is in
      subst (Gives facts moment) (sym is.gets)
      (waiting_open one least.run least.stage facts is.waits)

  by_superseded : Among facts moment Superseded (Some event) → Gives facts moment event
  by_superseded (locks, contention, is) =
      subst (Gives facts moment) (sym is.gets)
      (eligible_open facts moment locks contention is.stage is.is.is_eligible)

  by_next : Among facts moment Next (Some event) → Gives facts moment event
  by_next (locks, contention, is) =
      subst (Gives facts moment) (sym is.gets)
      (was_next facts moment locks contention is.stage is.is)

same_event : (facts : List Fact) (moment : ℕ) (a b : Event) → Some a ≡ Some b →
    Gives facts moment b → Gives facts moment a
same_event facts moment a b is gives =
    let e : a ≡ b = cc in subst (Gives facts moment) (sym e) gives

pub gives : (facts : List Fact) (moment : ℕ) (event : Event) → IsDue facts moment (Some event) →
    Gives facts moment event
gives f m e (inl (x, is, k)) = same_event f m e x is (by_timeout f m x k)
gives f m e (inr (n1, inl (x, is, k))) = same_event f m e x is (by_false_job f m x k)
gives f m e (inr (n1, inr (n2, inl (x, is, k)))) = same_event f m e x is (by_done f m x k)
gives f m e (inr (n1, inr (n2, inr (n3, inl (x, is, k))))) =
    same_event f m e x is (by_false f m x k)
gives f m e (inr (n1, inr (n2, inr (n3, inr (n4, inl (x, is, k)))))) =
    same_event f m e x is (by_fail f m x k)
gives f m e (inr (n1, inr (n2, inr (n3, inr (n4, inr (n5, inl (x, is, k))))))) =
    same_event f m e x is (by_superseded f m x k)
gives f m e (inr (n1, inr (n2, inr (n3, inr (n4, inr (n5, inr (n6, inl (x, is, k)))))))) =
    same_event f m e x is (by_next f m x k)
gives f m e (inr (n1, inr (n2, inr (n3, inr (n4, inr (n5, inr (n6, inr (n7, none)))))))) =
    absurd (cc)
