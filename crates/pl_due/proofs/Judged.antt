-- What is due in one stage, kind after kind.
use Rattle.std.proofs.Common.{◌≡◌, ◌<◌, ◌≤◌, ◌&&◌, ◌↔◌, ℕ, Bool, true, false, not, List}
use Rattle.std.proofs.Common.{length, Option, Some, None, is_none, refl, sym, ap, ◌∙◌}
use Rattle.std.proofs.Common.{subst, arith}
use Rattle.std.specs.Option.{option_map_or}
use Rattle.std.specs.Prelude.{IsTrue}
use Rattle.std.proofs.lemmas.Bool.{false≢true}
use Rattle.std.proofs.lemmas.Option.{slice_get_past}
use Rattle.pl_checks.specs.declared.view.Verdict.{Verdict}
use Rattle.pl_facts.specs.declared.fact.Event.{Event}
use Rattle.pl_facts.specs.declared.fact.Event.TheVariants.{StageEnded}
use Rattle.pl_facts.specs.declared.fact.Fact.{Fact}
use Rattle.pl_facts.specs.declared.fact.QueuedRun.{QueuedRun}
use Rattle.pl_journal.specs.Runs.{holding, job_ending, taking}
use Rattle.pl_judgement.specs.Said.{IsJudgement, Sums, all_pass, first_fail}
use Rattle.pl_judgement.specs.declared.judgement.Judgement.{Judgement}
use Rattle.pl_plan.specs.declared.plan.PlanJob.{PlanJob}
use Rattle.pl_plan.specs.declared.plan.PlanStage.{PlanStage}
use Rattle.pl_results.specs.Combining.{combined}
use Rattle.pl_results.specs.declared.members.PlanNode.TheVariants.{Stage, Job}
use Rattle.pl_rules.specs.declared.rule.Rule.{Rule}
use Rattle.pl_views.specs.CheckViews.{check_view}
use Rattle.pl_views.specs.Ready.{job_is_ready}
use Rattle.pl_due.specs.Checked.{AreVerdictsOf, all_checks, is_permitted}
use Rattle.pl_due.specs.Contention.{IsEligible}
use Rattle.pl_due.specs.Kinds.{Fails, IsDone, IsPassedOver, JobIsPassedOver, TimesOut, fail_end}
use Rattle.pl_due.specs.Kinds.{false_job_end, false_stage_end, timeout_end}
use Rattle.pl_due.specs.Nodes.{awaits_agent, condition, has_done_all, has_had, is_canceled}
use Rattle.pl_due.specs.Nodes.{is_out_of_time, is_running, is_waiting, outcomes}
use Rattle.pl_due.specs.Scans.{FirstJob, IsFirstTrue}

pub clash : (b : Bool) → b ≡ false → b ≡ true → ⊥
clash b lacks holds = false≢true (sym lacks ∙ holds)

-- ---- jobs behind the last one

module _ (one : PlanStage) (run stage : ℕ) (facts : List Fact) where
  pub none_over : (moment at : ℕ) → length one.jobs ≤ at →
      is_out_of_time moment one run stage at facts ≡ false
  none_over moment at behind =
      ap (λ (o : Option PlanJob). option_map_or
      (λ planned. option_map_or (λ fact. has_had planned.timeout fact.moment moment)
      (holding run stage at facts) false) o false) (slice_get_past one.jobs at behind)

  pub none_awaits : (at : ℕ) → length one.jobs ≤ at → awaits_agent one run stage at facts ≡ false
  none_awaits at behind =
      ap (λ (o : Option PlanJob). option_map_or
      (λ planned. is_none (taking run stage at facts)
      && is_none (job_ending run stage at facts) && job_is_ready planned run stage facts) o false)
      (slice_get_past one.jobs at behind)

pub not_passed : (b c : Bool) → b ≡ false → (b && not c) ≡ false
not_passed b c is = ap (λ x. x && not c) is

-- who passes both tests passes each
pub awaits_first : (b c : Bool) → (b && not c) ≡ true → b ≡ true
awaits_first true c h = refl
awaits_first false c h = h

pub says_false : (b c : Bool) → (b && not c) ≡ true → c ≡ false
says_false true true h = sym h
says_false true false h = refl
says_false false c h = absurd (false≢true h)

pub passed_by : (b c : Bool) → b ≡ true → c ≡ false → (b && not c) ≡ true
passed_by b c x y = ap (λ t. t && not c) x ∙ ap not y

and_true : (b : Bool) → (b && true) ≡ b
and_true true = refl
and_true false = refl

and_false : (b : Bool) → (b && false) ≡ false
and_false true = refl
and_false false = refl

-- ---- kinds

module _ (facts : List Fact) (moment : ℕ) (told : QueuedRun) (one : PlanStage) (run stage : ℕ)
  where
    pub timed_some : (job : ℕ) (event : Event) → is_running run stage facts ≡ true →
        IsFirstTrue (λ j. is_out_of_time moment one run stage j facts) (Some job) →
        event ≡ timeout_end run stage job →
        FirstJob (TimesOut facts moment told one run stage) (Some event)
    timed_some job event runs (over, none) gets = (
      job,
      record { runs = runs; over = over; gets = gets },
      λ j other k less. clash (is_out_of_time moment one run stage j facts) (none j less) k.over,
    )

    pub timed_none : IsFirstTrue (λ j. is_out_of_time moment one run stage j facts) None →
        FirstJob (TimesOut facts moment told one run stage) None
    timed_none none = λ job event k.
        clash (is_out_of_time moment one run stage job facts) (none job) k.over

    pub timed_idle : is_running run stage facts ≡ false →
        FirstJob (TimesOut facts moment told one run stage) None
    timed_idle lacks = λ job event k. clash (is_running run stage facts) lacks k.runs

    -- ----

    pub false_some : (job : ℕ) (event : Event) → is_running run stage facts ≡ true →
        IsFirstTrue (λ j. awaits_agent one run stage j facts
        && not (condition told run (Job stage j) facts)) (Some job) →
        event ≡ false_job_end (is_canceled run facts) run stage job →
        FirstJob (JobIsPassedOver facts told one run stage) (Some event)
    false_some job event runs (passes, none) gets = (
      job,
      record {
        runs = runs;
        awaits = awaits_first (awaits_agent one run stage job facts)
            (condition told run (Job stage job) facts) passes;
        says = says_false (awaits_agent one run stage job facts)
            (condition told run (Job stage job) facts) passes;
        gets = gets;
      },
      λ j other k less. clash
          (awaits_agent one run stage j facts && not (condition told run (Job stage j) facts))
          (none j less)
          (passed_by (awaits_agent one run stage j facts) (condition told run (Job stage j) facts)
          k.awaits k.says),
    )

    pub false_none : IsFirstTrue (λ j. awaits_agent one run stage j facts
        && not (condition told run (Job stage j) facts)) None →
        FirstJob (JobIsPassedOver facts told one run stage) None
    false_none none = λ job event k. clash
        (awaits_agent one run stage job facts && not (condition told run (Job stage job) facts))
        (none job)
        (passed_by (awaits_agent one run stage job facts) (condition told run (Job stage job) facts)
        k.awaits k.says)

    pub false_idle : is_running run stage facts ≡ false →
        FirstJob (JobIsPassedOver facts told one run stage) None
    false_idle lacks = λ job event k. clash (is_running run stage facts) lacks k.runs

    -- ----

    no_job : (j : ℕ) → j < 0 → ⊥
    no_job j less = absurd (omega arith)

    pub done_some : (event : Event) → is_running run stage facts ≡ true →
        has_done_all one run stage facts ≡ true →
        event ≡ StageEnded run stage (combined (outcomes one run stage facts)) None →
        FirstJob (IsDone facts told one run stage) (Some event)
    done_some event runs all gets = (
      0,
      record { itself = refl; runs = runs; all = all; gets = gets },
      λ j other k less. no_job j less,
    )

    pub done_idle : is_running run stage facts ≡ false →
        FirstJob (IsDone facts told one run stage) None
    done_idle lacks = λ job event k. clash (is_running run stage facts) lacks k.runs

    pub not_done : has_done_all one run stage facts ≡ false →
        FirstJob (IsDone facts told one run stage) None
    not_done lacks = λ job event k. clash (has_done_all one run stage facts) lacks k.all

    -- ----

    pub passed_some : (event : Event) → is_waiting one run stage facts ≡ true →
        condition told run (Stage stage) facts ≡ false →
        event ≡ false_stage_end (is_canceled run facts) run stage →
        FirstJob (IsPassedOver facts told one run stage) (Some event)
    passed_some event waits says gets = (
      0,
      record { itself = refl; waits = waits; says = says; gets = gets },
      λ j other k less. no_job j less,
    )

    pub passed_idle : is_waiting one run stage facts ≡ false →
        FirstJob (IsPassedOver facts told one run stage) None
    passed_idle lacks = λ job event k. clash (is_waiting one run stage facts) lacks k.waits

    pub not_false : condition told run (Stage stage) facts ≡ true →
        FirstJob (IsPassedOver facts told one run stage) None
    not_false holds = λ job event k. clash (condition told run (Stage stage) facts) k.says holds

    -- ----

    abbrev Judged : Judgement → Type 0
    Judged judgement = IsJudgement (all_checks facts one.uses)
        (check_view told one run stage facts) moment judgement

    module _ (law : (left right : List Verdict) →
        AreVerdictsOf facts moment told one run stage left →
        AreVerdictsOf facts moment told one run stage right → left ≡ right) (judgement : Judgement)
        (judged : Judged judgement) where
      pub fails_some : (rule : Rule) (event : Event) → is_waiting one run stage facts ≡ true →
          judgement.fail ≡ Some rule → event ≡ fail_end run stage rule →
          FirstJob (Fails facts moment told one run stage) (Some event)
      fails_some rule event waits is gets =
          let (verdicts, are, sums) = judged in (
            0,
            record {
              itself = refl;
              waits = waits;
              verdicts = verdicts;
              are = are;
              rule = rule;
              first = sym sums.fail ∙ is;
              gets = gets;
            },
            λ j other k less. no_job j less,
          )

      pub fails_none : judgement.fail ≡ None →
          FirstJob (Fails facts moment told one run stage) None
      fails_none is = λ job event k.
          let (verdicts, are, sums) = judged in
          let same = law verdicts k.verdicts are k.are in
          let e : None ≡ Some k.rule = sym is ∙ sums.fail ∙ ap first_fail same ∙ k.first in
          absurd (cc)

      sums_of : (verdicts : List Verdict) →
          AreVerdictsOf facts moment told one run stage verdicts → Sums verdicts judgement
      sums_of verdicts are =
          let (others, too, sums) = judged in
          subst (λ x. Sums x judgement) (law others verdicts too are) sums

      pub eligible_if : (passes : Bool) →
          ((verdicts : List Verdict) → Sums verdicts judgement → passes ≡ all_pass verdicts) →
          is_waiting one run stage facts ≡ true →
          is_permitted facts told one ≡ true → condition told run (Stage stage) facts ≡ true →
          IsTrue passes ↔ IsEligible facts moment told one run stage
      eligible_if passes tells waits permitted says =
          let (verdicts, are, sums) = judged in (
            λ holds. record {
              waits = waits;
              says = says;
              permitted = permitted;
              verdicts = verdicts;
              are = are;
              pass = sym (tells verdicts sums) ∙ holds;
            },
            λ is. tells is.verdicts (sums_of is.verdicts is.are) ∙ is.pass,
          )

      -- with what its pipeline may use
      pub eligible_both : (passes : Bool) →
          ((verdicts : List Verdict) → Sums verdicts judgement → passes ≡ all_pass verdicts) →
          is_waiting one run stage facts ≡ true → condition told run (Stage stage) facts ≡ true →
          IsTrue (passes && is_permitted facts told one)
          ↔ IsEligible facts moment told one run stage
      eligible_both passes tells waits says = go (is_permitted facts told one) refl
        where
          go : (b : Bool) → is_permitted facts told one ≡ b →
              IsTrue (passes && is_permitted facts told one)
              ↔ IsEligible facts moment told one run stage
          go true permitted =
              subst (λ p. IsTrue p ↔ IsEligible facts moment told one run stage)
              (sym (ap (λ p. passes && p) permitted ∙ and_true passes))
              (eligible_if passes tells waits permitted says)
          go false lacks =
              subst (λ p. IsTrue p ↔ IsEligible facts moment told one run stage)
              (sym (ap (λ p. passes && p) lacks ∙ and_false passes)) (
                λ holds. absurd (false≢true holds),
                λ is. absurd (clash (is_permitted facts told one) lacks is.permitted),
              )

    pub fails_idle : is_waiting one run stage facts ≡ false →
        FirstJob (Fails facts moment told one run stage) None
    fails_idle lacks = λ job event k. clash (is_waiting one run stage facts) lacks k.waits

    -- ----

    pub not_eligible : is_waiting one run stage facts ≡ false →
        IsTrue false ↔ IsEligible facts moment told one run stage
    not_eligible lacks = (
      λ holds. absurd (false≢true holds),
      λ is. absurd (clash (is_waiting one run stage facts) lacks is.waits),
    )

    pub not_permitted : is_permitted facts told one ≡ false →
        IsTrue false ↔ IsEligible facts moment told one run stage
    not_permitted lacks = (
      λ holds. absurd (false≢true holds),
      λ is. absurd (clash (is_permitted facts told one) lacks is.permitted),
    )

    pub not_held : condition told run (Stage stage) facts ≡ false →
        IsTrue false ↔ IsEligible facts moment told one run stage
    not_held lacks = (
      λ holds. absurd (false≢true holds),
      λ is. absurd (clash (condition told run (Stage stage) facts) lacks is.says),
    )
