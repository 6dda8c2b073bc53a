-- A job gets at most one fact, a stage at most two.
use Rattle.std.proofs.Common.{◌≡◌, ◌≤◌, ◌+◌, ◌&&◌, ℕ, Bool, true, false, cond, List, [], ◌∷◌}
use Rattle.std.proofs.Common.{◌++◌, Option, Some, None, refl, sym, ap, ◌∙◌, subst, arith}
use Rattle.std.specs.List.{count_by}
use Rattle.std.proofs.lemmas.List.Sums.{sum_by-cons}
use Rattle.pl_facts.specs.declared.fact.Event.{Event}
use Rattle.pl_facts.specs.declared.fact.Event.TheVariants as event
use Rattle.pl_facts.specs.declared.fact.Fact.{Fact}
use Rattle.pl_due.specs.Below.pl_journal.specs.About.{key_of, is_about}
use Rattle.pl_due.specs.Below.pl_journal.specs.Kinds.{is_job_end, is_stage_end, is_start}
use Rattle.pl_due.specs.Below.pl_journal.specs.Runs.{job_end, stage_end, stage_start}
use Rattle.pl_log.specs.Keys.{Job, Named, Stage, same_key}
use Rattle.pl_log.proofs.Naming.{exact_key}
use Rattle.pl_due.proofs.Standing.{waiting_open, waiting_unstarted}
use Rattle.pl_settling.specs.Gives.{Gives}
use Rattle.pl_settling.specs.Laws.{IsOnce}
use Rattle.pl_settling.specs.Settles.{Adds}
use Rattle.pl_settling.proofs.Behind.{touched, untouched}
use Rattle.pl_settling.proofs.Giving.{gives}

-- ---- each fact that counts uses up one of so many

module _ (p : Fact → Bool) (used : List Fact → ℕ) (most moment : ℕ)
    (step : (facts : List Fact) (one : Fact) → Gives facts moment one.event →
    cond (p one) 1 0 + used facts ≤ used (facts ++ one ∷ []))
    (bound : (facts : List Fact) → used facts ≤ most) where
  counted : (facts added : List Fact) → Adds moment facts added →
      count_by p added + used facts ≤ most
  counted facts [] adds = let b = bound facts in omega (arith, b)
  counted facts (one ∷ added) (due, at, rest) =
      let c = sum_by-cons (λ x. cond (p x) 1 0) one added in
      let s = step facts one (gives facts moment one.event due) in
      let i = counted (facts ++ one ∷ []) added rest in
      omega (arith, c, s, i)

  pub at_most : (facts added : List Fact) → Adds moment facts added → count_by p added ≤ most
  at_most facts added adds = let c = counted facts added adds in omega (arith, c)

false_and : (a b : Bool) → a ≡ false → (a && b) ≡ false
false_and a b is = ap (λ x. x && b) is

true_and : (a b : Bool) → a ≡ true → b ≡ true → (a && b) ≡ true
true_and a b l r = ap (λ x. x && b) l ∙ r

-- a fact by its event is about what its event is about
named : (one : Fact) (told : Event) (key : Named) → one.event ≡ told → is_about key one ≡ true →
    same_key (key_of told) key ≡ true
named one told key e about = ap (λ t. same_key (key_of t) key) (sym e) ∙ about

-- ---- jobs

abbrev one_if : Option Fact → ℕ
one_if None = 0
one_if (Some x) = 1

at_most_one : (o : Option Fact) → one_if o ≤ 1
at_most_one None = omega arith
at_most_one (Some x) = omega arith

module _ (run stage job moment : ℕ) where
  abbrev used_by_job : List Fact → ℕ
  used_by_job facts = one_if (job_end run stage job facts)

  abbrev ends_job : Fact → Bool
  ends_job fact = is_about (Job run stage job) fact && is_job_end fact.event

  job_step : (facts : List Fact) (one : Fact) → Gives facts moment one.event →
      cond (is_about (Job run stage job) one) 1 0 + used_by_job facts
      ≤ used_by_job (facts ++ one ∷ [])
  job_step facts one due = go (is_about (Job run stage job) one) refl
    where
      by_event : (told : Event) → one.event ≡ told → Gives facts moment told →
          same_key (key_of told) (Job run stage job) ≡ true →
          (job_end run stage job facts ≡ None) × (is_job_end told ≡ true)
      by_event (event.StageStarted r s) e is same = absurd (cc)
      by_event (event.StageEnded r s outcome rule) e is same = absurd (cc)
      by_event (event.JobEnded outcome reported s j r rule outputs) e is same =
          let key : Job r s j ≡ Job run stage job =
          exact_key (Job r s j) (Job run stage job) same in
          let a : r ≡ run = cc in
          let b : s ≡ stage = cc in
          let c : j ≡ job = cc in (
            subst (λ x. job_end run stage x facts ≡ None) c
                (subst (λ x. job_end run x j facts ≡ None) b
                (subst (λ x. job_end x s j facts ≡ None) a is)),
            refl,
          )
      by_event (event.FilePut file) e is same = absurd is
      by_event (event.FileRemoved key) e is same = absurd is
      by_event (event.PipelineSet told) e is same = absurd is
      by_event (event.ResourceSet told) e is same = absurd is
      by_event (event.PrincipalSet told) e is same = absurd is
      by_event (event.AgentSet told) e is same = absurd is
      by_event (event.RunQueued told) e is same = absurd is
      by_event (event.DecisionMade r s approver approve) e is same = absurd is
      by_event (event.JobTaken r s j agent) e is same = absurd is
      by_event (event.RunCanceled r) e is same = absurd is

      go : (b : Bool) → is_about (Job run stage job) one ≡ b →
          cond b 1 0 + used_by_job facts ≤ used_by_job (facts ++ one ∷ [])
      go true about =
          let (unended, ends) = by_event one.event refl due
          (named one one.event (Job run stage job) refl about) in
          let now = touched ends_job facts one
          (true_and (is_about (Job run stage job) one) (is_job_end one.event) about ends) in
          let before : used_by_job facts ≡ 0 = ap one_if unended in
          let after : used_by_job (facts ++ one ∷ []) ≡ 1 = ap one_if now in
          omega (arith, before, after)
      go false about =
          let same = untouched ends_job facts one
          (false_and (is_about (Job run stage job) one) (is_job_end one.event) about) in
          let e : used_by_job (facts ++ one ∷ []) ≡ used_by_job facts = ap one_if same in
          omega (arith, e)

  job_once : (facts added : List Fact) → Adds moment facts added →
      count_by (is_about (Job run stage job)) added ≤ 1
  job_once facts added adds = at_most (is_about (Job run stage job)) used_by_job 1 moment job_step
      (λ before. at_most_one (job_end run stage job before)) facts added adds

-- ---- stages

abbrev used_of : Option Fact → Option Fact → ℕ
used_of start (Some x) = 2
used_of None None = 0
used_of (Some x) None = 1

at_most_two : (start end : Option Fact) → used_of start end ≤ 2
at_most_two start (Some x) = omega arith
at_most_two None None = omega arith
at_most_two (Some x) None = omega arith

open_used : (start : Option Fact) → used_of start None ≤ 1
open_used None = omega arith
open_used (Some x) = omega arith

module _ (run stage moment : ℕ) where
  abbrev used_by_stage : List Fact → ℕ
  used_by_stage facts = used_of (stage_start run stage facts) (stage_end run stage facts)

  abbrev starts_it : Fact → Bool
  starts_it fact = is_about (Stage run stage) fact && is_start fact.event

  abbrev ends_it : Fact → Bool
  ends_it fact = is_about (Stage run stage) fact && is_stage_end fact.event

  record IsStart (facts : List Fact) (told : Event) : Type 0 where
    pub unstarted : stage_start run stage facts ≡ None
    pub open_before : stage_end run stage facts ≡ None
    pub starts : is_start told ≡ true
    pub no_end : is_stage_end told ≡ false

  record IsEnd (facts : List Fact) (told : Event) : Type 0 where
    pub open_before : stage_end run stage facts ≡ None
    pub ends : is_stage_end told ≡ true

  stage_step : (facts : List Fact) (one : Fact) → Gives facts moment one.event →
      cond (is_about (Stage run stage) one) 1 0 + used_by_stage facts
      ≤ used_by_stage (facts ++ one ∷ [])
  stage_step facts one due = go (is_about (Stage run stage) one) refl
    where
      started : (told : Event) → IsStart facts told → one.event ≡ told →
          is_about (Stage run stage) one ≡ true →
          1 + used_by_stage facts ≤ used_by_stage (facts ++ one ∷ [])
      started told is e about =
          let now = touched starts_it facts one (true_and (is_about (Stage run stage) one)
          (is_start one.event) about (ap is_start e ∙ is.starts)) in
          let lacks : ends_it one ≡ false =
          ap (λ b. b && is_stage_end one.event) about ∙ ap is_stage_end e ∙ is.no_end in
          let end = untouched ends_it facts one lacks ∙ is.open_before in
          let before : used_by_stage facts ≡ 0 =
          ap (λ o. used_of o (stage_end run stage facts)) is.unstarted
          ∙ ap (used_of None) is.open_before in
          let after : used_by_stage (facts ++ one ∷ []) ≡ 1 =
          ap (λ o. used_of o (stage_end run stage (facts ++ one ∷ []))) now
          ∙ ap (used_of (Some one)) end in
          omega (arith, before, after)

      ended : (told : Event) → IsEnd facts told → one.event ≡ told →
          is_about (Stage run stage) one ≡ true →
          1 + used_by_stage facts ≤ used_by_stage (facts ++ one ∷ [])
      ended told is e about =
          let now = touched ends_it facts one (true_and (is_about (Stage run stage) one)
          (is_stage_end one.event) about (ap is_stage_end e ∙ is.ends)) in
          let le = open_used (stage_start run stage facts) in
          let before : used_by_stage facts ≡ used_of (stage_start run stage facts) None =
          ap (used_of (stage_start run stage facts)) is.open_before in
          let after : used_by_stage (facts ++ one ∷ []) ≡ 2 =
          ap (used_of (stage_start run stage (facts ++ one ∷ []))) now in
          omega (arith, before, after, le)

      by_event : (told : Event) → one.event ≡ told → Gives facts moment told →
          is_about (Stage run stage) one ≡ true →
          same_key (key_of told) (Stage run stage) ≡ true →
          1 + used_by_stage facts ≤ used_by_stage (facts ++ one ∷ [])
      by_event (event.StageStarted r s) e is about same =
          let key : Stage r s ≡ Stage run stage = exact_key (Stage r s) (Stage run stage) same in
          let a : r ≡ run = cc in
          let b : s ≡ stage = cc in
          let waits = is.eligible.waits in
          started (event.StageStarted r s) (record {
            unstarted = subst (λ x. stage_start run x facts ≡ None) b
                (subst (λ x. stage_start x s facts ≡ None) a
                (waiting_unstarted is.one r s facts waits));
            open_before = subst (λ x. stage_end run x facts ≡ None) b
                (subst (λ x. stage_end x s facts ≡ None) a
                (waiting_open is.one r s facts waits));
            starts = refl;
            no_end = refl;
          }) e about
      by_event (event.StageEnded r s outcome rule) e is about same =
          let key : Stage r s ≡ Stage run stage = exact_key (Stage r s) (Stage run stage) same in
          let a : r ≡ run = cc in
          let b : s ≡ stage = cc in
          ended (event.StageEnded r s outcome rule) (record {
            open_before = subst (λ x. stage_end run x facts ≡ None) b
                (subst (λ x. stage_end x s facts ≡ None) a is);
            ends = refl;
          }) e about
      by_event (event.JobEnded outcome reported s j r rule outputs) e is about same = absurd (cc)
      by_event (event.FilePut file) e is about same = absurd is
      by_event (event.FileRemoved key) e is about same = absurd is
      by_event (event.PipelineSet told) e is about same = absurd is
      by_event (event.ResourceSet told) e is about same = absurd is
      by_event (event.PrincipalSet told) e is about same = absurd is
      by_event (event.AgentSet told) e is about same = absurd is
      by_event (event.RunQueued told) e is about same = absurd is
      by_event (event.DecisionMade r s approver approve) e is about same = absurd is
      by_event (event.JobTaken r s j agent) e is about same = absurd is
      by_event (event.RunCanceled r) e is about same = absurd is

      go : (b : Bool) → is_about (Stage run stage) one ≡ b →
          cond b 1 0 + used_by_stage facts ≤ used_by_stage (facts ++ one ∷ [])
      go true about = by_event one.event refl due about
          (named one one.event (Stage run stage) refl about)
      go false about =
          let start = untouched starts_it facts one
          (false_and (is_about (Stage run stage) one) (is_start one.event) about) in
          let end = untouched ends_it facts one
          (false_and (is_about (Stage run stage) one) (is_stage_end one.event) about) in
          let e : used_by_stage (facts ++ one ∷ []) ≡ used_by_stage facts =
          ap (λ o. used_of o (stage_end run stage (facts ++ one ∷ []))) start
          ∙ ap (used_of (stage_start run stage facts)) end in
          omega (arith, e)

  stage_twice : (facts added : List Fact) → Adds moment facts added →
      count_by (is_about (Stage run stage)) added ≤ 2
  stage_twice facts added adds = at_most (is_about (Stage run stage)) used_by_stage 2 moment
      stage_step
      (λ before. at_most_two (stage_start run stage before) (stage_end run stage before))
      facts added adds

pub once : (moment : ℕ) (facts added : List Fact) → Adds moment facts added → IsOnce added
once moment facts added adds = record {
  job = λ run stage one. job_once run stage one moment facts added adds;
  stage = λ run stage. stage_twice run stage moment facts added adds;
}
