-- Which fact is found, by what it is about and its kind.
use Rattle.std.proofs.Common.{◌≡◌, ◌&&◌, ℕ, Bool, true, false, true≢false, List, Option, Some, None}
use Rattle.std.proofs.Common.{refl, sym, ap, subst, ◌∙◌}
use Rattle.std.specs.Ordering.{is_eq}
use Rattle.std.specs.Cmp.Lexicographic.{same_text, texts_ties}
use Rattle.std.specs.Option.{option_and_then, option_map}
use Rattle.pl_base.specs.Files.{text_cmp}
use Rattle.pl_base.specs.declared.outcome.Outcome.{Outcome}
use Rattle.pl_opening_laws.specs.Below.pl_opening.specs.Below.pl_due.proofs.Standing.{first_of_two, second_of_two}
use Rattle.pl_facts.specs.declared.fact.Event.{Event}
use Rattle.pl_facts.specs.declared.fact.Event.TheVariants as event
use Rattle.pl_facts.specs.declared.fact.Fact.{Fact}
use Rattle.pl_facts.specs.declared.fact.QueuedRun.{QueuedRun}
use Rattle.pl_journal.specs.About.{is_about, key_of, latest_about, latest_of}
use Rattle.pl_journal.specs.Kinds.{is_canceling, is_decision_by, is_job_end, is_queueing}
use Rattle.pl_journal.specs.Kinds.{is_stage_end, is_start, is_taking}
use Rattle.pl_journal.specs.Settings.{by}
use Rattle.pl_log.proofs.Naming.{exact_key}
use Rattle.pl_log.specs.Keys.{same_key, Named}
use Rattle.pl_log.specs.Keys as key
use Rattle.pl_rules.specs.declared.rule.Rule.{Rule}
use Rattle.pl_same_step.specs.Below.pl_same_lookups.proofs.Finding.{never, passes}

-- ---- what is told of each is told of both

module _ {X R : Type 0} (P : X → Type 0) (read : R → Option X) where
  -- what may be there is read again of what is told of it
  told_back : (make : X → Option R) → ((x : X) → P x → option_and_then read (make x) ≡ Some x) →
      (o : Option X) → ((x : X) → o ≡ Some x → P x) →
      option_and_then read (option_and_then make o) ≡ o
  told_back make back None has = refl
  told_back make back (Some x) has = back x (has x refl)

  pub one_told : (make : X → Option R) →
      ((x : X) → P x → option_and_then read (make x) ≡ Some x) → (o p : Option X) →
      ((x : X) → o ≡ Some x → P x) → ((x : X) → p ≡ Some x → P x) →
      option_and_then make o ≡ option_and_then make p → o ≡ p
  one_told make back o p left right e = sym (told_back make back o left)
      ∙ (ap (option_and_then read) e ∙ told_back make back p right)

  made_back : (make : X → R) → ((x : X) → P x → read (make x) ≡ Some x) → (o : Option X) →
      ((x : X) → o ≡ Some x → P x) → option_and_then read (option_map make o) ≡ o
  made_back make back None has = refl
  made_back make back (Some x) has = back x (has x refl)

  pub one_made : (make : X → R) → ((x : X) → P x → read (make x) ≡ Some x) →
      (o p : Option X) → ((x : X) → o ≡ Some x → P x) → ((x : X) → p ≡ Some x → P x) →
      option_map make o ≡ option_map make p → o ≡ p
  one_made make back o p left right e = sym (made_back make back o left)
      ∙ (ap (option_and_then read) e ∙ made_back make back p right)

-- ---- settings have the names that they are found by

pub named_by : {X : Type 0} (tell : Event → Option X) (named : Named) (P : X → Type 0) →
    ((one : Event) (x : X) → tell one ≡ Some x → same_key (key_of one) named ≡ true → P x) →
    (facts : List Fact) (x : X) → by tell (latest_about named facts) ≡ Some x → P x
named_by {X} tell named P of facts x e = go (latest_about named facts) refl e where
  go : (o : Option Fact) → latest_about named facts ≡ o → by tell o ≡ Some x → P x
  go None f g = absurd (never x g)
  go (Some fact) f g = of fact.event x g (passes (is_about named) facts fact f)

-- ---- facts of each kind

-- the event of a fact of a kind about something
module _ (named : Named) (kind : Event → Bool) where
  abbrev IsIt : Event → Type 0
  IsIt one = (same_key (key_of one) named && kind one) ≡ true

  pub found_is : (P : Event → Type 0) → ((one : Event) → IsIt one → P one) → (facts : List Fact)
      (fact : Fact) → latest_of named kind facts ≡ Some fact → P fact.event
  found_is P of facts fact e =
      of fact.event (passes (λ it. is_about named it && kind it.event) facts fact e)

  about : (one : Event) → IsIt one → key_of one ≡ named
  about one is = exact_key (key_of one) named
      (first_of_two (same_key (key_of one) named) (kind one) is)

  -- a fact of another kind isn't it
  pub of_kind : (one : Event) → IsIt one → kind one ≡ true
  of_kind one is = second_of_two (same_key (key_of one) named) (kind one) is

abbrev pub IsQueued : ℕ → Event → Type 0
IsQueued run one = (told : QueuedRun) × (one ≡ event.RunQueued told) × (told.run ≡ run)

pub queueing_is : (run : ℕ) (one : Event) → IsIt (key.Run run) is_queueing one → IsQueued run one
queueing_is run (event.RunQueued told) is =
    let k : key.Run told.run ≡ key.Run run =
    about (key.Run run) is_queueing (event.RunQueued told) is in
    let n : told.run ≡ run = cc in
    (told, refl, n)
queueing_is run one is = absurd (true≢false (sym (of_kind (key.Run run) is_queueing one is)))

pub canceling_is : (run : ℕ) (one : Event) → IsIt (key.Run run) is_canceling one →
    one ≡ event.RunCanceled run
canceling_is run (event.RunCanceled r) is =
    let k : key.Run r ≡ key.Run run = about (key.Run run) is_canceling (event.RunCanceled r) is in
    let n : r ≡ run = cc in
    ap event.RunCanceled n
canceling_is run one is = absurd (true≢false (sym (of_kind (key.Run run) is_canceling one is)))

pub start_is : (run stage : ℕ) (one : Event) → IsIt (key.Stage run stage) is_start one →
    one ≡ event.StageStarted run stage
start_is run stage (event.StageStarted r s) is =
    let k : key.Stage r s ≡ key.Stage run stage =
    about (key.Stage run stage) is_start (event.StageStarted r s) is in
    let m : r ≡ run = cc in
    let n : s ≡ stage = cc in
    λ i. event.StageStarted (m i) (n i)
start_is run stage one is =
    absurd (true≢false (sym (of_kind (key.Stage run stage) is_start one is)))

abbrev pub IsStageEnd : ℕ → ℕ → Event → Type 0
IsStageEnd run stage one = (outcome : Outcome) × (rule : Option Rule)
    × (one ≡ event.StageEnded run stage outcome rule)

pub end_is : (run stage : ℕ) (one : Event) → IsIt (key.Stage run stage) is_stage_end one →
    IsStageEnd run stage one
end_is run stage (event.StageEnded r s outcome rule) is =
    let k : key.Stage r s ≡ key.Stage run stage =
    about (key.Stage run stage) is_stage_end (event.StageEnded r s outcome rule) is in
    let m : r ≡ run = cc in
    let n : s ≡ stage = cc in
    (outcome, rule, λ i. event.StageEnded (m i) (n i) outcome rule)
end_is run stage one is =
    absurd (true≢false (sym (of_kind (key.Stage run stage) is_stage_end one is)))

abbrev pub IsTaking : ℕ → ℕ → ℕ → Event → Type 0
IsTaking run stage job one = (agent : List ℕ) × (one ≡ event.JobTaken run stage job agent)

pub taking_is : (run stage job : ℕ) (one : Event) → IsIt (key.Job run stage job) is_taking one →
    IsTaking run stage job one
taking_is run stage job (event.JobTaken r s j agent) is =
    let k : key.Job r s j ≡ key.Job run stage job =
    about (key.Job run stage job) is_taking (event.JobTaken r s j agent) is in
    let l : r ≡ run = cc in
    let m : s ≡ stage = cc in
    let n : j ≡ job = cc in
    (agent, λ i. event.JobTaken (l i) (m i) (n i) agent)
taking_is run stage job one is =
    absurd (true≢false (sym (of_kind (key.Job run stage job) is_taking one is)))

abbrev pub IsJobEnd : ℕ → ℕ → ℕ → Event → Type 0
IsJobEnd run stage job one = (outcome : Outcome) × (reported : Option Outcome)
    × (rule : Option Rule) × (outputs : List (List ℕ × List ℕ))
    × (one ≡ event.JobEnded outcome reported stage job run rule outputs)

pub job_end_is : (run stage job : ℕ) (one : Event) →
    IsIt (key.Job run stage job) is_job_end one → IsJobEnd run stage job one
job_end_is run stage job (event.JobEnded outcome reported s j r rule outputs) is =
    let k : key.Job r s j ≡ key.Job run stage job = about (key.Job run stage job) is_job_end
    (event.JobEnded outcome reported s j r rule outputs) is in
    let l : r ≡ run = cc in
    let m : s ≡ stage = cc in
    let n : j ≡ job = cc in (
      outcome,
      reported,
      rule,
      outputs,
      λ i. event.JobEnded outcome reported (m i) (n i) (l i) rule outputs,
    )
job_end_is run stage job one is =
    absurd (true≢false (sym (of_kind (key.Job run stage job) is_job_end one is)))

abbrev pub IsDecision : ℕ → ℕ → List ℕ → Event → Type 0
IsDecision run stage name one = (approve : Bool)
    × (one ≡ event.DecisionMade run stage name approve)

pub decision_is : (run stage : ℕ) (name : List ℕ) (one : Event) →
    IsIt (key.Stage run stage) (is_decision_by name) one → IsDecision run stage name one
decision_is run stage name (event.DecisionMade r s approver approve) is =
    let k : key.Stage r s ≡ key.Stage run stage = about (key.Stage run stage)
    (is_decision_by name) (event.DecisionMade r s approver approve) is in
    let m : r ≡ run = cc in
    let n : s ≡ stage = cc in
    let who : approver ≡ name = same_text approver name (sym (texts_ties approver name
    ∙ of_kind (key.Stage run stage) (is_decision_by name)
    (event.DecisionMade r s approver approve) is)) in
    (approve, λ i. event.DecisionMade (m i) (n i) (who i) approve)
decision_is run stage name one is =
    absurd (true≢false (sym (of_kind (key.Stage run stage) (is_decision_by name) one is)))
