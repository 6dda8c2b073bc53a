-- A call that claims a job, or asks for the rule, is answered on the settled facts.
use Rattle.std.proofs.Common.{◌≡◌, ◌↔◌, ◌++◌, ℕ, Bool, true, false, List, Option, Some, None}
use Rattle.std.proofs.Common.{refl, sym, ap, subst, ◌∙◌, inl, inr, if◌then◌else◌}
use Rattle.std.proofs.lemmas.List.{append-nil}
use Rattle.std.proofs.lemmas.Option.{none-some}
use Rattle.pl_step.specs.Below.pl_answers.specs.declared.answer.Answer.{Answer}
use Rattle.pl_granting_laws.specs.Below.pl_settling.specs.Below.pl_due.specs.Due.{IsDue}
use Rattle.pl_facts.specs.declared.entry.Entry.{Entry}
use Rattle.pl_facts.specs.declared.fact.Fact.{Fact}
use Rattle.pl_granting_laws.specs.Below.pl_granting.specs.Broken.{Broken}
use Rattle.pl_granting_laws.specs.Below.pl_granting.specs.Grantable.{AreDone, IsGrantable}
use Rattle.pl_granting_laws.specs.Below.pl_granting.specs.Named.{IsJobOf, JobOf, job_named}
use Rattle.pl_history.specs.Legal.{Legal}
use Rattle.pl_history.specs.History.{Opening, held_of, log_of}
use Rattle.pl_step.specs.Below.pl_jobs.specs.Granting.{AsAgent, AsksAs, ClaimsAs, why_answer}
use Rattle.pl_journal.specs.Log.{Log}
use Rattle.pl_journal.specs.Settings.{agent, principal_with}
use Rattle.pl_step.specs.Below.pl_queueing.specs.Queueing.{Made}
use Rattle.pl_requests.specs.declared.call.Call.{Call}
use Rattle.pl_requests.specs.declared.request.JobName.{JobName}
use Rattle.pl_requests.specs.declared.request.Request.{Request}
use Rattle.pl_requests.specs.declared.request.Request.TheVariants as request
use Rattle.pl_requests.specs.declared.settings.AgentSetting.{AgentSetting}
use Rattle.pl_requests.specs.declared.settings.PrincipalSetting.{PrincipalSetting}
use Rattle.pl_rules.specs.declared.rule.Rule.{Rule}
use Rattle.pl_rules.specs.declared.rule.Rule.TheVariants as rules
use Rattle.pl_granting_laws.specs.Below.pl_settling.proofs.Adding.{added_so}
use Rattle.pl_history.specs.Claims.{IsAnsweredExactly, IsCallOf, IsClaim, IsFull, IsOrderly}
use Rattle.pl_history.specs.Claims.{IsQuestion, IsToldExactly}
use Rattle.pl_granting_laws.specs.Below.pl_settling.specs.Settles.{Settles}
use Rattle.pl_step.specs.Answering.{Answers}
use Rattle.pl_step.specs.Callers.{may_call}
use Rattle.pl_step.specs.Full.{is_too_much, with_facts}
use Rattle.pl_step.specs.Step.{IsStep, Serves, SettlesFor, StepsAs, given, happened, refusing}
use Rattle.pl_step.specs.Step.{stepped_with}
use Rattle.pl_step.specs.declared.held.Held.{Held}
use Rattle.pl_step.specs.declared.stepped.Stepped.{Stepped}
use Rattle.pl_history.proofs.Granted.{answered, named_there, only}
use Rattle.pl_history.proofs.Orderly.{Coming, Settling, orderly_all}
use Rattle.pl_history.proofs.Settled.{none_behind}

-- ---- the laws that it takes

-- facts and a moment leave no choice in what is due
abbrev pub OneSettling : Type 0
OneSettling = (moment : ℕ) (facts left right : List Fact) → Settles moment facts left →
    Settles moment facts right → left ≡ right

abbrev pub Exactly : Type 0
Exactly = (facts : List Fact) (moment : ℕ) (who : AgentSetting) (at : JobOf) →
    IsJobOf facts at → AreDone facts → IsDue facts moment None →
    Broken facts moment who at None ↔ IsGrantable facts who at

abbrev pub OneRule : Type 0
OneRule = (facts : List Fact) (moment : ℕ) (who : AgentSetting) (at : JobOf)
    (left right : Option Rule) → Broken facts moment who at left →
    Broken facts moment who at right → left ≡ right

-- ---- a call that is answered

-- by somebody who is known and may make it
served_by : (held : Held) (log : Log) (call : Call) (made : Made) (stepped : Stepped)
    (caller : PrincipalSetting) (o : Option PrincipalSetting) → o ≡ Some caller →
    may_call caller call.request ≡ true → StepsAs held log call made stepped o →
    Serves held log call made caller.name stepped
served_by held log call made stepped caller None known may is = absurd (none-some caller known)
served_by held log call made stepped caller (Some other) known may (inl refused) =
    let same : other ≡ caller = cc in
    let e : false ≡ true = sym refused.0
    ∙ ap (λ (p : PrincipalSetting). may_call p call.request) same ∙ may in absurd (cc)
served_by held log call made stepped caller (Some other) known may (inr serves) =
    let same : other ≡ caller = cc in
    subst (λ (p : PrincipalSetting). Serves held log call made p.name stepped) same serves.1

-- where the journal isn't full, all is given
unless_full : (held : Held) (log : Log) (asked : Request) (stepped whole : Stepped) →
    stepped ≡ given held log asked whole → ¬ IsFull stepped → stepped ≡ whole
unless_full held log asked stepped whole is room =
    by_full (is_too_much held log asked whole.added) refl
  where
    by_full : (full : Bool) →
        is_too_much held log asked whole.added ≡ full → stepped ≡ whole
    by_full true full = absurd (room (is
        ∙ ap (λ (b : Bool). if b then refusing 409 rules.JournalFull else whole) full))
    by_full false full = is
        ∙ ap (λ (b : Bool). if b then refusing 409 rules.JournalFull else whole) full

-- what an agent of a name is answered is what the one of that name is
answered_as : (facts : List Fact) (name : List ℕ) (who : AgentSetting)
    (R : AgentSetting → Answer → Type 0) (answer : Answer) → agent name facts ≡ Some who →
    AsAgent facts name R answer → R who answer
answered_as facts name who R answer known (inl unknown) =
    absurd (none-some who (sym unknown.0 ∙ known))
answered_as facts name who R answer known (inr (other, also, is)) =
    let e : Some other ≡ Some who = sym also ∙ known in
    let same : other ≡ who = cc in
    subst (λ (a : AgentSetting). R a answer) same is

-- the answer to such a call, on the facts with what was due
pub record IsAnswer (log : Log) (call : Call) (made : Made) (caller : PrincipalSetting)
    (due : List Fact) (asked : Request) (stepped : Stepped) : Type 0 where
  pub answer : Answer
  pub answers : Answers (with_facts log due) call.moment caller.name made asked answer
  pub gives : stepped ≡ stepped_with answer.reply (due ++ happened call.moment answer.event)

module _ (one : OneSettling) (held : Held) (log : Log) (call : Call) (made : Made)
    (stepped : Stepped) (is : IsStep held log call made stepped) (room : ¬ IsFull stepped)
    (caller : PrincipalSetting) (due : List Fact) (of_call : IsCallOf log call caller due)
    (asked : Request) (asks : call.request ≡ asked)
    (unless_shut : (facts : List Fact) → SettlesFor asked call.moment log.facts facts →
    Settles call.moment log.facts facts) where
  serves : Serves held log call made caller.name stepped
  serves = served_by held log call made stepped caller
      (principal_with log.admin call.caller.bytes log.facts) of_call.known of_call.may is

  same_due : serves.due ≡ due
  same_due = one call.moment log.facts serves.due due (unless_shut serves.due
      (subst (λ (told : Request). SettlesFor told call.moment log.facts serves.due) asks
      serves.settles)) of_call.settles

  pub answer_of : IsAnswer log call made caller due asked stepped
  answer_of = record {
    answer = serves.answer;
    answers =
        subst (λ (told : Request).
        Answers (with_facts log due) call.moment caller.name made told serves.answer) asks
        (subst (λ (facts : List Fact).
        Answers (with_facts log facts) call.moment caller.name made call.request serves.answer)
        same_due serves.answers);
    gives =
        unless_full held log call.request stepped (stepped_with serves.answer.reply
        (serves.due ++ happened call.moment serves.answer.event)) serves.gives room
        ∙ ap (λ (facts : List Fact). stepped_with serves.answer.reply
        (facts ++ happened call.moment serves.answer.event)) same_due;
  }

-- ---- behind a legal history

why_adds : (moment : ℕ) (due : List Fact) (found : Option Rule) →
    due ++ happened moment (why_answer found).event ≡ due
why_adds moment due None = append-nil due
why_adds moment due (Some rule) = append-nil due

module _ (settling : Settling) (coming : Coming) (exactly : Exactly) (one_rule : OneRule)
    (one : OneSettling) (opening : Opening) (entries : List Entry) (first : IsOrderly opening)
    (legal : Legal opening entries) where
  abbrev settled : List Fact → List Fact
  settled due = (log_of opening entries).facts ++ due

  are_done : (moment : ℕ) (due : List Fact) →
      Settles moment (log_of opening entries).facts due → AreDone (settled due)
  are_done moment due settles =
      (settling moment (log_of opening entries).facts due
      (added_so moment (log_of opening entries).facts due settles)
      (orderly_all settling coming opening entries first legal).orderly).done

  exactly_at : (moment : ℕ) (due : List Fact) →
      Settles moment (log_of opening entries).facts due → (name : JobName) (who : AgentSetting)
      (at : JobOf) → job_named name (settled due) ≡ Some at →
      Broken (settled due) moment who at None ↔ IsGrantable (settled due) who at
  exactly_at moment due settles name who at is =
      exactly (settled due) moment who at (named_there name (settled due) at is)
      (are_done moment due settles)
      (none_behind moment (log_of opening entries).facts due settles)

  pub claim_all : (call : Call) (made : Made) (stepped : Stepped) →
      IsStep (held_of opening entries) (log_of opening entries) call made stepped →
      (name : JobName) (who : AgentSetting) (due : List Fact) →
      IsClaim (log_of opening entries) call name who due → ¬ IsFull stepped →
      IsAnsweredExactly (settled due) call.moment name who due stepped
  claim_all call made stepped is name who due claim room =
      let told = answer_of one (held_of opening entries) (log_of opening entries) call made stepped is room
      claim.caller due claim.made (request.Claim name) claim.claims (λ facts settles. settles) in
      let claims : ClaimsAs (settled due) call.moment name who told.answer =
      answered_as (settled due) claim.caller.name who (ClaimsAs (settled due) call.moment name)
      told.answer claim.named told.answers in
      answered (settled due) call.moment who name
      (exactly_at call.moment due claim.made.settles name who)
      (one_rule (settled due) call.moment who) due stepped claims.0 claims.1
      (told.gives ∙ ap (λ (answer : Answer).
      stepped_with answer.reply (due ++ happened call.moment answer.event)) claims.2)

  pub why_all : (call : Call) (made : Made) (stepped : Stepped) →
      IsStep (held_of opening entries) (log_of opening entries) call made stepped →
      (name : JobName) (who : AgentSetting) (due : List Fact) →
      IsQuestion (log_of opening entries) call name who due → ¬ IsFull stepped →
      IsToldExactly (settled due) call.moment name who due stepped
  why_all call made stepped is name who due question room =
      let told = answer_of one (held_of opening entries) (log_of opening entries) call made stepped is room
      question.caller due question.made (request.Why name question.asked) question.asks
      (λ facts settles. settles) in
      let asks : AsksAs (settled due) call.moment name who told.answer =
      answered_as (settled due) question.asked who (AsksAs (settled due) call.moment name)
      told.answer question.named told.answers in
      record {
        found = asks.0;
        broken = asks.1;
        exactly = only (settled due) call.moment who name
            (exactly_at call.moment due question.made.settles name who)
            (one_rule (settled due) call.moment who) asks.0 asks.1;
        told =
            told.gives
            ∙ ap (λ (answer : Answer).
            stepped_with answer.reply (due ++ happened call.moment answer.event)) asks.2
            ∙ ap (stepped_with (why_answer asks.0).reply) (why_adds call.moment due asks.0);
      }
