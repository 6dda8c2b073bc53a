-- What an entry's facts are: those that were due, and one that happens by the request.
use Rattle.std.proofs.Common.{◌≡◌, ℕ, Bool, true, false, List, [], ◌∷◌, ◌++◌, Option, Some}
use Rattle.std.proofs.Common.{None}
use Rattle.std.proofs.Common.{refl, sym, ap, subst, inl, inr}
use Rattle.pl_step.specs.Below.pl_answers.specs.declared.answer.Answer.{Answer}
use Rattle.pl_facts.specs.declared.fact.Fact.{Fact}
use Rattle.pl_journal.specs.Log.{Log}
use Rattle.pl_journal.specs.Settings.{principal_with}
use Rattle.pl_step.specs.Below.pl_queueing.specs.Queueing.{Made}
use Rattle.pl_requests.specs.declared.call.Call.{Call}
use Rattle.pl_requests.specs.declared.reply.Reply.{Reply}
use Rattle.pl_requests.specs.declared.request.Request.{Request}
use Rattle.pl_requests.specs.declared.settings.PrincipalSetting.{PrincipalSetting}
use Rattle.pl_step.specs.Answering.{Answers}
use Rattle.pl_step.specs.Full.{is_full, with_facts}
use Rattle.pl_step.specs.Step.{IsStep, Serves, SettlesFor, StepsAs, given, happened}
use Rattle.pl_step.specs.Step.{stepped_with}
use Rattle.pl_step.specs.declared.held.Held.{Held}
use Rattle.pl_step.specs.declared.stepped.Stepped.{Stepped}

-- who calls, what was due, and what the request is answered
pub record IsEntered (held : Held) (log : Log) (call : Call) (made : Made) (added : List Fact) :
    Type 0 where
  pub who : List ℕ
  pub due : List Fact
  pub settles : SettlesFor call.request call.moment log.facts due
  pub answer : Answer
  pub answers : Answers (with_facts log due) call.moment who made call.request answer
  pub are : added ≡ due ++ happened call.moment answer.event
  pub room : is_full held log call.request added ≡ false

-- what is given with facts was given whole
given_whole : (held : Held) (log : Log) (asked : Request) (reply : Reply) (stepped : Stepped)
    (all : List Fact) → ¬ (stepped.added ≡ []) →
    stepped ≡ given held log asked (stepped_with reply all) →
    (stepped.added ≡ all) × (is_full held log asked all ≡ false)
given_whole held log asked reply stepped [] some is =
    absurd (some (ap (λ (s : Stepped). s.added) is))
given_whole held log asked reply stepped (fact ∷ more) some is =
    by_full (is_full held log asked (fact ∷ more)) refl
  where
    by_full : (full : Bool) →
        is_full held log asked (fact ∷ more) ≡ full →
        (stepped.added ≡ fact ∷ more)
        × (is_full held log asked (fact ∷ more) ≡ false)
    by_full true full = absurd (some (ap (λ (s : Stepped). s.added) (rw full at is)))
    by_full false full = (ap (λ (s : Stepped). s.added) (rw full at is), full)

module _ (held : Held) (log : Log) (call : Call) (made : Made) (reply : Reply) (added : List Fact)
    (some : ¬ (added ≡ [])) where
  served : (who : PrincipalSetting) →
      Serves held log call made who.name (stepped_with reply added) →
      IsEntered held log call made added
  served who serves =
      let whole = given_whole held log call.request serves.answer.reply (stepped_with reply added)
      (serves.due ++ happened call.moment serves.answer.event) some serves.gives in
      record {
        who = who.name;
        due = serves.due;
        settles = serves.settles;
        answer = serves.answer;
        answers = serves.answers;
        are = whole.0;
        room =
            subst (λ (all : List Fact). is_full held log call.request all ≡ false)
            (sym whole.0) whole.1;
      }

  by_caller : (caller : Option PrincipalSetting) →
      StepsAs held log call made (stepped_with reply added) caller →
      IsEntered held log call made added
  by_caller None is = absurd (some (ap (λ (s : Stepped). s.added) is))
  by_caller (Some who) (inl refused) =
      absurd (some (ap (λ (s : Stepped). s.added) refused.1))
  by_caller (Some who) (inr serves) = served who serves.1

  pub entered_by : IsStep held log call made (stepped_with reply added) →
      IsEntered held log call made added
  entered_by is = by_caller (principal_with log.admin call.caller.bytes log.facts) is
