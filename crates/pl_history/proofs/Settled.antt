-- Each entry of a history begins with what was due, and leaves no gap there.
use Rattle.std.proofs.Common.{◌≡◌, ℕ, List, [], ◌∷◌, ◌++◌, None, sym, ap, subst, ◌∙◌}
use Rattle.std.proofs.lemmas.List.{append-nil, append_assoc}
use Rattle.pl_step.specs.Below.pl_answers.specs.declared.answer.Answer.{Answer}
use Rattle.pl_granting_laws.specs.Below.pl_settling.specs.Below.pl_due.specs.Due.{IsDue}
use Rattle.pl_facts.specs.declared.entry.Entry.{Entry}
use Rattle.pl_facts.specs.declared.fact.Fact.{Fact}
use Rattle.pl_history.specs.Legal.{Legal, LegalFrom}
use Rattle.pl_history.specs.History.{Opening, held_of, log_of}
use Rattle.pl_history.specs.Settled.{EachSettles, IsSettled}
use Rattle.pl_journal.specs.Log.{Log}
use Rattle.pl_step.specs.Below.pl_queueing.specs.Queueing.{Made}
use Rattle.pl_requests.specs.declared.call.Call.{Call}
use Rattle.pl_requests.specs.declared.request.Request.{Request}
use Rattle.pl_requests.specs.declared.request.Request.TheVariants as request
use Rattle.pl_granting_laws.specs.Below.pl_settling.specs.Laws.{Gap}
use Rattle.pl_granting_laws.specs.Below.pl_settling.specs.Settles.{Settles}
use Rattle.pl_step.specs.Answering.{Answers}
use Rattle.pl_step.specs.Full.{with_facts}
use Rattle.pl_step.specs.Step.{SettlesFor, happened}
use Rattle.pl_step.specs.declared.held.Held.{Held}
use Rattle.pl_history.proofs.Entering.{IsEntered}
use Rattle.pl_history.proofs.Standing.{entered, facts_more, first_facts}

-- where nothing is due there is no gap
abbrev pub NoGap : Type 0
NoGap = (moment : ℕ) (facts : List Fact) → IsDue facts moment None → (run stage : ℕ) →
    ¬ Gap facts moment run stage

-- behind what was due nothing is
pub none_behind : (moment : ℕ) (facts due : List Fact) → Settles moment facts due →
    IsDue (facts ++ due) moment None
none_behind moment facts [] none =
    subst (λ (fs : List Fact). IsDue fs moment None) (sym (append-nil facts)) none
none_behind moment facts (one ∷ due) (is, at, rest) =
    subst (λ (fs : List Fact). IsDue fs moment None) (append_assoc facts (one ∷ []) due)
    (none_behind moment (facts ++ one ∷ []) due rest)

-- a shutdown adds nothing
settled_for : (log : Log) (moment : ℕ) (who : List ℕ) (made : Made) (asked : Request)
    (answer : Answer) (facts due : List Fact) → SettlesFor asked moment facts due →
    Answers log moment who made asked answer →
    ¬ (due ++ happened moment answer.event ≡ []) → Settles moment facts due
settled_for log moment who made request.Shutdown answer facts due none is some =
    absurd (some (ap (λ (more : List Fact). more ++ happened moment answer.event) none
    ∙ ap (λ (told : Answer). happened moment told.event) is))
settled_for log moment who made _ answer facts due settles is some = settles

entry_settled : NoGap → (held : Held) (log : Log) (call : Call) (made : Made) (added : List Fact) →
    IsEntered held log call made added → ¬ (added ≡ []) → IsSettled log.facts call added
entry_settled no_gap held log call made added is some =
    let settles : Settles call.moment log.facts is.due =
    settled_for (with_facts log is.due) call.moment is.who made call.request is.answer log.facts
    is.due is.settles is.answers (λ none. some (is.are ∙ none)) in
    record {
      due = is.due;
      settles = settles;
      told = is.answer.event;
      are = is.are;
      no_gap = λ run stage. no_gap call.moment (log.facts ++ is.due)
          (none_behind call.moment log.facts is.due settles) run stage;
    }

settles_from : NoGap → (opening : Opening) (before entries : List Entry) →
    LegalFrom opening before entries → EachSettles (log_of opening before).facts entries
settles_from no_gap opening before [] legal = tt
settles_from no_gap opening before (entry ∷ entries) legal =
    let is = entered opening before entry legal.0 in (
      entry_settled no_gap (held_of opening before) (log_of opening before) entry.call is.0 entry.facts
          is.1 (legal.0).adds,
      subst (λ (fs : List Fact). EachSettles fs entries) (sym (facts_more opening before entry))
          (settles_from no_gap opening (before ++ entry ∷ []) entries legal.1),
    )

pub settles_all : NoGap → (opening : Opening) (entries : List Entry) → Legal opening entries →
    EachSettles opening.facts entries
settles_all no_gap opening entries legal =
    subst (λ (fs : List Fact). EachSettles fs entries) (first_facts opening)
    (settles_from no_gap opening [] entries legal)
