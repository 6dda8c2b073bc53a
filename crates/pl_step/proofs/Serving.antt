-- A call that is served: what is due, then what happens by it, and the entry of both.
use Rattle.std.proofs.Common.{◌≡◌, ℕ, List, length, drop, ap, ◌∙◌, subst}
use Rattle.pl_answers.specs.declared.answer.Answer.{Answer}
use Rattle.pl_facts.specs.declared.fact.Fact.{Fact}
use Rattle.pl_journal.specs.Log.{Log}
use Rattle.pl_queueing.specs.Queueing.{Made}
use Rattle.pl_requests.specs.declared.call.Call.{Call}
use Rattle.pl_step.specs.Answering.{Answers}
use Rattle.pl_step.specs.Full.{back, with_facts}
use Rattle.pl_step.specs.Step.{Serves, SettlesFor, given, happened, stepped_with}
use Rattle.pl_step.specs.declared.held.Held.{Held}
use Rattle.pl_step.specs.declared.stepped.Stepped.{Stepped}
use Rattle.pl_step.proofs.Behind.{added, back_to}

module _ (held : Held) (log : Log) (call : Call) (made : Made) (who : List ℕ)
    (all : log.installed ≡ length log.facts) (due : List Fact)
    (settles : SettlesFor call.request call.moment log.facts due) (mid new : Log)
    (settled : mid ≡ with_facts log due) (answer : Answer)
    (answers : Answers mid call.moment who made call.request answer)
    (pushed : new ≡ with_facts mid (happened call.moment answer.event))
    (from : ℕ) (is : from ≡ length log.facts) where
  abbrev Gives : Log → List Fact → Stepped → Type 0
  Gives before facts stepped =
      stepped ≡ given held before call.request (stepped_with answer.reply facts)

  pub serves : (end : Log) (stepped : Stepped) → (stepped ≡ given held (back new) call.request
      (stepped_with answer.reply (drop from new.facts)))
      × (end ≡ with_facts (back new) stepped.added) →
      Serves held log call made who stepped × (end ≡ with_facts log stepped.added)
  serves end stepped (gives, ends) =
      let more = happened call.moment answer.event in
      let same = back_to log all due more mid new settled pushed in
      let these = added log all due more mid new settled pushed from is in (
        record {
          due = due;
          settles = settles;
          answer = answer;
          answers = subst (λ before. Answers before call.moment who made call.request answer)
              settled answers;
          gives = subst (λ facts. Gives log facts stepped) these
              (subst (λ before. Gives before (drop from new.facts) stepped) same gives);
        },
        ends ∙ ap (λ before. with_facts before stepped.added) same,
      )
